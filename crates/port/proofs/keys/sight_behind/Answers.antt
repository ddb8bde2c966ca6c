-- `sight_behind` meets its contract: nothing before `tile=(` has been passed, else what follows it is a text of its own.
use borrow.Author.Rules.{rules}
use Rattle.port.proofs.Behinding as L
use Rattle.port.proofs.keys.sight_behind.Goals as goal

pub returns-then-s-tile : goal.returns-then-s-tile
returns-then-s-tile c = L.absent c.requires.1 (search rules)

pub returns-then-i-tile : goal.returns-then-i-tile
returns-then-i-tile c = L.before c.requires.1 (search rules)

pub returns-then-i-tile-lt6 : goal.returns-then-i-tile-lt6
returns-then-i-tile-lt6 c = L.before c.requires.1 (search rules)

pub sight-requires : goal.sight-requires
sight-requires c = let q = c.requires in
    (L.handed_in q.1 q.0 (search rules), search rules, L.handed q.1 (search rules))

pub returns : goal.returns
returns c = L.opens c.requires.1 (search rules) (search rules) c.sight.ensures
