-- `sight` meets its contract: the first stays; before there is room, or where the keyword doesn't stand, nothing changes.
use borrow.Author.Rules.{rules}
use Rattle.port.proofs.Sighting as L
use Rattle.port.proofs.keys.sight.Goals as goal

pub returns-then-was-s : goal.returns-then-was-s
returns-then-was-s c = let q = c.requires in L.already q.1 q.2 (search rules)

pub returns-then-i-j : goal.returns-then-i-j
returns-then-i-j c = let q = c.requires in L.too_early q.1 q.2 (search rules)

pub returns-then-begins : goal.returns-then-begins
returns-then-begins c = let q = c.requires in
    L.there q.1 q.2 (search rules) c.begins.ensures (search rules) q.0 c.if-begins.true

pub returns : goal.returns
returns c = let q = c.requires in
    L.not_there q.1 q.2 (search rules) c.begins.ensures c.if-begins.false
