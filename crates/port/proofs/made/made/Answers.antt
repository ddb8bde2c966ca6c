-- `made` meets its contract: what has too many entries is refused; else each field is given as it was taken.
use mathlib.Core.Path.{◌≡◌, sym, ◌∙◌}
use borrow.Author.Rules.{rules}
use lib.IntN.{pos}
use lib.ListN.{get_or}
use mir.Syntax.{w32}
use mir.Val.{to_z, of_z}
use Rattle.port.specs.Carried.{lengths_within, recorded}
use Rattle.port.proofs.Making as L
use Rattle.port.proofs.made.made.Goals as goal

pub returns-then-not-within : goal.returns-then-not-within
unfolding lengths_within recorded
returns-then-not-within c = rw (sym c.within.ensures ∙ c.if-not-within.true) c.refuse.ensures

pub noted-note-requires : goal.noted-note-requires
unfolding lengths_within recorded
noted-note-requires c = L.few c.requires (sym c.within.ensures ∙ c.if-not-within.false)

pub returns : goal.returns
unfolding lengths_within recorded
returns c =
    let a = c.args in
    let z : to_z w32 (of_z w32 (get_or a.sparse.values 0 (pos 0))) ≡ get_or a.sparse.values 0 (pos 0) = search rules in
    rw (sym c.within.ensures ∙ c.if-not-within.false) (cc (z, L.or_false a.marked, c.noted-note.ensures))
