-- `parse_unmarked` meets its contract: the token, then the forms, `!cuda_tile.` taken off.
use Prim.Native.Nat.{ℕ}
use mathlib.Core.List.{List}
use Rattle.std.specs.Prelude.{Option}
use mathlib.Core.Path.{sym, ap, ◌∙◌}
use Rattle.meaning.specs.Found.{Found}
use Rattle.meaning.specs.Parts.{each}
use Rattle.lexis.specs.Text.{bytes, same}
use Rattle.port.specs.Carried.{carried, answered}
use Rattle.port.specs.Forms.{shorthand, bare, first_of}
use Rattle.port.proofs.Dispatching as L
use Rattle.port.proofs.types.parse_unmarked.Goals as goal

pub returns-then-same : goal.returns-then-same
returns-then-same c = let s = c.args.s.now in
    c.listless.ensures ∙ ap (answered c.args.marked) (L.is_token s (ap (λ (t : List ℕ). same t (bytes "token")) (sym c.unprefixed-t.ensures) ∙ sym c.same.ensures ∙ c.if-same.true))

pub returns : goal.returns
returns c = let s = c.args.s.now in
    let b = c.args.marked in
    c.parse_named.ensures ∙ ap (λ (t : List ℕ). answered b (each (carried 8) (first_of shorthand t (bare s)))) c.unprefixed-t.ensures
    ∙ ap (λ (o : Option Found). answered b (each (carried 8) o)) (L.no_token s (ap (λ (t : List ℕ). same t (bytes "token")) (sym c.unprefixed-t.ensures) ∙ sym c.same.ensures ∙ c.if-same.false))
