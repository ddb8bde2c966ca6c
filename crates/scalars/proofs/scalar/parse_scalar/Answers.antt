-- `parse_scalar` meets its contract: the entry at the index decides, or is passed; behind the last there is no name.
use Rattle.std.proofs.Common.{arith, sym, ap, ◌∙◌, ◌≡◌, drop, ℕ}
use Rattle.scalars.proofs.Listed as L
use Rattle.scalars.specs.Names.{names, named_in, scalar_name}
use Rattle.scalars.proofs.scalar.parse_scalar.Invariants.{spelt, meant, blank}
use Rattle.scalars.proofs.scalar.parse_scalar.Goals as goal

pub returns-then-same : goal.returns-then-same
unfolding scalar_name
returns-then-same c = let l = c.loop-spelling in
    sym (ap (named_in names) (sym c.trim-name.ensures) ∙ l.invariant.0 ∙ L.hit spelt meant c.trim-name.result.now blank l.invariant.1 c.loop-spelling-test.true (sym c.same.ensures ∙ c.if-same.true))

pub loop-spelling-preserved : goal.loop-spelling-preserved
loop-spelling-preserved c = let l = c.loop-spelling in
    (l.invariant.0 ∙ L.miss spelt meant c.trim-name.result.now blank l.invariant.1 c.loop-spelling-test.true (sym c.same.ensures ∙ c.if-same.false), l.invariant.1)

pub returns : goal.returns
unfolding scalar_name
returns c = let l = c.loop-spelling in let e : l.spelling-index ≡ 22 = omega arith in
    sym (ap (named_in names) (sym c.trim-name.ensures) ∙ l.invariant.0 ∙ ap (λ (k : ℕ). named_in (drop k names) c.trim-name.result.now) e)
