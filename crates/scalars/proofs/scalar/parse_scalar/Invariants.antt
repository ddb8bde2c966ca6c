-- `parse_scalar` meets its contract: the code's list is the definition's, and its names before the index are passed.
use Rattle.std.proofs.Common.{◌≡◌, drop, ℕ, List, [], Bor}
use Rattle.scalars.specs.Names.{named_in, names}
use Rattle.scalars.specs.declared.scalar.Scalar.{Scalar}
use Rattle.scalars.specs.declared.scalar.Scalar.TheVariants.{I1}
use Rattle.scalars.proofs.Listed.{Listed}
use Rattle.scalars.proofs.scalar.parse_scalar.Given as goal

abbrev pub spelt : Bor (List ℕ) × Scalar → List ℕ
spelt x = x.0.now

abbrev pub meant : Bor (List ℕ) × Scalar → Scalar
meant x = x.1

-- what the code's list would give past its end
abbrev pub blank : Bor (List ℕ) × Scalar
blank = (record { ref_ptr = (0, 0); now = [] }, I1)

abbrev pub invariant-loop-spelling : goal.invariant-loop-spelling
invariant-loop-spelling l = (named_in names l.name ≡ named_in (drop l.spelling-index names) l.name) × Listed spelt meant l.spelling-items names
