-- A list is clear. Invariant: whether it is clear is whether all is zero from the entry at the index on.
use Rattle.std.proofs.Common.{◌≡◌, drop, map}
use Rattle.meaning.specs.Normal.{clear, all_zero}
use Rattle.meaning.proofs.normal.clear.Given as goal

abbrev pub invariant-loop-z : goal.invariant-loop-z
invariant-loop-z g l = let is = g.T.Integer.is in clear 8 l.used l.n (map is l.l) ≡ all_zero (map is (drop l.z-index l.z-items))
