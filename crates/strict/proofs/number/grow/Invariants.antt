-- `grow` meets its contract, by the laws of Numbers.
use Rattle.grammar.specs.Number as N
use lib.ListN.{length, drop}
use Prim.Native.Nat.{◌≤◌, ◌+◌}
use mathlib.Core.Path.{◌≡◌}
use Rattle.strict.proofs.number.grow.Given as goal

abbrev pub invariant-loop-i : goal.invariant-loop-i
invariant-loop-i l = (l.i ≤ length l.s) × (l.at ≤ l.i) × (l.n ≤ l.most) × (N.grow (l.most + 1) l.v (drop l.at l.s) ≡ N.grow (l.most + 1) l.n (drop l.i l.s))
