-- `run` meets its contract: zeros, then digits have been passed up to the rest, and wrote n.
use Rattle.std.proofs.Common.{◌≡◌, ◌≤◌, ◌<◌, ◌-◌, ◌^◌, length, drop, eqb}
use Rattle.numerals.proofs.Walking.{Running}
use Rattle.numerals.proofs.part.run.Given as goal

abbrev pub invariant-loop-b : goal.invariant-loop-b
invariant-loop-b l = let i = length l.text - length l.rest in
    Running (eqb l.x) l.text l.from i 0 × (l.rest ≡ drop i l.text) × (length l.rest ≤ length l.text)

abbrev pub decreases-loop-b : goal.decreases-loop-b
decreases-loop-b l = length l.rest

abbrev pub invariant-loop-b-2 : goal.invariant-loop-b-2
invariant-loop-b-2 l = let i = length l.text - length l.rest in
    Running (eqb l.x) l.text l.from i l.n × (l.n < 2 ^ 63) × (l.rest ≡ drop i l.text) × (length l.rest ≤ length l.text)

abbrev pub decreases-loop-b-2 : goal.decreases-loop-b-2
decreases-loop-b-2 l = length l.rest
