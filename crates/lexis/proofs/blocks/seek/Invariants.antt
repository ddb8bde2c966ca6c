-- `seek` meets its contract: the bytes up to i are passed, by blocks without a hit.
use Rattle.std.proofs.Common.{◌≡◌, ◌+◌, ◌-◌, drop, length}
use Rattle.lexis.specs.Text.{until}
use Rattle.lexis.proofs.blocks.seek.Given as goal

abbrev pub invariant-loop-i : goal.invariant-loop-i
invariant-loop-i g l = let p = g.P.Pattern.matches l.p in l.from + length (until p (drop l.from l.text)) ≡ l.i + length (until p (drop l.i l.text))

abbrev pub decreases-loop-i : goal.decreases-loop-i
decreases-loop-i g l = length l.text - l.i
