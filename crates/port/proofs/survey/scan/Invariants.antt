-- `scan` meets its contract: from anchor to anchor the match and the first places are kept.
use Prim.Native.Nat.{◌-◌}
use lib.ListN.{length}
use Rattle.port.proofs.Keeping as L
use Rattle.port.proofs.survey.scan.Given as goal

abbrev pub invariant-loop-i : goal.invariant-loop-i
invariant-loop-i l = L.Kept l.s l.d l.i l.r

abbrev pub decreases-loop-i : goal.decreases-loop-i
decreases-loop-i l = length l.s - l.i
