-- `remove` meets its contract: what stands before the first mark is copied; what is removed from t goes behind the n bytes that stand there.
use mathlib.Core.Path.{◌≡◌}
use lib.ListN.{length}
use Rattle.port.proofs.Removal as L
use Rattle.port.proofs.marks.remove.Given as goal

abbrev pub invariant-loop-i : goal.invariant-loop-i
invariant-loop-i l = (length l.room ≡ length l.initial.room) × L.Left L.sought l.text l.room l.n l.t

abbrev pub decreases-loop-i : goal.decreases-loop-i
decreases-loop-i l = length l.t
