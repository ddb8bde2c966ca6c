-- `find_mark` meets its contract: the place in the whole text is `from` more than that in its rest from there on.
-- Each turn passes the first `>` behind a `#`, unless the first mark ends there.
use lib.ListN.{length, drop}
use Prim.Native.Nat.{◌≤◌, ◌-◌}
use mathlib.Core.Path.{◌≡◌}
use Rattle.lexis.specs.Text.{cut, place}
use Rattle.lexis.proofs.Seeking.{shifted}
use Rattle.meaning.specs.Ordinary.{mark}
use Rattle.port.proofs.Removal.{sought}
use Rattle.port.proofs.marks.find_mark.Given as goal

abbrev pub invariant-loop-from : goal.invariant-loop-from
invariant-loop-from l = (l.from ≤ length l.text) × (place (cut mark l.text) ≡ shifted l.from (place (cut sought (drop l.from l.text))))

abbrev pub decreases-loop-from : goal.decreases-loop-from
decreases-loop-from l = length l.text - l.from
