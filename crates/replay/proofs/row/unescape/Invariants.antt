-- The rest of the text gets shorter, and what it stands for so far lies in the room.
use Rattle.std.proofs.Common.{◌≤◌, length}
use Rattle.replay.proofs.row.unescape.Given as goal

abbrev pub invariant-loop-b : goal.invariant-loop-b
invariant-loop-b l = l.n ≤ length l.room

abbrev pub decreases-loop-b : goal.decreases-loop-b
decreases-loop-b l = length l.t
