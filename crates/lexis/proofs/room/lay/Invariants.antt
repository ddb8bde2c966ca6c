-- The first i bytes are laid.
use Rattle.lexis.proofs.Rooms.{Laid}
use Rattle.lexis.proofs.room.lay.Given as goal

abbrev pub invariant-loop-i : goal.invariant-loop-i
invariant-loop-i l = Laid l.initial.room l.what l.room l.i
