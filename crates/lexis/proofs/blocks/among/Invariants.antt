-- `among` meets its contract: the bytes before the index have been looked at.
use Rattle.std.proofs.Common.{◌≡◌, ◌≤◌, length, take}
use Rattle.lexis.specs.Text.{some_of}
use Rattle.lexis.proofs.blocks.among.Given as goal

abbrev pub invariant-loop-b : goal.invariant-loop-b
invariant-loop-b g l = (l.b-index ≤ length l.block) × (l.hit ≡ some_of (g.P.Pattern.matches l.p) (take l.b-index l.block))
