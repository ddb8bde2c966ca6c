-- `first` meets its contract: none of the bytes before the rest matches.
use Rattle.std.proofs.Common.{◌≡◌, ◌+◌, length}
use Rattle.lexis.specs.Text.{until}
use Rattle.lexis.proofs.blocks.first.Given as goal

abbrev pub invariant-loop-b : goal.invariant-loop-b
invariant-loop-b g l = let p = g.P.Pattern.matches l.p in length (until p l.text) + length l.rest ≡ length l.text + length (until p l.rest)

abbrev pub decreases-loop-b : goal.decreases-loop-b
decreases-loop-b g l = length l.rest
