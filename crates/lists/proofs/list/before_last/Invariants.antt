-- Each part in turn but the last, which is left.
use lib.ListN.{length}
use Rattle.meaning.specs.Tile.{dimension}
use Rattle.lists.specs.Laid.{list}
use Rattle.lists.proofs.Laying as L
use Rattle.lists.proofs.list.before_last.Given as goal

abbrev pub invariant-loop-rest : goal.invariant-loop-rest
invariant-loop-rest l = L.Kept 8 l.x dimension l.s l.rest (list l.dims)

abbrev pub decreases-loop-rest : goal.decreases-loop-rest
decreases-loop-rest l = length l.rest
