-- Each part in turn, the last one too.
use lib.ListN.{length}
use Rattle.meaning.specs.Tile.{dimension}
use Rattle.lists.specs.Laid.{list}
use Rattle.lists.proofs.Laying as L
use Rattle.lists.proofs.list.parse_dims.Given as goal

abbrev pub invariant-loop-t : goal.invariant-loop-t
invariant-loop-t l = L.Kept 8 l.x dimension l.s l.t (list l.l)

abbrev pub decreases-loop-t : goal.decreases-loop-t
decreases-loop-t l = length l.t
