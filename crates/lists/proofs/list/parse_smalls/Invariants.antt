-- As for dimensions, with the reader of 32-bit entries; the loop sees the default by its bits.
use lib.ListN.{length}
use Rattle.meaning.specs.Views.{small}
use Rattle.lists.specs.Laid.{list}
use Rattle.lists.proofs.Laying as L
use Rattle.lists.proofs.list.parse_smalls.Given as goal

abbrev pub invariant-loop-t : goal.invariant-loop-t
invariant-loop-t l = L.Kept 8 l.x (small l.default) l.s l.t (list l.l)

abbrev pub decreases-loop-t : goal.decreases-loop-t
decreases-loop-t l = length l.t
