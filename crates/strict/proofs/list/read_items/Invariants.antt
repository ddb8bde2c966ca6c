-- `read_items` meets its contract: read up to here, and the list from here on; by the laws of Listing.
use Rattle.strict.proofs.Listing as L
use Rattle.strict.specs.Lists.{row}
use lib.ListN.{length}
use Prim.Native.Nat.{◌-◌}
use Rattle.strict.proofs.list.read_items.Given as goal

abbrev pub invariant-loop-i : goal.invariant-loop-i
invariant-loop-i g l = L.Reading g.I.Items.items l.s l.at (row l.initial.out l.len) (length l.initial.out) l.out l.n l.i

abbrev pub decreases-loop-i : goal.decreases-loop-i
decreases-loop-i g l = length l.s - l.i
