-- `read_item` of `ByX` meets its contract: a numeral behind one byte.
use Rattle.strict.proofs.Listing as L
use Rattle.strict.specs.Cursor.{numeral}
use Prim.Native.Nat.{◌+◌, ◌^◌}
use Rattle.strict.proofs.list.ByXItemsI32.read_item.Goals as goal

pub returns : goal.returns
returns c = L.behind_x (numeral (2 ^ 31) (2 ^ 31 + 1)) c.number32.ensures
