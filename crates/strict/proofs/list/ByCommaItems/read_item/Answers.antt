-- `read_item` of `ByComma` meets its contract: an entry behind one byte, and maybe a space.
use Rattle.strict.proofs.Listing as L
use Rattle.strict.proofs.list.ByCommaItems.read_item.Goals as goal

pub returns : goal.returns
returns g c = L.behind_comma g.E.Entry.entry c.space.ensures c.read.ensures
