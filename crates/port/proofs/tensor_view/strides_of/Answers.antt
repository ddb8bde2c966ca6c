-- `strides_of` meets its contract: without the clause, one DYNAMIC per dimension.
use Rattle.meaning.specs.Tile.{DYNAMIC}
use Rattle.port.proofs.tensor_view.strides_of.Goals as goal

pub returns-in-None : goal.returns-in-None
unfolding DYNAMIC
returns-in-None c = rw (c.in-None.is, c.dynamic.ensures)
