-- `pointer_shape` meets its contract: none if nothing is left, else what is laid is what the trimmings leave.
use Rattle.std.proofs.Common.{rules}
use Rattle.port.proofs.Tiling as L
use Rattle.port.proofs.tile.pointer_shape.Goals as goal

pub returns-then-is_empty : goal.returns-then-is_empty
returns-then-is_empty c = L.shape_none c.args.before.now _ _ c.trim.ensures c.trim_end_repeats-b.ensures (search rules) c.none.ensures

pub returns : goal.returns
returns c = L.shape_some c.args.before.now _ _ c.trim.ensures c.trim_end_repeats-b.ensures
    (search rules) c.trim_end_matches.ensures c.parse_dims.ensures
