-- `parse_view` meets its contract: the tile shape, then the inner tensor view and the padding.
use Rattle.std.proofs.Common.{rules, arith}
use Rattle.port.proofs.Sights as S
use Rattle.port.proofs.views.parse_view.Goals as goal

pub parse_view_tile_shape-requires : goal.parse_view_tile_shape-requires
parse_view_tile_shape-requires c = c.requires.tile

pub returns-in_err-t : goal.returns-in_err-t
returns-in_err-t c = S.no_view c.args.inner.now _ c.parse_view_tile_shape.ensures c.in_err-t.was (search rules)

pub parse_nested_tensor_view-requires : goal.parse_nested_tensor_view-requires
parse_nested_tensor_view-requires c = let f = S.behind_fits c.args.inner.now _ c.parse_view_tile_shape.ensures c.in_ok-t.was in (c.requires, omega (arith, f.0, f.1), f.0, f.1)

pub returns-in_err-tensor : goal.returns-in_err-tensor
returns-in_err-tensor c = S.no_tensor_view c.args.inner.now _ c.parse_view_tile_shape.ensures c.in_ok-t.was c.parse_nested_tensor_view.ensures c.in_err-tensor.was (search rules)

pub parse_padding_value-requires : goal.parse_padding_value-requires
parse_padding_value-requires c = c.requires.padding

pub returns : goal.returns
returns c = S.whole_view c.args.inner.now _ c.parse_view_tile_shape.ensures c.in_ok-t.was c.parse_nested_tensor_view.ensures c.in_ok-tensor.was c.parse_padding_value.ensures
