-- `parse_strides` meets its contract: what is laid is what two trimmings leave.
use Rattle.port.proofs.Cutting as L
use Rattle.port.proofs.tensor_view.parse_strides.Goals as goal

pub returns : goal.returns
returns c = L.strides_read c.args.s.now _ _ c.trim_start_matches.ensures c.trim_end_matches.ensures c.parse_dims.ensures
