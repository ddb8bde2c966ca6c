-- `around` meets its contract: the strides are the rest of the text.
use mathlib.Core.Path.{sym}
use borrow.Author.Rules.{rules}
use lib.Seq.{length-take-le}
use Rattle.port.proofs.Cutting as L
use Rattle.port.proofs.tensor_view.around.Goals as goal

pub slice_bounds-tensor_parts-end : goal.slice_bounds-tensor_parts-end
slice_bounds-tensor_parts-end c = sym (length-take-le _ _ (search rules))

pub returns : goal.returns
returns c = L.strides_rest _ c.args.inner.now _ c.tensor_parts.ensures
