-- `parse_tensor_view` meets its contract: what is built of the tensor view is the type that was found.
use Rattle.std.proofs.Common.{ap, ◌∙◌}
use Rattle.port.specs.Carried.{answered}
use Rattle.port.proofs.Cutting as L
use Rattle.port.proofs.tensor_view.parse_tensor_view.Goals as goal

pub simple-requires : goal.simple-requires
simple-requires c = L.view_sound c.args.inner.now c.parse_tensor.ensures c.in-Some.is

pub returns-in-Some : goal.returns-in-Some
returns-in-Some c = let a = c.args in c.simple.ensures ∙ ap (answered a.marked) (L.view_some a.inner.now c.parse_tensor.ensures c.in-Some.is)

pub returns-in-None : goal.returns-in-None
returns-in-None c = let a = c.args in c.refuse.ensures ∙ ap (answered a.marked) (L.view_none a.inner.now c.parse_tensor.ensures c.in-None.is)
