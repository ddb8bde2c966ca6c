-- `tensor_parts` meets its contract: the part behind the last `x` names the scalar, or there is no tensor view.
use Rattle.std.proofs.Common.{rules}
use Rattle.std.specs.Prelude.{option_map}
use Rattle.port.proofs.Cutting as L
use Rattle.port.proofs.tensor_view.tensor_parts.Goals as goal

pub returns-in_err-element : goal.returns-in_err-element
returns-in_err-element c = L.tensor_none c.args.s.now (option_map (λ t. t.now) c.args.strides)
    (L.named c.args.s.now c.parse_front-f.ensures c.parse_scalar.ensures c.in_err-element.was) (search rules)

pub returns : goal.returns
returns c = let strides = option_map (λ t. t.now) c.args.strides in
    L.tensor_read c.args.s.now strides
    (L.named c.args.s.now c.parse_front-f.ensures c.parse_scalar.ensures c.in_ok-element.was)
    c.parse_front-f.ensures.dims (L.ranked c.args.s.now c.parse_front-f.ensures strides c.strides_of.ensures)
