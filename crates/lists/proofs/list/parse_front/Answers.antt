-- `before_last` at the byte `x`; what is left is the end of the text, so that its place is the text's length less its own.
use mathlib.Core.Path.{◌∙◌}
use native.Mathlib.Omega.{arith}
use Rattle.lists.proofs.Fronting.{rest_ends}
use Rattle.lists.proofs.list.parse_front.Goals as goal

pub overflow_sub-result : goal.overflow_sub-result
overflow_sub-result c = (rest_ends c.before_last.ensures).inside

pub returns : goal.returns
returns c = let r = c.before_last.ensures in let e = rest_ends r in record { dims = r.dims; part = e.part ∙ r.part; inside = omega arith }
