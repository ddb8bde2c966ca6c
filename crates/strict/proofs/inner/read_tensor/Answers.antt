-- `read_tensor` meets its contract: dimensions, a name, what follows it.
use Rattle.strict.proofs.Chain as H
use mathlib.Core.Path.{refl}
use Rattle.strict.specs.Inner.{tensor}
use Rattle.strict.proofs.inner.read_tensor.Goals as goal

pub returns-in_err-l : goal.returns-in_err-l
unfolding tensor
returns-in_err-l c = H.stops _ c.in_err-l.ensures c.from_residual.ensures.1

pub returns-in_err-n : goal.returns-in_err-n
unfolding tensor
returns-in_err-n c = H.goes _ c.in_ok-l.ensures (H.stops _ c.in_err-n.ensures c.from_residual-in_err-n.ensures.1)

pub returns-in_err-r : goal.returns-in_err-r
unfolding tensor
returns-in_err-r c = H.goes _ c.in_ok-l.ensures (H.goes _ c.in_ok-n.ensures (H.halts _ c.in_err-r.ensures c.from_residual-in_err-r.ensures.1))

pub returns : goal.returns
unfolding tensor
returns c = H.goes _ c.in_ok-l.ensures (H.goes _ c.in_ok-n.ensures (H.ends _ c.in_ok-r.ensures refl))
