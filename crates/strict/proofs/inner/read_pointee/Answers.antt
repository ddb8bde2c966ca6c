-- `read_pointee` meets its contract: a name, then one of the two words that close the pointer.
use Rattle.strict.proofs.Chain as H
use mathlib.Core.Path.{refl}
use Rattle.strict.proofs.inner.read_pointee.Goals as goal

pub returns-in_err-n : goal.returns-in_err-n
returns-in_err-n c = H.stops _ c.in_err-n.ensures c.from_residual.ensures.1

pub returns-in_err-m : goal.returns-in_err-m
returns-in_err-m c = H.goes _ c.in_ok-n.ensures (H.halts _ c.in_err-m.ensures c.from_residual-in_err-m.ensures.1)

pub returns : goal.returns
returns c = H.goes _ c.in_ok-n.ensures (H.ends _ c.in_ok-m.ensures refl)
