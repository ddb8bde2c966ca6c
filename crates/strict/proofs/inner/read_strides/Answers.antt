-- `read_strides` meets its contract: a list, then what ends the tensor view.
use Rattle.strict.proofs.Chain as H
use mathlib.Core.Path.{refl}
use Rattle.strict.specs.Inner.{listed}
use Rattle.strict.proofs.Listing as L
use Rattle.strict.proofs.inner.read_strides.Goals as goal

pub returns-in_err-l : goal.returns-in_err-l
unfolding listed
returns-in_err-l c = H.stops _ (L.blank _ c.requires.strides_value c.in_err-l.ensures) c.from_residual.ensures.1

pub returns-in_err-m : goal.returns-in_err-m
unfolding listed
returns-in_err-m c = H.goes _ (L.blank _ c.requires.strides_value c.in_ok-l.ensures) (H.halts _ c.in_err-m.ensures c.from_residual-in_err-m.ensures.1)

pub returns : goal.returns
unfolding listed
returns c = H.goes _ (L.blank _ c.requires.strides_value c.in_ok-l.ensures) (H.ends _ c.in_ok-m.ensures refl)
