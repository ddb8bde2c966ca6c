-- `read_tile` meets its contract: dimensions, then the element.
use Rattle.strict.proofs.Chain as H
use mathlib.Core.Path.{refl}
use Rattle.strict.specs.Inner.{tile}
use Rattle.strict.proofs.inner.read_tile.Goals as goal

pub returns-in_err-l : goal.returns-in_err-l
unfolding tile
returns-in_err-l c = H.stops _ c.in_err-l.ensures c.from_residual.ensures.1

pub returns-in_err-c : goal.returns-in_err-c
unfolding tile
returns-in_err-c c = H.goes _ c.in_ok-l.ensures (H.halts _ c.in_err-c.ensures c.from_residual-in_err-c.ensures.1)

pub returns : goal.returns
unfolding tile
returns c = H.goes _ c.in_ok-l.ensures (H.ends _ c.in_ok-c.ensures refl)
