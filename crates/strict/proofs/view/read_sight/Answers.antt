-- `read_sight` meets its contract: a padding and the beginning of a tensor view, or nothing; then the tensor view.
use Rattle.strict.proofs.Chain as H
use Rattle.strict.proofs.Insides as G
use mathlib.Core.Path.{refl}
use Rattle.strict.specs.Views.{sight}
use Rattle.strict.proofs.view.read_sight.Goals as goal

pub returns-in_err-p : goal.returns-in_err-p
unfolding sight
returns-in_err-p c = H.same_as (G.yes _ _ c.if-led.true) (H.stops _ c.in_err-p.ensures c.from_residual.ensures.1)

pub returns-in_err-l : goal.returns-in_err-l
unfolding sight
returns-in_err-l c = H.same_as (G.yes _ _ c.if-led.true) (H.goes _ c.in_ok-p.ensures (H.stops _ c.in_err-l.ensures c.from_residual-in_err-l.ensures.1))

pub returns-in_err-t : goal.returns-in_err-t
unfolding sight
returns-in_err-t c = H.same_as (G.yes _ _ c.if-led.true) (H.goes _ c.in_ok-p.ensures (H.goes _ c.in_ok-l.ensures (H.halts _ c.in_err-t.ensures c.from_residual-in_err-t.ensures.1)))

pub returns-then-led : goal.returns-then-led
unfolding sight
returns-then-led c = H.same_as (G.yes _ _ c.if-led.true) (H.goes _ c.in_ok-p.ensures (H.goes _ c.in_ok-l.ensures (H.ends _ c.in_ok-t.ensures refl)))

pub returns-in_err-t-2 : goal.returns-in_err-t-2
unfolding sight
returns-in_err-t-2 c = H.same_as (G.no _ _ c.if-led.false) (H.halts _ c.in_err-t-2.ensures c.from_residual-in_err-t-2.ensures.1)

pub returns : goal.returns
unfolding sight
returns c = H.same_as (G.no _ _ c.if-led.false) (H.ends _ c.in_ok-t-2.ensures refl)
