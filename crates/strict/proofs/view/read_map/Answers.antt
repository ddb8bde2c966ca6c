-- `read_map` meets its contract: its word, a list, the end.
use Rattle.strict.proofs.Chain as H
use mathlib.Core.Path.{refl}
use Rattle.strict.specs.Views.{map_part}
use Rattle.strict.proofs.Listing as L
use Rattle.strict.proofs.view.read_map.Goals as goal

pub returns-in_err-k : goal.returns-in_err-k
unfolding map_part
returns-in_err-k c = H.stops _ c.in_err-k.ensures c.from_residual.ensures.1

pub returns-in_err-l : goal.returns-in_err-l
unfolding map_part
returns-in_err-l c = H.goes _ c.in_ok-k.ensures (H.stops _ (L.blank _ c.requires.map_value c.in_err-l.ensures) c.from_residual-in_err-l.ensures.1)

pub returns-in_err-m : goal.returns-in_err-m
unfolding map_part
returns-in_err-m c = H.goes _ c.in_ok-k.ensures (H.goes _ (L.blank _ c.requires.map_value c.in_ok-l.ensures) (H.halts _ c.in_err-m.ensures c.from_residual-in_err-m.ensures.1))

pub returns : goal.returns
unfolding map_part
returns c = H.goes _ c.in_ok-k.ensures (H.goes _ (L.blank _ c.requires.map_value c.in_ok-l.ensures) (H.ends _ c.in_ok-m.ensures refl))
