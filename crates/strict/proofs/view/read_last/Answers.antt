-- `read_last` meets its contract: the sparse dimension, or the map.
use Rattle.strict.proofs.Chain as H
use Rattle.strict.proofs.Insides as G
use borrow.Author.Rules.{rules}
use mathlib.Core.Path.{refl}
use Rattle.strict.specs.Views.{ending}
use mir.Syntax.{w32}
use mir.Val.{to_z, of_z}
use mathlib.Core.Path.{◌≡◌}
use Rattle.strict.proofs.view.read_last.Goals as goal

pub returns-in_err-n : goal.returns-in_err-n
unfolding ending
returns-in_err-n c = H.same_as (G.yes _ _ c.if-sparse.true) (H.halts _ c.in_err-n.ensures c.from_residual.ensures.1)

pub returns-then-sparse : goal.returns-then-sparse
unfolding ending
returns-then-sparse c = H.same_as (G.yes _ _ c.if-sparse.true) (H.ends _ c.in_ok-n.ensures (let z : to_z w32 (of_z w32 c.in_ok-n.n.value) ≡ c.in_ok-n.n.value = search rules in rw (c.requires.map_value, z)))

pub returns-in_err-m : goal.returns-in_err-m
unfolding ending
returns-in_err-m c = H.same_as (G.no _ _ c.if-sparse.false) (H.halts _ c.in_err-m.ensures c.from_residual-in_err-m.ensures.1)

pub returns : goal.returns
unfolding ending
returns c = H.same_as (G.no _ _ c.if-sparse.false) (H.ends _ c.in_ok-m.ensures refl)
