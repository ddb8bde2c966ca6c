-- `read_view` meets its contract: one part after another, up to the end.
use Rattle.strict.proofs.Chain as H
use borrow.Author.Rules.{rules}
use mathlib.Core.Path.{sym}
use mir.Syntax.{w32}
use mir.Val.{to_z, of_z}
use mathlib.Core.Path.{◌≡◌}
use mathlib.Core.Bool.{not}
use lib.ListN.{drop}
use Rattle.strict.specs.Whole.{view}
use Rattle.strict.proofs.whole.read_view.Goals as goal

pub returns-in_err-t : goal.returns-in_err-t
returns-in_err-t c = let a = c.args in H.same_as (λ i. view a.kind (not (sym c.is_strided-bare.ensures i)) (sym c.is_gather-sparse.ensures i) (drop a.at a.s.now)) (H.stops _ c.in_err-t.ensures c.from_residual.ensures.1)

pub returns-in_err-w : goal.returns-in_err-w
returns-in_err-w c = let a = c.args in H.same_as (λ i. view a.kind (not (sym c.is_strided-bare.ensures i)) (sym c.is_gather-sparse.ensures i) (drop a.at a.s.now)) (H.goes _ c.in_ok-t.ensures (H.stops _ c.in_err-w.ensures c.from_residual-in_err-w.ensures.1))

pub returns-in_err-m : goal.returns-in_err-m
returns-in_err-m c = let a = c.args in H.same_as (λ i. view a.kind (not (sym c.is_strided-bare.ensures i)) (sym c.is_gather-sparse.ensures i) (drop a.at a.s.now)) (H.goes _ c.in_ok-t.ensures (H.goes _ c.in_ok-w.ensures (H.stops _ c.in_err-m.ensures c.from_residual-in_err-m.ensures.1)))

pub returns-in_err-v : goal.returns-in_err-v
returns-in_err-v c = let a = c.args in H.same_as (λ i. view a.kind (not (sym c.is_strided-bare.ensures i)) (sym c.is_gather-sparse.ensures i) (drop a.at a.s.now)) (H.goes _ c.in_ok-t.ensures (H.goes _ c.in_ok-w.ensures (H.goes _ c.in_ok-m.ensures (H.stops _ c.in_err-v.ensures c.from_residual-in_err-v.ensures.1))))

pub returns-in_err-e : goal.returns-in_err-e
returns-in_err-e c = let a = c.args in H.same_as (λ i. view a.kind (not (sym c.is_strided-bare.ensures i)) (sym c.is_gather-sparse.ensures i) (drop a.at a.s.now)) (H.goes _ c.in_ok-t.ensures (H.goes _ c.in_ok-w.ensures (H.goes _ c.in_ok-m.ensures (H.goes _ c.in_ok-v.ensures (H.halts _ c.in_err-e.ensures c.from_residual-in_err-e.ensures.1)))))

pub returns : goal.returns
returns c = let a = c.args in H.same_as (λ i. view a.kind (not (sym c.is_strided-bare.ensures i)) (sym c.is_gather-sparse.ensures i) (drop a.at a.s.now)) (H.goes _ c.in_ok-t.ensures (H.goes _ c.in_ok-w.ensures (H.goes _ c.in_ok-m.ensures (H.goes _ c.in_ok-v.ensures (H.ends _ c.in_ok-e.ensures (let z : to_z w32 (of_z w32 c.in_ok-e.e.value.sparse) ≡ c.in_ok-e.e.value.sparse = search rules in rw z))))))
