-- `read_whole` meets its contract: the first word tells the kind and what follows.
use Rattle.strict.proofs.Chain as H
use mathlib.Core.Path.{ap}
use Rattle.strict.specs.Whole.{whole, from_head}
use lib.ListN.{drop}
use Rattle.strict.proofs.whole.read_whole.Goals as goal

pub returns-in_err-h : goal.returns-in_err-h
unfolding whole
returns-in_err-h c = H.stops _ c.in_err-h.ensures c.from_residual.ensures.1

pub returns-in-Scalar : goal.returns-in-Scalar
unfolding whole
returns-in-Scalar c = H.goes _ c.in_ok-h.ensures (H.same_as (ap (λ v. from_head v (drop c.in_ok-h.h.end c.args.s.now)) c.in-Scalar.is) (H.done (rw (c.made.ensures, c.requires.no_entry)) c.in_ok-h.ensures.inside))

pub returns-in-Token : goal.returns-in-Token
unfolding whole
returns-in-Token c = H.goes _ c.in_ok-h.ensures (H.same_as (ap (λ v. from_head v (drop c.in_ok-h.h.end c.args.s.now)) c.in-Token.is) (H.done (rw (c.made-in-Token.ensures, c.requires.no_entry)) c.in_ok-h.ensures.inside))

pub returns-in_err-p-in-Pointer : goal.returns-in_err-p-in-Pointer
unfolding whole
returns-in_err-p-in-Pointer c = H.goes _ c.in_ok-h.ensures (H.same_as (ap (λ v. from_head v (drop c.in_ok-h.h.end c.args.s.now)) c.in-Pointer.is) (H.halts _ c.in_err-p-in-Pointer.ensures c.from_residual-in_err-p-in-Pointer.ensures.1))

pub returns-in_ok-p-in-Pointer : goal.returns-in_ok-p-in-Pointer
unfolding whole
returns-in_ok-p-in-Pointer c = H.goes _ c.in_ok-h.ensures (H.same_as (ap (λ v. from_head v (drop c.in_ok-h.h.end c.args.s.now)) c.in-Pointer.is) (H.ends _ c.in_ok-p-in-Pointer.ensures (rw (c.made-in-Pointer.ensures, c.requires.no_entry))))

pub returns-in_err-t-in-Tile : goal.returns-in_err-t-in-Tile
unfolding whole
returns-in_err-t-in-Tile c = H.goes _ c.in_ok-h.ensures (H.same_as (ap (λ v. from_head v (drop c.in_ok-h.h.end c.args.s.now)) c.in-Tile.is) (H.halts _ c.in_err-t-in-Tile.ensures c.from_residual-in_err-t-in-Tile.ensures.1))

pub returns-in_ok-t-in-Tile : goal.returns-in_ok-t-in-Tile
unfolding whole
returns-in_ok-t-in-Tile c = H.goes _ c.in_ok-h.ensures (H.same_as (ap (λ v. from_head v (drop c.in_ok-h.h.end c.args.s.now)) c.in-Tile.is) (H.ends _ c.in_ok-t-in-Tile.ensures (rw (c.made-in-Tile.ensures, c.requires.no_entry))))

pub returns-in_err-t-in-TensorView : goal.returns-in_err-t-in-TensorView
unfolding whole
returns-in_err-t-in-TensorView c = H.goes _ c.in_ok-h.ensures (H.same_as (ap (λ v. from_head v (drop c.in_ok-h.h.end c.args.s.now)) c.in-TensorView.is) (H.halts _ c.in_err-t-in-TensorView.ensures c.from_residual-in_err-t-in-TensorView.ensures.1))

pub returns-in_ok-t-in-TensorView : goal.returns-in_ok-t-in-TensorView
unfolding whole
returns-in_ok-t-in-TensorView c = H.goes _ c.in_ok-h.ensures (H.same_as (ap (λ v. from_head v (drop c.in_ok-h.h.end c.args.s.now)) c.in-TensorView.is) (H.ends _ c.in_ok-t-in-TensorView.ensures (rw (c.made-in-TensorView.ensures, c.requires.no_entry))))

pub returns-in-Partition : goal.returns-in-Partition
unfolding whole
returns-in-Partition c = H.goes _ c.in_ok-h.ensures (H.same_as (ap (λ v. from_head v (drop c.in_ok-h.h.end c.args.s.now)) c.in-Partition.is) (c.read_view.ensures))

pub returns-in-GatherScatter : goal.returns-in-GatherScatter
unfolding whole
returns-in-GatherScatter c = H.goes _ c.in_ok-h.ensures (H.same_as (ap (λ v. from_head v (drop c.in_ok-h.h.end c.args.s.now)) c.in-GatherScatter.is) (c.read_view-in-GatherScatter.ensures))

pub returns-in-Strided : goal.returns-in-Strided
unfolding whole
returns-in-Strided c = H.goes _ c.in_ok-h.ensures (H.same_as (ap (λ v. from_head v (drop c.in_ok-h.h.end c.args.s.now)) c.in-Strided.is) (c.read_view-in-Strided.ensures))
