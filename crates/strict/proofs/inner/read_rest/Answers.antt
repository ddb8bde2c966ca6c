-- `read_rest` meets its contract: at rank 0 the end or a list, else a list.
use Rattle.strict.proofs.Chain as H
use Rattle.strict.proofs.Insides as G
use mathlib.Core.Path.{ap}
use Rattle.strict.specs.Inner.{rest, begun}
use lib.ListN.{drop}
use Rattle.strict.proofs.inner.read_rest.Goals as goal

pub returns-in_err-k : goal.returns-in_err-k
unfolding rest
returns-in_err-k c = H.same_as (G.zero _ _ c.args.rank c.if-rank-eq0.true) (H.stops _ c.in_err-k.ensures c.from_residual.ensures.1)

pub returns-in-Some : goal.returns-in-Some
unfolding rest
returns-in-Some c = H.same_as (G.zero _ _ c.args.rank c.if-rank-eq0.true) (H.goes _ c.in_ok-k.ensures (H.same_as (ap (λ v. begun v (drop c.in_ok-k.k.end c.args.s.now)) c.in-Some.is) (H.done (rw c.requires.strides_value) c.in_ok-k.ensures.inside)))

pub returns-then-rank-eq0 : goal.returns-then-rank-eq0
unfolding rest
returns-then-rank-eq0 c = H.same_as (G.zero _ _ c.args.rank c.if-rank-eq0.true) (H.goes _ c.in_ok-k.ensures (H.same_as (ap (λ v. begun v (drop c.in_ok-k.k.end c.args.s.now)) c.in_default.is) (c.read_strides.ensures)))

pub returns-in_err-k-2 : goal.returns-in_err-k-2
unfolding rest
returns-in_err-k-2 c = H.same_as (G.some _ _ c.args.rank c.if-rank-eq0.false) (H.stops _ c.in_err-k-2.ensures c.from_residual-in_err-k-2.ensures.1)

pub returns : goal.returns
unfolding rest
returns c = H.same_as (G.some _ _ c.args.rank c.if-rank-eq0.false) (H.goes _ c.in_ok-k-2.ensures c.read_strides-2.ensures)
