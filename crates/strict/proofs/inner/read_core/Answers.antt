-- `read_core` meets its contract: a name or a pointer, then the end of the tile.
use Rattle.strict.proofs.Chain as H
use mathlib.Core.Path.{refl, ap}
use Rattle.strict.specs.Inner.{core, core_of}
use lib.ListN.{drop}
use Rattle.strict.proofs.inner.read_core.Goals as goal

pub returns-in_err-k : goal.returns-in_err-k
unfolding core
returns-in_err-k c = H.stops _ c.in_err-k.ensures c.from_residual.ensures.1

pub returns-in_default : goal.returns-in_default
unfolding core
returns-in_default c = H.goes _ c.in_ok-k.ensures (H.same_as (ap (λ v. core_of v (drop c.in_ok-k.k.end c.args.s.now)) c.in_default.is) (c.read_pointee.ensures))

pub returns-in_err-m : goal.returns-in_err-m
unfolding core
returns-in_err-m c = H.goes _ c.in_ok-k.ensures (H.same_as (ap (λ v. core_of v (drop c.in_ok-k.k.end c.args.s.now)) c.in-Some.is) (H.halts _ c.in_err-m.ensures c.from_residual-in_err-m.ensures.1))

pub returns : goal.returns
unfolding core
returns c = H.goes _ c.in_ok-k.ensures (H.same_as (ap (λ v. core_of v (drop c.in_ok-k.k.end c.args.s.now)) c.in-Some.is) (H.ends _ c.in_ok-m.ensures refl))
