-- `read_walk` meets its contract: nothing; or the word of the traversal, and a list.
use Rattle.strict.proofs.Chain as H
use Rattle.strict.proofs.Insides as G
use Rattle.strict.specs.Views.{walking}
use Rattle.strict.proofs.Listing as L
use Rattle.strict.proofs.view.read_walk.Goals as goal

pub returns-then-bare : goal.returns-then-bare
unfolding walking
returns-then-bare c = H.same_as (G.yes _ _ c.if-bare.true) (H.done (rw c.requires.walk_value) c.requires.at_in_bounds)

pub returns-in_err-k : goal.returns-in_err-k
unfolding walking
returns-in_err-k c = H.same_as (G.no _ _ c.if-bare.false) (H.stops _ c.in_err-k.ensures c.from_residual.ensures.1)

pub returns : goal.returns
unfolding walking
returns c = H.same_as (G.no _ _ c.if-bare.false) (H.goes _ c.in_ok-k.ensures (L.blank _ c.requires.walk_value c.read_list.ensures))
