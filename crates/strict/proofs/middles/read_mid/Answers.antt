-- `read_mid` meets its contract: the end of the list and a comma, then what both tables go on with.
use Rattle.strict.proofs.Tree as L
use Rattle.strict.proofs.Chain as H
use Rattle.strict.specs.Views.{mid}
use Rattle.strict.proofs.Insides as G
use Rattle.strict.proofs.middles.read_mid.Goals as goal

pub returns-in_err-c : goal.returns-in_err-c
unfolding mid
returns-in_err-c c = H.same_as (G.yes _ _ c.if-tile.true) (L.off _ _ _ c.in_err-c.ensures c.from_residual.ensures.1 tt)

pub returns-then-tile : goal.returns-then-tile
unfolding mid
returns-then-tile c = H.same_as (G.yes _ _ c.if-tile.true) (L.via _ _ _ c.in_ok-c.ensures c.mid_comma.ensures tt)

pub returns-in_err-c-2 : goal.returns-in_err-c-2
unfolding mid
returns-in_err-c-2 c = H.same_as (G.no _ _ c.if-tile.false) (L.off _ _ _ c.in_err-c-2.ensures c.from_residual-in_err-c-2.ensures.1 tt)

pub returns : goal.returns
unfolding mid
returns c = H.same_as (G.no _ _ c.if-tile.false) (L.via _ _ _ c.in_ok-c-2.ensures c.mid_comma-2.ensures tt)
