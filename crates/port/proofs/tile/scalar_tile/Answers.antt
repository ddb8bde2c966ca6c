-- `scalar_tile` meets its contract: the part behind the last `x` names the scalar, or there is no tile.
use mathlib.Core.Bool.{false}
use mathlib.Core.Path.{refl, ap, ◌∙◌}
use Rattle.meaning.specs.Tile.{dimensions}
use Rattle.port.proofs.Cutting as C
use Rattle.meaning.specs.Found.{unused}
use Rattle.port.specs.Carried.{answered}
use Rattle.port.proofs.Making as M
use Rattle.port.proofs.Tiling as L
use Rattle.port.proofs.tile.scalar_tile.Goals as goal

pub simple-requires : goal.simple-requires
simple-requires c = (M.sound_list (dimensions (C.sizes c.args.inner.now)) c.parse_front-f.ensures.dims, M.sound_list unused c.none.ensures)

pub returns-in-Some : goal.returns-in-Some
returns-in-Some c = let a = c.args in
    let s = a.inner.now in
    c.simple.ensures ∙ ap (answered a.marked) (L.tile_some false (dimensions (C.sizes s)) refl (C.named s c.parse_front-f.ensures c.parse_scalar.ensures c.in-Some.is)
    c.parse_front-f.ensures.dims c.none.ensures)

pub returns-in-None : goal.returns-in-None
returns-in-None c = let a = c.args in let s = a.inner.now in
    c.refuse.ensures ∙ ap (answered a.marked) (L.tile_none false (dimensions (C.sizes s)) refl (C.named s c.parse_front-f.ensures c.parse_scalar.ensures c.in-None.is))
