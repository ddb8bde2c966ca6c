-- `pointer_tile` meets its contract: the pointee ends at the first `>`, and the shape stands before the pointer.
use mathlib.Core.Bool.{true}
use mathlib.Core.Path.{refl, sym, ap, ◌∙◌}
use native.Mathlib.Omega.{arith}
use lib.Seq.{length-take-le}
use Rattle.lexis.specs.Text.{bytes}
use Rattle.port.proofs.Cutting as C
use Rattle.meaning.specs.Found.{unused}
use Rattle.port.specs.Carried.{answered}
use Rattle.port.proofs.Making as M
use Rattle.port.proofs.Tiling as L
use Rattle.port.proofs.tile.pointer_tile.Goals as goal

pub slice_bounds-parse_scalar-end : goal.slice_bounds-parse_scalar-end
slice_bounds-parse_scalar-end c = let t = c.args.after.now in
    sym (length-take-le _ _ (omega (arith, C.found_within (bytes ">") t c.find.ensures c.in-Some.is)))

pub simple-requires : goal.simple-requires
simple-requires c = (L.sized_sound c.args.before.now c.pointer_shape.ensures, M.sound_list unused c.none.ensures)

pub returns-in-None : goal.returns-in-None
returns-in-None c = let a = c.args in
    c.refuse-in-None.ensures ∙ ap (answered a.marked) (L.tile_none true _ refl (L.pointee_none a.after.now c.find.ensures c.in-None.is))

pub returns-in-Some-parse_scalar : goal.returns-in-Some-parse_scalar
returns-in-Some-parse_scalar c = let a = c.args in let t = a.after.now in
    c.simple.ensures ∙ ap (answered a.marked) (L.tile_some true _ refl (L.pointee_is t c.find.ensures c.in-Some.is c.parse_scalar.ensures c.in-Some-parse_scalar.is)
    c.pointer_shape.ensures c.none.ensures)

pub returns-in-None-parse_scalar : goal.returns-in-None-parse_scalar
returns-in-None-parse_scalar c = let a = c.args in let t = a.after.now in
    c.refuse.ensures ∙ ap (answered a.marked) (L.tile_none true _ refl (L.pointee_is t c.find.ensures c.in-Some.is c.parse_scalar.ensures c.in-None-parse_scalar.is))
