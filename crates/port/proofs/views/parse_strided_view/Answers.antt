-- `parse_strided_view` meets its contract: each list or what fills in for it.
use mathlib.Core.Path.{refl, ap, ◌∙◌}
use native.Mathlib.Omega.{arith}
use Rattle.lexis.specs.Text.{bytes}
use lib.IntN.{pos}
use lib.ListN.{replicate}
use Rattle.meaning.specs.Found.{unused, filled}
use Rattle.meaning.specs.Views.{list_after, count_up}
use Rattle.lists.specs.Laid.{list}
use Rattle.port.specs.Carried.{answered}
use Rattle.port.proofs.Clauses as L
use Rattle.port.proofs.Making as M
use Rattle.port.proofs.Sights as S
use Rattle.port.proofs.views.parse_strided_view.Goals as goal

pub returns-in_default : goal.returns-in_default
returns-in_default c = let a = c.args in
    c.refuse.ensures ∙ ap (answered a.marked) (S.no_strided a.inner.now c.parse_view.ensures c.in_default.is)

pub parse_i32_list_after-traversal-requires : goal.parse_i32_list_after-traversal-requires
parse_i32_list_after-traversal-requires c = c.requires.traversal

pub view_of-requires : goal.view_of-requires
view_of-requires c = let s = c.args.inner.now in
    let v = S.sound s c.parse_view.ensures c.in-Some.is in record {
      shape = v.0;
      strides = v.1;
      map = L.sound_or (list c.count_up.result) (list_after (bytes "dim_map=[") s) (M.sound_list (filled (count_up 0 c.in-Some.v.tile.row.len)) c.count_up.ensures) c.parse_i32_list_after-map.ensures;
      traversal = L.sound_or (list c.ones.result) (list_after (bytes "traversal_strides=[") s) (M.sound_list (filled (replicate c.in-Some.v.tile.row.len (pos 1))) c.ones.ensures) c.parse_i32_list_after-traversal.ensures;
      sparse = M.sound_one unused c.none.ensures (omega arith);
    }

pub returns : goal.returns
returns c = let a = c.args in
    c.view_of.ensures ∙ ap (answered a.marked) (S.strided_is a.inner.now c.parse_view.ensures c.in-Some.is refl
    c.count_up.ensures c.parse_i32_list_after-map.ensures c.ones.ensures c.parse_i32_list_after-traversal.ensures c.none.ensures)
