-- `parse_partition_view` meets its contract: by the three answers that the place of the map can be.
use mathlib.Core.Path.{refl, ap, ◌∙◌}
use native.Mathlib.Omega.{arith}
use lib.IntN.{pos}
use Rattle.lexis.specs.Text.{split}
use Rattle.meaning.specs.Found.{unused, filled}
use Rattle.meaning.specs.Views.{count_up}
use Rattle.lists.specs.Laid.{smalls}
use Rattle.port.specs.Carried.{answered}
use Rattle.port.proofs.Clauses as L
use Rattle.port.proofs.Making as M
use Rattle.port.proofs.Sights as S
use Rattle.port.proofs.views.parse_partition_view.Goals as goal

pub returns-in_default : goal.returns-in_default
returns-in_default c = let a = c.args in
    c.refuse.ensures ∙ ap (answered a.marked) (S.no_partition a.inner.now c.parse_view.ensures c.in_default.is)

pub list_after-requires : goal.list_after-requires
list_after-requires c = c.requires.map

pub view_of-requires-in-Absent : goal.view_of-requires-in-Absent
view_of-requires-in-Absent c = let v = S.sound c.args.inner.now c.parse_view.ensures c.in-Some.is in record {
  shape = v.0;
  strides = v.1;
  map = M.sound_list (filled (count_up 0 c.in-Some.v.tile.row.len)) c.count_up.ensures;
  traversal = M.sound_list unused c.none-in-Absent.ensures;
  sparse = M.sound_one unused c.none-in-Absent-2.ensures (omega arith);
}

pub returns-in-Unclosed : goal.returns-in-Unclosed
returns-in-Unclosed c = let a = c.args in
    c.refuse-in-Unclosed.ensures ∙ ap (answered a.marked) (S.partition_unclosed a.inner.now c.parse_view.ensures c.in-Some.is
    (L.told c.list_after.ensures c.in-Unclosed.is))

pub returns-in-Absent : goal.returns-in-Absent
returns-in-Absent c = let a = c.args in
    c.view_of-in-Absent.ensures ∙ ap (answered a.marked) (S.partition_absent a.inner.now c.parse_view.ensures c.in-Some.is
    refl c.none-in-Absent.ensures c.none-in-Absent-2.ensures
    (L.told c.list_after.ensures c.in-Absent.is) c.count_up.ensures)

pub view_of-requires : goal.view_of-requires
view_of-requires c = let s = c.args.inner.now in let n = c.in-Between in
    let v = S.sound s c.parse_view.ensures c.in-Some.is in record {
      shape = v.0;
      strides = v.1;
      map = M.sound_list (smalls (pos 0) (split 44 n.l.now)) c.parse_smalls.ensures;
      traversal = M.sound_list unused c.none.ensures;
      sparse = M.sound_one unused c.none-in-Between.ensures (omega arith);
    }

pub returns-in-Between : goal.returns-in-Between
returns-in-Between c = let a = c.args in let n = c.in-Between in
    c.view_of.ensures ∙ ap (answered a.marked) (S.partition_listed a.inner.now c.parse_view.ensures c.in-Some.is
    refl c.none.ensures c.none-in-Between.ensures
    n.l (L.told c.list_after.ensures n.is) c.parse_smalls.ensures)
