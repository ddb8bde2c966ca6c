-- `parse_gather_scatter_view` meets its contract: what is built of the view and the sparse dimension is the view that was found.
use mathlib.Core.Path.{refl, ap, ◌∙◌}
use Rattle.lexis.specs.Text.{bytes, cut}
use Rattle.meaning.specs.Found.{unused}
use Rattle.meaning.specs.Views.{sparse_by}
use Rattle.port.specs.Carried.{answered}
use Rattle.port.proofs.Clauses as L
use Rattle.port.proofs.Making as M
use Rattle.port.proofs.Sights as S
use Rattle.port.proofs.views.parse_gather_scatter_view.Goals as goal

pub returns-in_default : goal.returns-in_default
returns-in_default c = let a = c.args in
    c.refuse.ensures ∙ ap (answered a.marked) (S.no_gather a.inner.now c.parse_view.ensures c.in_default.is)

pub parse_sparse-requires : goal.parse_sparse-requires
parse_sparse-requires c = c.requires.sparse

pub view_of-requires : goal.view_of-requires
view_of-requires c = let s = c.args.inner.now in
    let v = S.sound s c.parse_view.ensures c.in-Some.is in record {
      shape = v.0;
      strides = v.1;
      map = M.sound_list unused c.none.ensures;
      traversal = M.sound_list unused c.none-2.ensures;
      sparse = M.sound_one (sparse_by (cut (bytes "sparse_dim=") s)) c.parse_sparse.ensures (L.one_sparse (cut (bytes "sparse_dim=") s));
    }

pub returns : goal.returns
returns c = let a = c.args in
    c.view_of.ensures ∙ ap (answered a.marked) (S.gather_is a.inner.now c.parse_view.ensures c.in-Some.is
    refl c.none.ensures c.none-2.ensures c.parse_sparse.ensures)
