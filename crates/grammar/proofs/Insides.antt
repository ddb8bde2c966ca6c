-- What stands in each of the three views, from the entries of its tile to its closing `>`.
use Rattle.std.specs.Prelude.{ℕ, Bool, true, false, ◌&&◌, List, [], ◌∷◌, refl, ℤ, pos}
use mathlib.Core.List as L
use Rattle.std.proofs.Common.{inl}
use Rattle.lexis.specs.Text.{bytes}
use Rattle.meaning.specs.declared.Kind.{Kind}
use Rattle.meaning.specs.declared.Kind.TheVariants as K
use Rattle.meaning.specs.Decimal.{decimal, in32}
use Rattle.meaning.specs.Strict.{◌⊕◌, Commas, comma, commas, values, Entries, entries, entries_of, pad_text, intro_text, body}
use Rattle.meaning.specs.Meant.{each_of, Any, meant_pads}
use Rattle.grammar.specs.Piece.{Piece}
use Rattle.grammar.specs.Until.{Ended}
use Rattle.grammar.specs.Spelt.{always, two, in_two, quiet, ending}
use Rattle.grammar.specs.Several.{figs, Both, same}
use Rattle.grammar.proofs.Several.{num32, list_then, entries_then}
use Rattle.grammar.specs.Pair.{pair, turned, chosen}
use Rattle.grammar.proofs.Body.{id, body_ok, body_mean}
use Rattle.grammar.proofs.Sights.{Mid, mid_text, mid_mean, mid, Scene, SceneS, scenery, Sight}

-- ── the ends of the views ──
abbrev pub one : (w : List ℕ) → Unit {0} → List ℕ
one w u = w

abbrev pub after_comma : List ℕ → Bool → List ℕ
after_comma w s = comma s ⊕ w

abbrev pub map_end : Piece false (bytes "]") (Unit {0}) quiet
map_end = chosen quiet (bytes "]") (one (bytes "]>")) id (tt ∷ []) (λ u. inl refl) tt

abbrev pub map_list : Piece false figs (Ended ℤ (Unit {0})) quiet
map_list = list_then num32 tt in32 decimal same (λ a t i. i) (λ a t i. i) map_end tt (λ a. tt) always (one (bytes "]>")) id (λ b t i. i) (λ b t i. i)

abbrev pub ml_ok : Both (Commas ℤ) (Unit {0}) → Bool
ml_ok p = each_of in32 (values p.left) && true

abbrev pub ml_text : Both (Commas ℤ) (Unit {0}) → List ℕ
ml_text p = commas decimal p.left ⊕ bytes "]>"

abbrev pub ml_mean : Both (Commas ℤ) (Unit {0}) → Ended ℤ (Unit {0})
ml_mean p = record { items = L.map same (values p.left); last = p.right }

abbrev pub map_part : Piece false (bytes ",") (Ended ℤ (Unit {0})) quiet
map_part = pair (chosen quiet (bytes ",") (after_comma (bytes "dim_map=[")) (λ (s : Bool). s) two in_two tt) (λ s. false) (λ s. figs) (λ s. map_list) (λ s. tt) (λ s b. absurd)
    always (after_comma (bytes "dim_map=[")) id (λ s. ml_ok) ml_text (λ s. ml_mean) (λ a t i. i) (λ a t i. i) (λ a b t i. i) (λ a b t i. i)

abbrev pub mp_ok : Both Bool (Both (Commas ℤ) (Unit {0})) → Bool
mp_ok p = true && ml_ok p.right

abbrev pub mp_text : Both Bool (Both (Commas ℤ) (Unit {0})) → List ℕ
mp_text p = after_comma (bytes "dim_map=[") p.left ⊕ ml_text p.right

abbrev pub mp_mean : Both Bool (Both (Commas ℤ) (Unit {0})) → Ended ℤ (Unit {0})
mp_mean p = ml_mean p.right

abbrev pub sparse_last : Piece false figs ℤ quiet
sparse_last = ending num32 62 [] (λ a. tt) in32 decimal same (λ a t i. i) (λ a t i. i)

abbrev pub sl_text : ℤ → List ℕ
sl_text z = decimal z ⊕ bytes ">"

abbrev pub sparse_part : Piece false (bytes ",") ℤ quiet
sparse_part = pair (chosen quiet (bytes ",") (after_comma (bytes "sparse_dim=")) (λ (s : Bool). s) two in_two tt) (λ s. false) (λ s. figs) (λ s. sparse_last) (λ s. tt) (λ s b. absurd)
    always (after_comma (bytes "sparse_dim=")) id (λ s. in32) sl_text (λ s. same) (λ a t i. i) (λ a t i. i) (λ a b t i. i) (λ a b t i. i)

abbrev pub sp_ok : Both Bool ℤ → Bool
sp_ok p = true && in32 p.right

abbrev pub sp_text : Both Bool ℤ → List ℕ
sp_text p = after_comma (bytes "sparse_dim=") p.left ⊕ sl_text p.right

abbrev pub sp_mean : Both Bool ℤ → ℤ
sp_mean p = p.right

-- ── the views ──
abbrev pub tile_ok : Entries → Bool
tile_ok e = each_of in32 (entries_of e)

abbrev pub tile_front : Piece false figs (Ended ℤ Mid) quiet
tile_front = entries_then (mid 41 tt) tt tt tt always (mid_text 41) mid_mean (λ a t i. i) (λ a t i. i)

abbrev pub tile_scene : Piece false figs Scene quiet
tile_scene = scenery tile_front 41 tile_ok entries entries_of (λ a t i. i) (λ a t i. i)

abbrev pub tile_text : SceneS Entries → List ℕ
tile_text s = entries s.list ⊕ bytes ")" ⊕ comma s.space ⊕ pad_text s.padding ⊕ intro_text s.intro ⊕ bytes "tensor_view<" ⊕ body s.tensor ⊕ bytes ">"

abbrev pub tile_scene_ok : SceneS Entries → Bool
tile_scene_ok s = tile_ok s.list && body_ok s.tensor

abbrev pub tile_scene_mean : SceneS Entries → Scene
tile_scene_mean s = record { list = entries_of s.list; sight = record { padding = meant_pads s.padding; tens = body_mean s.tensor } }

abbrev pub walk_ok : Commas ℤ → Bool
walk_ok c = each_of in32 (values c)

abbrev pub walk_mean : Commas ℤ → List ℤ
walk_mean c = L.map same (values c)

abbrev pub walk_front : Piece false figs (Ended ℤ Mid) quiet
walk_front = list_then num32 tt in32 decimal same (λ a t i. i) (λ a t i. i) (mid 93 tt) tt (λ a. tt) always (mid_text 93) mid_mean (λ a t i. i) (λ a t i. i)

abbrev pub walk_scene : Piece false figs Scene quiet
walk_scene = scenery walk_front 93 walk_ok (commas decimal) walk_mean (λ a t i. i) (λ a t i. i)

abbrev pub walk_text : SceneS (Commas ℤ) → List ℕ
walk_text s = commas decimal s.list ⊕ bytes "]" ⊕ comma s.space ⊕ pad_text s.padding ⊕ intro_text s.intro ⊕ bytes "tensor_view<" ⊕ body s.tensor ⊕ bytes ">"

abbrev pub walk_scene_ok : SceneS (Commas ℤ) → Bool
walk_scene_ok s = walk_ok s.list && body_ok s.tensor

abbrev pub walk_scene_mean : SceneS (Commas ℤ) → Scene
walk_scene_mean s = record { list = walk_mean s.list; sight = record { padding = meant_pads s.padding; tens = body_mean s.tensor } }

abbrev pub sighted : Kind → List ℤ → Sight → List ℤ → List ℤ → ℤ → Any
sighted k tl v m tr z = record {
  kind = k;
  element = v.tens.element;
  pointer = false;
  attribute = v.tens.attribute;
  shape = v.tens.shape;
  strides = v.tens.strides;
  tile = tl;
  map = m;
  traversal = tr;
  sparse = z;
  padding = v.padding;
}

abbrev pub partition_inside : Piece false figs Any quiet
partition_inside = pair tile_scene (λ v. false) (λ v. bytes ",")
    (λ v. turned (λ e. sighted K.Partition v.list v.sight e.items [] (pos 0)) quiet map_part (λ a. tt) mp_ok mp_text mp_mean (λ a t i. i) (λ a t i. i)) (λ v. tt) (λ v b. absurd)
    tile_scene_ok tile_text tile_scene_mean (λ v. mp_ok) mp_text (λ v p. sighted K.Partition v.list v.sight (mp_mean p).items [] (pos 0)) (λ a t i. i) (λ a t i. i) (λ a b t i. i) (λ a b t i. i)

abbrev pub gather_inside : Piece false figs Any quiet
gather_inside = pair tile_scene (λ v. false) (λ v. bytes ",")
    (λ v. turned (λ z. sighted K.GatherScatter v.list v.sight [] [] z) quiet sparse_part (λ a. tt) sp_ok sp_text sp_mean (λ a t i. i) (λ a t i. i)) (λ v. tt) (λ v b. absurd)
    tile_scene_ok tile_text tile_scene_mean (λ v. sp_ok) sp_text (λ v p. sighted K.GatherScatter v.list v.sight [] [] (sp_mean p)) (λ a t i. i) (λ a t i. i) (λ a b t i. i) (λ a b t i. i)

abbrev pub travel_word : Bool → List ℕ
travel_word s = bytes ")" ⊕ comma s ⊕ bytes "traversal_strides=["

abbrev pub tile_travel : Piece false figs (Ended ℤ (Unit {0})) quiet
tile_travel = entries_then (chosen quiet (bytes ")") travel_word (λ (s : Bool). tt) two in_two tt) tt tt tt always travel_word (λ (s : Bool). tt) (λ a t i. i) (λ a t i. i)

abbrev pub tt_ok : Both Entries Bool → Bool
tt_ok p = tile_ok p.left && true

abbrev pub tt_text : Both Entries Bool → List ℕ
tt_text p = entries p.left ⊕ travel_word p.right

abbrev pub tt_mean : Both Entries Bool → Ended ℤ (Unit {0})
tt_mean p = record { items = entries_of p.left; last = tt }

abbrev pub WalkS : Type 0
WalkS = Both (SceneS (Commas ℤ)) (Both Bool (Both (Commas ℤ) (Unit {0})))

abbrev pub walk_rest : List ℤ → Piece false figs Any quiet
walk_rest tl = pair walk_scene (λ v. false) (λ v. bytes ",")
    (λ v. turned (λ e. sighted K.Strided tl v.sight e.items v.list (pos 0)) quiet map_part (λ a. tt) mp_ok mp_text mp_mean (λ a t i. i) (λ a t i. i)) (λ v. tt) (λ v b. absurd)
    walk_scene_ok walk_text walk_scene_mean (λ v. mp_ok) mp_text (λ v p. sighted K.Strided tl v.sight (mp_mean p).items v.list (pos 0)) (λ a t i. i) (λ a t i. i) (λ a b t i. i) (λ a b t i. i)

abbrev pub wr_ok : WalkS → Bool
wr_ok p = walk_scene_ok p.left && mp_ok p.right

abbrev pub wr_text : WalkS → List ℕ
wr_text p = walk_text p.left ⊕ mp_text p.right

abbrev pub wr_mean : List ℤ → WalkS → Any
wr_mean tl p = sighted K.Strided tl (walk_scene_mean p.left).sight (mp_mean p.right).items (walk_scene_mean p.left).list (pos 0)

abbrev pub strided_inside : Piece false figs Any quiet
strided_inside = pair tile_travel (λ e. false) (λ e. figs) (λ e. walk_rest e.items) (λ e. tt) (λ e b. absurd)
    tt_ok tt_text tt_mean (λ e. wr_ok) wr_text (λ e. wr_mean e.items) (λ a t i. i) (λ a t i. i) (λ a b t i. i) (λ a b t i. i)
