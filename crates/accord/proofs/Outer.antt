-- The ordinary reading of the three views' contents, in strict forms: the tile, the inner tensor view, the padding and the lists
-- are each found where they stand.
use Rattle.std.specs.Prelude.{if◌then◌else◌, None, Some}
use Prim.Native.Nat.{ℕ}
use mathlib.Core.Bool.{Bool, false, ◌||◌}
use mathlib.Core.List.{List, [], ◌∷◌, ◌++◌, append_assoc}
use mathlib.Core.Path.{◌≡◌, refl, ap, ◌∙◌}
use lib.Dec.{T, eqb}
use lib.IntN.{ℤ, pos}
use Rattle.lexis.specs.Text.{bytes, cut, Cut, at, until}
use Rattle.meaning.specs.Decimal.{decimal, in32}
use Rattle.meaning.specs.Strict as Form
use Rattle.meaning.specs.Strict.{◌⊕◌, comma, Commas, commas, values, entries, entries_of}
use Rattle.meaning.specs.Meant.{each_of, tensor_ok, view_ok, meant_pads}
use Rattle.meaning.specs.Parts.{each, up_to, between}
use Rattle.meaning.specs.Found.{Entry, Clause, stands, unused}
use Rattle.meaning.specs.Tile.{Tensor, tensor}
use Rattle.meaning.specs.Views as W
use Rattle.meaning.specs.declared.Kind.TheVariants as K
use Rattle.grammar.specs.Tests.{every, and_left, and_right}
use Rattle.accord.proofs.Shape.{Shape, In, lit, absent, first}
use Rattle.accord.proofs.Bracket.{apart, enclosed_by}
use Rattle.accord.proofs.Num.{figure, decimal_figure}
use Rattle.accord.proofs.Lists.{exact, entries_parts, list_read, small_decimal}
use Rattle.accord.proofs.Forms.{◌▸◌, say, entries_in, list_in, comma_in, comma_shape, body, body_in, body_shape, pad_shape, pad_in, intro_in, intro_shape}
use Rattle.accord.proofs.Forms.{middle, end, Of, no_travel, travel_of, map_of, sparse_of, Sight, whole, whole_in, tile_shape, inside}
use Rattle.accord.proofs.Inner.{tensor_found, tensor_read}
use Rattle.accord.proofs.Cases.{Ahead, first_at, last, ◌⊳◌, tiled, pad_reads}

-- ── where the tensor view opens ──
module _ (w : Sight) where
  abbrev beyond : List ℕ
  beyond = body w.view.tensor [] ⊕ bytes ">" ⊕ comma w.view.space' ⊕ w.end.text

  -- behind the tile
  abbrev onward : List ℕ → List ℕ → List ℕ
  onward tp ti = comma w.view.space ⊕ w.middle.text ⊕ tp ⊕ ti ⊕ bytes "tensor_view<" ⊕ beyond

  start : (i : Form.Intro) {tp : List ℕ} → In pad_shape tp → W.opened (whole w tp (Form.intro_text i) []) (onward tp (Form.intro_text i)) ≡ Some beyond
  unfolding W.opened
  start Form.bare ip = λ j.
      W.◌or◌ (absent (bytes "tensor_view=!cuda_tile.tensor_view<") (whole_in w ip (say [])) tt j)
      (W.◌or◌ (absent (bytes "!cuda_tile.tensor_view<") (whole_in w ip (say [])) tt j)
      (W.◌or◌ (first_at (bytes "tensor_view<") beyond (comma_in w.view.space ⊳ w.middle.is ⊳ last ip) tt j) None))
  start Form.prefixed {tp} ip = λ j.
      W.◌or◌ (absent (bytes "tensor_view=!cuda_tile.tensor_view<") (whole_in w ip (say (bytes "!cuda_tile."))) tt j)
      (W.◌or◌ (first_at (bytes "!cuda_tile.tensor_view<") beyond (tiled w (last ip)) tt j)
      (W.◌or◌ (cut (bytes "tensor_view<") (onward tp (bytes "!cuda_tile."))) None))
  start Form.named {tp} ip = λ j.
      W.◌or◌ (first_at (bytes "tensor_view=!cuda_tile.tensor_view<") beyond (tiled w (last ip)) tt j)
      (W.◌or◌ (cut (bytes "!cuda_tile.tensor_view<") (whole w tp (Form.intro_text Form.named) []))
      (W.◌or◌ (cut (bytes "tensor_view<") (onward tp (Form.intro_text Form.named))) None))

-- ── what the three share ──
abbrev pub view_found : Form.View → W.View
view_found v = record { tile = exact (entries_of v.tile); tensor = tensor_found v.tensor; padding = meant_pads v.padding }

module _ (w : Sight) (h : T (view_ok w.view)) where
  abbrev v : Form.View
  v = w.view

  inner_read : W.inner_by (W.opened (inside w []) (onward w (Form.pad_text v.padding) (Form.intro_text v.intro))) ≡ Some (tensor_found v.tensor)
  inner_read =
      ap W.inner_by (start w v.intro (pad_in v.padding))
      ∙ ap (λ (k : Cut). tensor (W.enclosed k)) (enclosed_by (body_in v.tensor) tt (comma v.space' ⊕ w.end.text))
      ∙ tensor_read v.tensor (and_right (each_of in32 (entries_of v.tile)) (tensor_ok v.tensor.shape v.tensor.strides) h)

  tile_cut : between (bytes "tile=(") (bytes ")") (inside w []) ≡ at (entries v.tile) (onward w (Form.pad_text v.padding) (Form.intro_text v.intro))
  tile_cut =
      ap (up_to (bytes ")")) (first (bytes "tile=(") (say []) tt (entries v.tile ⊕ bytes ")" ⊕ onward w (Form.pad_text v.padding) (Form.intro_text v.intro)))
      ∙ first (bytes ")") (entries_in v.tile) tt (onward w (Form.pad_text v.padding) (Form.intro_text v.intro))

  view_read : W.view (inside w []) ≡ Some (view_found v)
  unfolding W.view
  view_read =
      ap (W.view_by (inside w [])) tile_cut
      ∙ (λ i. each (λ (u : Tensor). record {
        tile = entries_parts v.tile (and_left (each_of in32 (entries_of v.tile)) (tensor_ok v.tensor.shape v.tensor.strides) h) i;
        tensor = u;
        padding = pad_reads w (intro_in v.intro) v.padding i;
      }) (inner_read i))

-- ── the lists ──
-- what stands before the last clause
abbrev front_shape : Shape
front_shape = tile_shape (pad_shape ▸ intro_shape ▸ lit (bytes "tensor_view<") ▸ body_shape ▸ lit (bytes ">") ▸ comma_shape)

clause_ahead : (w : Sight) → Ahead front_shape (inside w []) w.end.text
clause_ahead w = tiled w (pad_in w.view.padding ⊳ intro_in w.view.intro ⊳ say (bytes "tensor_view<") ⊳ body_in w.view.tensor ⊳ say (bytes ">") ⊳ last (comma_in w.view.space'))

-- what is made of them
given_read : (c : Commas ℤ) → T (each_of in32 (values c)) → W.entries (commas decimal c) ≡ stands (exact (values c))
unfolding W.entries
given_read c h = ap stands (list_read c h)

-- a class without the end bytes
until_all : (C D : ℕ → Bool) → ((c : ℕ) → T (C c) → D c ≡ false) → (t : List ℕ) → T (every C t) → until D t ≡ t
until_all C D f [] h = refl
until_all C D f (c ∷ t) h =
    ap (λ (k : Bool). if k then [] else c ∷ until D t) (f c (and_left (C c) (every C t) h)) ∙ ap (λ (l : List ℕ). c ∷ l) (until_all C D f t (and_right (C c) (every C t) h))

sparse_not : (c : ℕ) → T (figure c) → W.ends_sparse c ≡ false
sparse_not c h = ap (λ (k : Bool). k || eqb c 62) (apart figure 44 c tt h) ∙ apart figure 62 c tt h

module _ (v : Form.View) where
  abbrev pub with : Of middle → Of end → Sight
  with m e = record { view = v; middle = m; end = e }

  map_read : (m : Of middle) (c : Commas ℤ) → W.list_after (bytes "dim_map=[") (inside (with m (map_of c)) []) ≡ W.listed (commas decimal c)
  map_read m c =
      ap W.list_by (first_at (bytes "dim_map=[") (commas decimal c ⊕ bytes "]") (clause_ahead (with m (map_of c))) tt)
      ∙ ap W.closed (first (bytes "]") (list_in c) tt [])

  sparse_read : (z : ℤ) → T (in32 z) → W.sparse_by (cut (bytes "sparse_dim=") (inside (with no_travel (sparse_of z)) [])) ≡ stands (exact (z ∷ []))
  sparse_read z h =
      ap W.sparse_by (first_at (bytes "sparse_dim=") (decimal z) (clause_ahead (with no_travel (sparse_of z))) tt)
      ∙ ap (λ (t : List ℕ). stands (W.small (pos 0) t ∷ [])) (until_all figure W.ends_sparse sparse_not (decimal z) (decimal_figure z))
      ∙ ap (λ (e : Entry). stands (e ∷ [])) (small_decimal (pos 0) z h)

  -- the traversal strides stand right behind the tile
  travel_read : (c : Commas ℤ) (b : Bool) (e : Of end) → W.list_after (bytes "traversal_strides=[") (inside (with (travel_of c b) e) []) ≡ W.listed (commas decimal c)
  travel_read c b e =
      let s = Form.pad_text v.padding ⊕ Form.intro_text v.intro ⊕ bytes "tensor_view<" ⊕ beyond (with (travel_of c b) e) in
      ap (λ (t : List ℕ). W.list_after (bytes "traversal_strides=[") (bytes "tile=(" ⊕ entries v.tile ⊕ bytes ")" ⊕ comma v.space ⊕ bytes "traversal_strides=[" ⊕ t))
      (append_assoc (commas decimal c) (bytes "]" ⊕ comma b) s)
      ∙ ap W.list_by (first_at (bytes "traversal_strides=[") (commas decimal c ⊕ bytes "]" ⊕ comma b ⊕ s)
      (say (bytes "tile=(") ⊳ entries_in v.tile ⊳ say (bytes ")") ⊳ last (comma_in v.space)) tt)
      ∙ ap W.closed (first (bytes "]") (list_in c) tt (comma b ++ s))

  -- ── the three ──
  pub partition_read : (c : Commas ℤ) → T (view_ok v) → T (each_of in32 (values c)) →
      W.partition_view (inside (with no_travel (map_of c)) []) ≡ Some (W.view_of K.Partition (stands (exact (values c))) unused unused (view_found v))
  unfolding W.partition_view
  partition_read c h k =
      (λ i. W.partition_from (map_read no_travel c i) (view_read (with no_travel (map_of c)) h i))
      ∙ ap (λ (m : Clause). Some (W.view_of K.Partition m unused unused (view_found v))) (given_read c k)

  pub gather_read : (z : ℤ) → T (view_ok v) → T (in32 z) →
      W.gather_scatter_view (inside (with no_travel (sparse_of z)) []) ≡ Some (W.view_of K.GatherScatter unused unused (stands (exact (z ∷ []))) (view_found v))
  unfolding W.gather_scatter_view
  gather_read z h k = λ i. each (W.view_of K.GatherScatter unused unused (sparse_read z k i)) (view_read (with no_travel (sparse_of z)) h i)

  pub strided_read : (c : Commas ℤ) (s : Bool) (d : Commas ℤ) → T (view_ok v) → T (each_of in32 (values c)) → T (each_of in32 (values d)) →
      W.strided_view (inside (with (travel_of c s) (map_of d)) [])
      ≡ Some (W.view_of K.Strided (stands (exact (values d))) (stands (exact (values c))) unused (view_found v))
  unfolding W.strided_view W.strided_of
  strided_read c s d h k l =
      (λ i. each (W.strided_of (map_read (travel_of c s) d i) (travel_read c s (map_of d) i)) (view_read (with (travel_of c s) (map_of d)) h i))
      ∙ (λ i. Some (W.view_of K.Strided (given_read d l i) (given_read c k i) unused (view_found v)))
