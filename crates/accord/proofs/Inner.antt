-- The ordinary reading of a tile's content and of a tensor view's, in strict forms: the searches are settled by shape, the parts
-- are read back.
use Rattle.std.specs.Prelude.{if◌then◌else◌, Option, None, Some}
use Prim.Native.Nat.{ℕ, ◌-◌}
use mathlib.Core.Bool.{Bool, true, false, ◌&&◌, not}
use mathlib.Core.List.{List, [], ◌∷◌, ◌++◌, map, append-nil}
use mathlib.Core.Path.{◌≡◌, refl, ap, ◌∙◌}
use lib.Dec.{T, eqb}
use lib.ListN.{length}
use lib.IntN.{pos, negsuc}
use Rattle.lexis.specs.Text.{bytes, white, trim, split, cut, Cut, nowhere, begins, less_leading, less_trailing, unless_last}
use Rattle.scalars.specs.Names.{scalar_name}
use Rattle.meaning.specs.Decimal.{Dim, dynamic, known, dim, size, in64}
use Rattle.meaning.specs.Strict as Form
use Rattle.meaning.specs.Strict.{◌⊕◌, cuda, Commas, commas, values, dims, Name, word, scalar_of}
use Rattle.meaning.specs.Meant.{each_of, tensor_ok}
use Rattle.meaning.specs.Parts.{each, last, front, only, less_repeats}
use Rattle.meaning.specs.Found.{Entry, Clause, stands, filled}
use Rattle.meaning.specs.Tile.{dimension, dimensions, tile_of, before_pointer, pointee, tile_by, tile, Tensor, stride_parts, strides_of, tensor_of, tensor_parts, tensor_by, tensor}
use Rattle.grammar.specs.Tests.{every, and_left, and_right, TNotEq, every-++}
use Rattle.accord.proofs.Shape.{absent, first}
use Rattle.accord.proofs.Bracket.{lacks}
use Rattle.accord.proofs.Forms.{◌&◌, say, dims_in, strs_in, name_in, may_in, body}
use Rattle.accord.proofs.Num.{vacant, figure, figure_ink, trim_none, non, front_none, back_past, digits_any}
use Rattle.accord.proofs.Lists.{exact, dim_figure, figures, dims_split, split_at, split_none, last_snoc, front_snoc, sizes_dims, strides_read, dims_over, commas_over}
use Rattle.accord.proofs.Names.{name_word, word_class}
use Rattle.accord.proofs.Cases.{first_at, ◌⊳◌}
use Rattle.accord.proofs.Cases as C

-- ── a name behind dimensions ──
module _ (ds : List Dim) (n : Name) where
  dims_word : split 120 (dims ds ++ word n) ≡ map dim ds ++ (word n ∷ [])
  dims_word = dims_split ds (word n) (word_class (non (eqb 120)) tt n)

  name_read : scalar_name (last (split 120 (dims ds ++ word n))) ≡ Some (scalar_of n)
  name_read = ap (λ (l : List (List ℕ)). scalar_name (last l)) dims_word ∙ ap scalar_name (last_snoc (map dim ds) (word n)) ∙ name_word n

  front_read : front (split 120 (dims ds ++ word n)) ≡ map dim ds
  front_read = ap front dims_word ∙ front_snoc (map dim ds) (word n)

-- ── a tile of scalars ──
pub tile_plain : (ds : List Dim) (n : Name) → T (each_of in64 ds) → tile (dims ds ++ word n) ≡ Some (tile_of false (stands (exact (map size ds))) (scalar_of n))
unfolding tile
tile_plain ds n h =
    ap (tile_by (dims ds ++ word n)) (absent (bytes "ptr<") (dims_in ds & name_in n) tt)
    ∙ (λ i. each (tile_of false (dimensions (front_read ds n i))) (name_read ds n i))
    ∙ ap (λ (v : List Entry). Some (tile_of false (stands v) (scalar_of n))) (sizes_dims ds h)

-- ── a tile of pointers ──
-- what begins with `!` is never shed from a text without it
repeats_none : (P : List ℕ) (c : ℕ) (t : List ℕ) → T (non (eqb 33) c) → only (33 ∷ P) 0 (c ∷ t) ≡ false
repeats_none P c t h = ap (λ (b : Bool). if b && begins P t then only (33 ∷ P) (length (33 ∷ P) - 1) t else false) (TNotEq (eqb 33 c) h)

shed_past : (P t s : List ℕ) → T (every (non (eqb 33)) t) → less_repeats (33 ∷ P) (t ++ s) ≡ t ++ less_repeats (33 ∷ P) s
shed_past P [] s h = refl
shed_past P (c ∷ t) s h =
    ap (λ (k : Bool). if k then [] else c ∷ less_repeats (33 ∷ P) (t ++ s)) (repeats_none P c (t ++ s) (and_left (non (eqb 33) c) (every (non (eqb 33)) t) h))
    ∙ ap (λ (l : List ℕ). c ∷ l) (shed_past P t s (and_right (non (eqb 33) c) (every (non (eqb 33)) t) h))

shed_cuda : (b : Bool) → less_repeats (bytes "!cuda_tile.") (cuda b) ≡ []
shed_cuda true = refl
shed_cuda false = refl

cuda_ink : (b : Bool) → T (every (non white) (cuda b))
cuda_ink true = tt
cuda_ink false = tt

unprefixed : (ds : List Dim) (b : Bool) → less_repeats (bytes "!cuda_tile.") (trim (dims ds ++ cuda b)) ≡ dims ds
unprefixed ds b =
    ap (less_repeats (bytes "!cuda_tile.")) (trim_none (dims ds ++ cuda b) (every-++ (non white) (dims ds) (cuda b) (dims_over (non white) figure_ink tt ds) (cuda_ink b)))
    ∙ shed_past (bytes "cuda_tile.") (dims ds) (cuda b) (dims_over (non (eqb 33)) (lacks figure 33 tt) tt ds)
    ∙ ap (λ (l : List ℕ). dims ds ++ l) (shed_cuda b) ∙ append-nil (dims ds)

-- the dimensions, each behind an `x`
abbrev behind_x : List Dim → List ℕ
behind_x [] = []
behind_x (d ∷ ds) = 120 ∷ (dim d ++ behind_x ds)

dim_any : (d : Dim) → T (not (vacant (dim d)))
dim_any dynamic = tt
dim_any (known (pos n)) = digits_any n n []
dim_any (known (negsuc n)) = tt

dim_nonx : (d : Dim) → T (every (non (eqb 120)) (dim d))
dim_nonx d = figures 120 tt (dim d) (dim_figure d)

keep_some : (c : ℕ) (u t : List ℕ) → T (not (vacant u)) → unless_last (eqb 120) c (u ++ t) ≡ c ∷ (u ++ t)
keep_some c [] t h = absurd h
keep_some c (x ∷ u) t h = refl

back_dims : (ds : List Dim) (d : Dim) → less_trailing (eqb 120) (dims (d ∷ ds)) ≡ dim d ++ behind_x ds
back_dims [] d = back_past (eqb 120) (dim d) (120 ∷ []) (dim_nonx d)
back_dims (e ∷ ds) d =
    back_past (eqb 120) (dim d) (120 ∷ dims (e ∷ ds)) (dim_nonx d)
    ∙ ap (λ (l : List ℕ). dim d ++ unless_last (eqb 120) 120 l) (back_dims ds e) ∙ ap (λ (l : List ℕ). dim d ++ l) (keep_some 120 (dim e) (behind_x ds) (dim_any e))

join_split : (ds : List Dim) (d : Dim) → split 120 (dim d ++ behind_x ds) ≡ map dim (d ∷ ds)
join_split [] d = ap (split 120) (append-nil (dim d)) ∙ split_none 120 (dim d) (dim_nonx d)
join_split (e ∷ ds) d = split_at 120 (dim d) (dim e ++ behind_x ds) (dim_nonx d) ∙ ap (λ (l : List (List ℕ)). dim d ∷ l) (join_split ds e)

before_some : (u t : List ℕ) → before_pointer (u ++ (120 ∷ t)) ≡ split 120 (less_trailing (eqb 120) (u ++ (120 ∷ t)))
before_some [] t = refl
before_some (c ∷ u) t = refl

before_dims : (ds : List Dim) → before_pointer (dims ds) ≡ map dim ds
before_dims [] = refl
before_dims (d ∷ ds) = before_some (dim d) (dims ds) ∙ ap (split 120) (back_dims ds d) ∙ join_split ds d

pub tile_pointer : (ds : List Dim) (b : Bool) (n : Name) → T (each_of in64 ds) →
    tile (dims ds ⊕ cuda b ⊕ bytes "ptr<" ⊕ word n ⊕ bytes ">") ≡ Some (tile_of true (stands (exact (map size ds))) (scalar_of n))
unfolding tile
tile_pointer ds b n h =
    ap (tile_by (dims ds ⊕ cuda b ⊕ bytes "ptr<" ⊕ word n ⊕ bytes ">"))
    (first_at (bytes "ptr<") (word n ⊕ bytes ">") (dims_in ds ⊳ C.last (may_in b (bytes "!cuda_tile."))) tt)
    ∙ (λ i. each (tile_of true (dimensions ((ap before_pointer (unprefixed ds b) ∙ before_dims ds) i))) (pointee (first (bytes ">") (name_in n) tt [] i)))
    ∙ (λ i. each (tile_of true (stands (sizes_dims ds h i))) (name_word n i))

-- ── a tensor view ──
-- absent at rank 0 only
abbrev pub strides_found : Form.Strides → Clause
strides_found Form.Strides.absent = filled []
strides_found (Form.Strides.given s c) = stands (exact (map size (values c)))

abbrev pub tensor_found : Form.Tensor → Tensor
tensor_found t = record { element = scalar_of t.name; shape = stands (exact (map size t.shape)); strides = strides_found t.strides }

parted : (ds : List Dim) (n : Name) (l : Option (List ℕ)) → T (each_of in64 ds) →
    tensor_parts (dims ds ++ word n) l ≡ Some (record { element = scalar_of n; shape = stands (exact (map size ds)); strides = strides_of (length (map dim ds)) l })
unfolding tensor_parts
parted ds n l h =
    (λ i. each (tensor_of (front_read ds n i) l) (name_read ds n i))
    ∙ ap (λ (v : List Entry). Some (record { element = scalar_of n; shape = stands v; strides = strides_of (length (map dim ds)) l })) (sizes_dims ds h)

-- without strides
lone : (n : Name) → tensor (word n) ≡ tensor_parts (word n) None
unfolding tensor
lone n =
    ap (λ (k : Cut). tensor_by (word n) k (cut (bytes ",strides=") (word n))) (absent (bytes ", strides=") (name_in n) tt)
    ∙ ap (tensor_by (word n) nowhere) (absent (bytes ",strides=") (name_in n) tt)

module _ (c : Commas Dim) where
  abbrev bracket : List ℕ
  bracket = bytes "[" ⊕ commas dim c ⊕ bytes "]"

  -- a bracket is none of its bytes
  listed : (x : ℕ) → T (not (figure x)) → T (non (eqb x) 44) → T (non (eqb x) 32) → T (every (non (eqb x)) (commas dim c))
  listed x n k g = commas_over (non (eqb x)) (lacks figure x n) k g dim dim_figure c

  unbracket : less_trailing (eqb 93) (less_leading (eqb 91) bracket) ≡ commas dim c
  unbracket =
      ap (less_trailing (eqb 93)) (front_none (eqb 91) (commas dim c ++ bytes "]") (every-++ (non (eqb 91)) (commas dim c) (bytes "]") (listed 91 tt tt tt) tt))
      ∙ back_past (eqb 93) (commas dim c) (bytes "]") (listed 93 tt tt tt) ∙ append-nil (commas dim c)

  bracket_read : T (each_of in64 (values c)) → map dimension (stride_parts bracket) ≡ exact (map size (values c))
  unfolding stride_parts
  bracket_read h = ap (λ (t : List ℕ). map dimension (split 44 t)) unbracket ∙ strides_read c h

  cut_strides : (ds : List Dim) (n : Name) (s : Bool) → tensor (dims ds ⊕ word n ⊕ Form.strides (Form.Strides.given s c) []) ≡ tensor_parts (dims ds ++ word n) (Some bracket)
  unfolding tensor
  cut_strides ds n true =
      ap (λ (k : Cut). tensor_by (dims ds ⊕ word n ⊕ bytes ", strides=" ⊕ bracket) k (cut (bytes ",strides=") (dims ds ⊕ word n ⊕ bytes ", strides=" ⊕ bracket)))
      (first_at (bytes ", strides=") bracket (dims_in ds ⊳ C.last (name_in n)) tt)
  cut_strides ds n false =
      ap (λ (k : Cut). tensor_by (dims ds ⊕ word n ⊕ bytes ",strides=" ⊕ bracket) k (cut (bytes ",strides=") (dims ds ⊕ word n ⊕ bytes ",strides=" ⊕ bracket)))
      (absent (bytes ", strides=") (dims_in ds & name_in n & say (bytes ",strides=[") & strs_in c & say (bytes "]")) tt)
      ∙ ap (tensor_by (dims ds ⊕ word n ⊕ bytes ",strides=" ⊕ bracket) nowhere) (first_at (bytes ",strides=") bracket (dims_in ds ⊳ C.last (name_in n)) tt)

pub tensor_read : (t : Form.Tensor) → T (tensor_ok t.shape t.strides) → tensor (body t []) ≡ Some (tensor_found t)
tensor_read t = go t.shape t.strides
  where
    strided : (ds : List Dim) (s : Bool) (c : Commas Dim) → T (each_of in64 ds && each_of in64 (values c)) →
        tensor (dims ds ⊕ word t.name ⊕ Form.strides (Form.Strides.given s c) [])
        ≡ Some (record { element = scalar_of t.name; shape = stands (exact (map size ds)); strides = stands (exact (map size (values c))) })
    strided ds s c h =
        cut_strides c ds t.name s ∙ parted ds t.name (Some (bracket c)) (and_left (each_of in64 ds) (each_of in64 (values c)) h)
        ∙ ap (λ (v : List Entry). Some (record { element = scalar_of t.name; shape = stands (exact (map size ds)); strides = stands v }))
        (bracket_read c (and_right (each_of in64 ds) (each_of in64 (values c)) h))

    go : (ds : List Dim) (st : Form.Strides) → T (tensor_ok ds st) → tensor (dims ds ⊕ word t.name ⊕ Form.strides st [])
        ≡ Some (record { element = scalar_of t.name; shape = stands (exact (map size ds)); strides = strides_found st })
    go [] Form.Strides.absent h = ap tensor (append-nil (word t.name)) ∙ lone t.name ∙ parted [] t.name None tt
    go (d ∷ ds) Form.Strides.absent h = absurd h
    go [] (Form.Strides.given s c) h = strided [] s c h
    go (d ∷ ds) (Form.Strides.given s c) h = strided (d ∷ ds) s c h
