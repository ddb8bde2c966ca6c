-- For the private contracts: the written text built without its form, one part behind the other, and which records have one.
-- Where a caller puts a text as one part, its definition is `unfoldable`.
use Rattle.std.specs.Prelude.{ℕ, ◌≤◌, Bool, true, false, ◌&&◌, ◌||◌, not, List, [], ◌∷◌, ◌≡◌, eqb, ℤ, length}
use Rattle.std.specs.List.{flat_map}
use Prim.Native.Char.{code}
use Rattle.lexis.specs.Text.{Text, bytes}
use Rattle.scalars.specs.declared.scalar.Scalar.{Scalar}
use Rattle.meaning.specs.declared.Kind.{Kind}
use Rattle.meaning.specs.declared.Kind.TheVariants as K
use Rattle.meaning.specs.declared.Padding.{Padding}
use Rattle.meaning.specs.declared.Record.{Record}
use Rattle.meaning.specs.Decimal.{decimal, dim}
use Rattle.meaning.specs.Strict as S
use Rattle.meaning.specs.Strict.{◌⊕◌}
use Rattle.meaning.specs.Written.{first, pads_of, dimension_of, shape_in, strides_in, tile_in, map_in, traversal_in}

-- ── lists ──

-- each entry behind a separator
abbrev pub behind : {A : Type 0} → Text → (A → Text) → List A → Text
behind sep f l = flat_map (λ e. sep ⊕ f e) l

-- each further entry behind one
abbrev pub parted : {A : Type 0} → Text → (A → Text) → List A → Text
parted sep f [] = []
parted sep f (e ∷ l) = f e ⊕ behind sep f l

-- a list between two texts
unfoldable pub clause : {A : Type 0} → (A → Text) → Text → ℕ → List A → Text → Text
clause f head sep l tail = head ⊕ parted (sep ∷ []) f l ⊕ tail

abbrev pub entry : ℤ → Text
entry z = dim (dimension_of z)

abbrev pub before_x : ℤ → Text
before_x z = entry z ⊕ bytes "x"

unfoldable pub shaped : List ℤ → Text
shaped zs = flat_map before_x zs

-- nothing where there are none
unfoldable pub strides_text : List ℤ → Text
strides_text [] = []
strides_text (z ∷ zs) = clause entry (bytes ", strides=[") (code ",") (z ∷ zs) (bytes "]")

abbrev pub word_of : Scalar → Text
word_of e = S.word (first e)

abbrev pub body_text : Scalar → Bool → List ℤ → List ℤ → Text
body_text e m ds zs = shaped ds ⊕ word_of e ⊕ strides_text zs ⊕ S.mark m

abbrev pub pointer_text : Scalar → Bool → Text
pointer_text e m = bytes "!cuda_tile.ptr<" ⊕ word_of e ⊕ S.mark m ⊕ bytes ">"

abbrev pub padding_text : Padding → Text
padding_text p = S.pad_text (pads_of p)

abbrev pub lead_text : List ℤ → Text
lead_text ts = clause decimal (bytes "tile=(") (code "x") ts (bytes "), ")

abbrev pub travel_text : List ℤ → Text
travel_text ts = clause decimal (bytes "traversal_strides=[") (code ",") ts (bytes "], ")

abbrev pub map_text : List ℤ → Text
map_text ms = clause decimal (bytes "dim_map=[") (code ",") ms (bytes "]>")

unfoldable pub sparse_text : ℤ → Text
sparse_text z = bytes "sparse_dim=" ⊕ decimal z ⊕ bytes ">"

unfoldable pub body_in : Record → Text
body_in r = body_text r.element r.attribute (shape_in r) (strides_in r)

-- padding and tensor view
unfoldable pub inner_in : Record → Text
inner_in r = padding_text r.padding ⊕ bytes "tensor_view<" ⊕ body_in r ⊕ bytes ">, "

abbrev pub element_text : Bool → Scalar → Bool → Text
element_text true e m = pointer_text e m
element_text false e m = word_of e

abbrev pub head_as : Kind → Text
head_as K.Scalar = []
head_as K.Pointer = []
head_as K.Tile = bytes "!cuda_tile.tile<"
head_as K.TensorView = bytes "!cuda_tile.tensor_view<"
head_as K.Partition = bytes "!cuda_tile.partition_view<"
head_as K.GatherScatter = bytes "!cuda_tile.gather_scatter_view<"
head_as K.Strided = bytes "!cuda_tile.strided_view<"
head_as K.Token = bytes "!cuda_tile.token"

abbrev pub tile_text : Record → Text
tile_text r = shaped (shape_in r) ⊕ element_text r.pointer r.element r.attribute ⊕ bytes ">"

abbrev pub tensor_text : Record → Text
tensor_text r = body_in r ⊕ bytes ">"

-- what stands behind the head
abbrev pub rest_as : Kind → Record → Text
rest_as K.Scalar r = word_of r.element
rest_as K.Pointer r = pointer_text r.element r.attribute
rest_as K.Tile r = tile_text r
rest_as K.TensorView r = tensor_text r
rest_as K.Partition r = lead_text (tile_in r) ⊕ inner_in r ⊕ map_text (map_in r)
rest_as K.GatherScatter r = lead_text (tile_in r) ⊕ inner_in r ⊕ sparse_text r.sparse
rest_as K.Strided r = lead_text (tile_in r) ⊕ travel_text (traversal_in r) ⊕ inner_in r ⊕ map_text (map_in r)
rest_as K.Token r = []

abbrev pub text_as : Kind → Record → Text
text_as k r = head_as k ⊕ rest_as k r

abbrev pub text : Record → Text
text r = text_as r.kind r

-- which records have a text
abbrev pub some_in : ℕ → Bool
some_in n = not (eqb n 0)

abbrev pub strides_fine : Record → Bool
strides_fine r = some_in r.strides_len || eqb r.shape_len 0

abbrev pub shown_as : Kind → Record → Bool
shown_as K.Scalar r = not r.attribute
shown_as K.Pointer r = true
shown_as K.Tile r = r.pointer || not r.attribute
shown_as K.TensorView r = strides_fine r
shown_as K.Partition r = some_in r.tile_len && strides_fine r && some_in r.map_len
shown_as K.GatherScatter r = some_in r.tile_len && strides_fine r
shown_as K.Strided r = some_in r.tile_len && strides_fine r && some_in r.traversal_len && some_in r.map_len
shown_as K.Token r = not r.attribute

abbrev pub shown : Record → Bool
shown r = shown_as r.kind r

-- no length over the capacity, each array as long as it
pub record Small (cap : ℕ) (r : Record) : Type 0 where
  pub shape : r.shape_len ≤ cap
  pub shape_array : length r.shape ≡ cap
  pub strides : r.strides_len ≤ cap
  pub strides_array : length r.strides ≡ cap
  pub tile : r.tile_len ≤ cap
  pub tile_array : length r.tile ≡ cap
  pub map : r.map_len ≤ cap
  pub map_array : length r.map ≡ cap
  pub traversal : r.traversal_len ≤ cap
  pub traversal_array : length r.traversal ≡ cap
