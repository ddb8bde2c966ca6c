-- Strict forms (01, "Strict forms"): what a type of any rank can be built into, with every choice that the document allows,
-- and its text. No byte stands in a text that isn't named here. What a form means, and which are well formed, is in `Meant`.
use Rattle.std.specs.Prelude.{ℕ, zero, suc, Bool, true, false, List, [], ◌∷◌, ◌++◌, map, T, ltb, ℤ}
use Rattle.lexis.specs.Text.{Text, bytes}
use Rattle.scalars.specs.declared.scalar.Scalar.{Scalar}
use Rattle.scalars.specs.declared.scalar.Scalar.TheVariants.{I1, I4, I8, I16, I32, I64, F16, BF16, F32, TF32, F64, F8E4M3FN, F8E5M2, F8E8M0FNU, F4E2M1FN, F8E5M3FNU}
use Rattle.meaning.specs.declared.Padding.{Padding}
use Rattle.meaning.specs.declared.Padding.TheVariants as P
use Rattle.meaning.specs.Decimal.{decimal, Dim, dim}

-- texts side by side
infixr 66 ◌⊕◌
abbrev pub ◌⊕◌ : Text → Text → Text
a ⊕ b = a ++ b

-- a part that may stand or not
abbrev pub may : Bool → Text → Text
may true t = t
may false t = []

-- ── names: scalars in any accepted spelling, paddings ──

abbrev pub nth {ℓ} : {A : Type ℓ} → A → List A → ℕ → A
nth d [] i = d
nth d (x ∷ xs) zero = x
nth d (x ∷ xs) (suc i) = nth d xs i

-- a place in a table of n entries
pub record Place (n : ℕ) : Type 0 where
  pub index : ℕ
  pub within : T (ltb index n)

abbrev pub words : List Text
words =
    bytes "i1" ∷ bytes "i4" ∷ bytes "i8" ∷ bytes "i16" ∷ bytes "i32" ∷ bytes "i64" ∷
    bytes "f16" ∷ bytes "bf16" ∷ bytes "f32" ∷ bytes "tf32" ∷ bytes "f64" ∷
    bytes "f8E4M3FN" ∷ bytes "f8e4m3fn" ∷ bytes "f8E5M2" ∷ bytes "f8e5m2" ∷ bytes "f8E8M0FNU" ∷ bytes "f8e8m0fnu" ∷
    bytes "f4E2M1FN" ∷ bytes "f4e2m1fn" ∷ bytes "f8E5M3FNU" ∷ bytes "f8e5m3fnu" ∷ bytes "bool" ∷ []

abbrev pub scalars : List Scalar
scalars =
    I1 ∷ I4 ∷ I8 ∷ I16 ∷ I32 ∷ I64 ∷
    F16 ∷ BF16 ∷ F32 ∷ TF32 ∷ F64 ∷
    F8E4M3FN ∷ F8E4M3FN ∷ F8E5M2 ∷ F8E5M2 ∷ F8E8M0FNU ∷ F8E8M0FNU ∷
    F4E2M1FN ∷ F4E2M1FN ∷ F8E5M3FNU ∷ F8E5M3FNU ∷ I1 ∷ []

abbrev pub pads : List Text
pads = bytes "zero" ∷ bytes "neg_zero" ∷ bytes "nan" ∷ bytes "pos_inf" ∷ bytes "neg_inf" ∷ []

abbrev pub paddings : List Padding
paddings = P.Zero ∷ P.NegZero ∷ P.Nan ∷ P.PosInf ∷ P.NegInf ∷ []

abbrev pub Name : Type 0
Name = Place 22

abbrev pub word : Name → Text
word n = nth [] words n.index

abbrev pub scalar_of : Name → Scalar
scalar_of n = nth I1 scalars n.index

abbrev pub pad : Place 5 → Text
pad p = nth [] pads p.index

abbrev pub padding_of : Place 5 → Padding
padding_of p = nth P.Zero paddings p.index

-- ── lists of at least one entry; after a comma one space may stand or not ──

abbrev pub comma : Bool → Text
comma s = bytes "," ⊕ may s (bytes " ")

pub record Next (A : Type 0) : Type 0 where
  pub space : Bool
  pub entry : A

pub record Commas (A : Type 0) : Type 0 where
  pub head : A
  pub tail : List (Next A)

abbrev pub rest : {A : Type 0} → (A → Text) → List (Next A) → Text
rest f [] = []
rest f (n ∷ ns) = comma n.space ⊕ f n.entry ⊕ rest f ns

abbrev pub commas : {A : Type 0} → (A → Text) → Commas A → Text
commas f c = f c.head ⊕ rest f c.tail

abbrev pub values : {A : Type 0} → Commas A → List A
values c = c.head ∷ map (λ n. n.entry) c.tail

-- dimensions, each followed by `x`
abbrev pub dims : List Dim → Text
dims [] = []
dims (d ∷ ds) = dim d ⊕ bytes "x" ⊕ dims ds

-- tile entries, parted by `x` throughout or by commas throughout
abbrev pub xrest : List ℤ → Text
xrest [] = []
xrest (z ∷ zs) = bytes "x" ⊕ decimal z ⊕ xrest zs

pub data Entries : Type 0 where
  by_x : ℤ → List ℤ → Entries
  by_comma : Commas ℤ → Entries

abbrev pub entries : Entries → Text
entries (by_x z zs) = decimal z ⊕ xrest zs
entries (by_comma c) = commas decimal c

abbrev pub entries_of : Entries → List ℤ
entries_of (by_x z zs) = z ∷ zs
entries_of (by_comma c) = values c

-- ── the parts of forms ──

-- `!cuda_tile.` in front, or not
abbrev pub cuda : Bool → Text
cuda p = may p (bytes "!cuda_tile.")

-- the mark is exactly these 27 bytes; it may stand once, before the `>` that closes a pointer or the tensor view
abbrev pub mark : Bool → Text
mark m = may m (bytes ", #cuda_tile.ptr_attr<none>")

pub record Pointer : Type 0 where
  pub front : Bool
  pub name : Name
  pub marked : Bool

abbrev pub pointer_text : Pointer → Text
pointer_text p = cuda p.front ⊕ bytes "ptr<" ⊕ word p.name ⊕ mark p.marked ⊕ bytes ">"

pub data Element : Type 0 where
  plain : Name → Element
  pointer : Pointer → Element

abbrev pub element : Element → Text
element (plain n) = word n
element (pointer p) = pointer_text p

-- the strides' list, or none
pub data Strides : Type 0 where
  absent : Strides
  given : Bool → Commas Dim → Strides

-- the clause, and r after it
abbrev pub strides : Strides → Text → Text
strides absent r = r
strides (given s c) r = comma s ⊕ bytes "strides=[" ⊕ commas dim c ⊕ bytes "]" ⊕ r

pub record Tensor : Type 0 where
  pub shape : List Dim
  pub name : Name
  pub strides : Strides
  pub marked : Bool

-- what stands in a tensor view's brackets
abbrev pub body : Tensor → Text
body t = dims t.shape ⊕ word t.name ⊕ strides t.strides (mark t.marked)

pub data Pads : Type 0 where
  absent : Pads
  given : Place 5 → Bool → Pads

abbrev pub pad_text : Pads → Text
pad_text absent = []
pad_text (given p s) = bytes "padding_value=" ⊕ pad p ⊕ comma s

-- how a view's tensor view is introduced: `tensor_view=` may stand if `!cuda_tile.` follows
pub data Intro : Type 0 where
  bare prefixed named : Intro

abbrev pub intro_text : Intro → Text
intro_text bare = []
intro_text prefixed = bytes "!cuda_tile."
intro_text named = bytes "tensor_view=!cuda_tile."

-- what the three views share; the spaces are those after the tile's comma and after the tensor view's
pub record View : Type 0 where
  pub front : Bool
  pub tile : Entries
  pub space : Bool
  pub padding : Pads
  pub intro : Intro
  pub tensor : Tensor
  pub space' : Bool

-- tile entries, comma, what follows the tile, padding, introduction, the tensor view's content, comma, the end
abbrev pub inner : Text → Text → Text → Text → Text → Text → Text → Text → Text
inner e c m p i b c' d = bytes "tile=(" ⊕ e ⊕ bytes ")" ⊕ c ⊕ m ⊕ p ⊕ i ⊕ bytes "tensor_view<" ⊕ b ⊕ bytes ">" ⊕ c' ⊕ d

abbrev pub view_text : View → Text → Text → Text
view_text v middle end =
    inner (entries v.tile) (comma v.space) middle (pad_text v.padding) (intro_text v.intro) (body v.tensor) (comma v.space') end

abbrev pub map_text : Commas ℤ → Text
map_text c = bytes "dim_map=[" ⊕ commas decimal c ⊕ bytes "]"

abbrev pub travel_text : Commas ℤ → Bool → Text
travel_text c s = bytes "traversal_strides=[" ⊕ commas decimal c ⊕ bytes "]" ⊕ comma s

-- ── the forms and their texts ──

pub data Form : Type 0 where
  scalar : Name → Form
  token : Bool → Form
  ptr : Pointer → Form
  tile : Bool → List Dim → Element → Form
  tensor : Bool → Tensor → Form
  partition : View → Commas ℤ → Form
  gather : View → ℤ → Form
  -- the traversal strides right after the tile, the space after them, the map
  strided : View → Commas ℤ → Bool → Commas ℤ → Form

abbrev pub spell : Form → Text
spell (scalar n) = word n
spell (token p) = cuda p ⊕ bytes "token"
spell (ptr p) = pointer_text p
spell (tile p ds e) = cuda p ⊕ bytes "tile<" ⊕ dims ds ⊕ element e ⊕ bytes ">"
spell (tensor p t) = cuda p ⊕ bytes "tensor_view<" ⊕ body t ⊕ bytes ">"
spell (partition v c) = cuda v.front ⊕ bytes "partition_view<" ⊕ view_text v [] (map_text c) ⊕ bytes ">"
spell (gather v z) = cuda v.front ⊕ bytes "gather_scatter_view<" ⊕ view_text v [] (bytes "sparse_dim=" ⊕ decimal z) ⊕ bytes ">"
spell (strided v c s d) = cuda v.front ⊕ bytes "strided_view<" ⊕ view_text v (travel_text c s) (map_text d) ⊕ bytes ">"
