-- What strict forms mean (01, "Strict forms"), and which are well formed: each numeral in the range of its place, the strides
-- absent at rank 0 only. A strict text has a well-formed form; its meaning is a type of any rank.
use Rattle.std.specs.Prelude.{ℕ, Bool, true, false, ◌&&◌, not, List, [], ◌∷◌, map, ◌≡◌, T, leb, ℤ, pos, length, Option, None, Some}
use Rattle.lexis.specs.Text.{Text}
use Rattle.scalars.specs.declared.scalar.Scalar.{Scalar}
use Rattle.scalars.specs.declared.scalar.Scalar.TheVariants.{I1}
use Rattle.meaning.specs.declared.Kind.{Kind}
use Rattle.meaning.specs.declared.Kind.TheVariants as K
use Rattle.meaning.specs.declared.Padding.{Padding}
use Rattle.meaning.specs.declared.Padding.TheVariants as P
use Rattle.meaning.specs.declared.Record.{Record}
use Rattle.meaning.specs.declared.Reading.{Reading}
use Rattle.meaning.specs.declared.Refusal.TheVariants.{Accepted, TooLong, HighByte, NotStrict, TooMany}
use Rattle.meaning.specs.Found.{padded, unnoted}
use Rattle.meaning.specs.Ordinary.{high_from, refused}
use Rattle.meaning.specs.Decimal.{Dim, in32, in64, size}
use Rattle.meaning.specs.Strict as S
use Rattle.meaning.specs.Strict.{Form, Element, Strides, Pads, View, values, entries_of, scalar_of, padding_of, spell}

-- a type of any rank
pub record Any : Type 0 where
  pub kind : Kind
  pub element : Scalar
  pub pointer : Bool
  pub attribute : Bool
  pub shape : List ℤ
  pub strides : List ℤ
  pub tile : List ℤ
  pub map : List ℤ
  pub traversal : List ℤ
  pub sparse : ℤ
  pub padding : Padding

abbrev pub any : Kind → Scalar → Bool → Bool → List ℤ → List ℤ → List ℤ → List ℤ → List ℤ → ℤ → Padding → Any
any k e p a shape strides tile map traversal sparse padding = record {
  kind = k;
  element = e;
  pointer = p;
  attribute = a;
  shape = shape;
  strides = strides;
  tile = tile;
  map = map;
  traversal = traversal;
  sparse = sparse;
  padding = padding;
}

-- ── meanings ──

-- the strides may be absent at rank 0 only, meaning none
abbrev pub meant_strides : Strides → List ℤ
meant_strides S.Strides.absent = []
meant_strides (S.Strides.given s c) = map size (values c)

abbrev pub meant_pads : Pads → Padding
meant_pads S.Pads.absent = P.Absent
meant_pads (S.Pads.given p s) = padding_of p

abbrev pub meant_tile : List Dim → Element → Any
meant_tile ds (S.plain n) = any K.Tile (scalar_of n) false false (map size ds) [] [] [] [] (pos 0) P.Absent
meant_tile ds (S.pointer p) = any K.Tile (scalar_of p.name) true p.marked (map size ds) [] [] [] [] (pos 0) P.Absent

abbrev pub meant_view : Kind → View → List ℤ → List ℤ → ℤ → Any
meant_view k v m t z =
    any k (scalar_of v.tensor.name) false v.tensor.marked (map size v.tensor.shape) (meant_strides v.tensor.strides) (entries_of v.tile) m t z (meant_pads v.padding)

abbrev pub mean : Form → Any
mean (S.scalar n) = any K.Scalar (scalar_of n) false false [] [] [] [] [] (pos 0) P.Absent
mean (S.token p) = any K.Token I1 false false [] [] [] [] [] (pos 0) P.Absent
mean (S.ptr p) = any K.Pointer (scalar_of p.name) false p.marked [] [] [] [] [] (pos 0) P.Absent
mean (S.tile p ds e) = meant_tile ds e
mean (S.tensor p t) = any K.TensorView (scalar_of t.name) false t.marked (map size t.shape) (meant_strides t.strides) [] [] [] (pos 0) P.Absent
mean (S.partition v c) = meant_view K.Partition v (values c) [] (pos 0)
mean (S.gather v z) = meant_view K.GatherScatter v [] [] z
mean (S.strided v c s d) = meant_view K.Strided v (values d) (values c) (pos 0)

-- ── well formed ──

abbrev pub each_of {ℓ} : {A : Type ℓ} → (A → Bool) → List A → Bool
each_of f [] = true
each_of f (x ∷ xs) = f x && each_of f xs

abbrev pub tensor_ok : List Dim → Strides → Bool
tensor_ok [] S.Strides.absent = true
tensor_ok (d ∷ ds) S.Strides.absent = false
tensor_ok ds (S.Strides.given s c) = each_of in64 ds && each_of in64 (values c)

abbrev pub view_ok : View → Bool
view_ok v = each_of in32 (entries_of v.tile) && tensor_ok v.tensor.shape v.tensor.strides

abbrev pub ok : Form → Bool
ok (S.scalar n) = true
ok (S.token p) = true
ok (S.ptr p) = true
ok (S.tile p ds e) = each_of in64 ds
ok (S.tensor p t) = tensor_ok t.shape t.strides
ok (S.partition v c) = view_ok v && each_of in32 (values c)
ok (S.gather v z) = view_ok v && in32 z
ok (S.strided v c s d) = view_ok v && each_of in32 (values c) && each_of in32 (values d)

-- a strict text and its meaning
pub record Strict (t : Text) (a : Any) : Type 0 where
  pub form : Form
  pub fine : T (ok form)
  pub text : t ≡ spell form
  pub says : a ≡ mean form

-- ── what the strict reader answers: refusals 1, 2, 5, 4 in this order ──

-- no list has over `cap` entries
unfoldable pub fits : ℕ → Any → Bool
fits cap a =
    leb (length a.shape) cap && leb (length a.strides) cap && leb (length a.tile) cap && leb (length a.map) cap && leb (length a.traversal) cap

-- the record of a type, at a capacity
unfoldable pub flat_any : ℕ → Any → Record
flat_any cap a = record {
  kind = a.kind;
  element = a.element;
  pointer = a.pointer;
  attribute = a.attribute;
  shape = padded cap a.shape;
  shape_len = length a.shape;
  strides = padded cap a.strides;
  strides_len = length a.strides;
  tile = padded cap a.tile;
  tile_len = length a.tile;
  map = padded cap a.map;
  map_len = length a.map;
  traversal = padded cap a.traversal;
  traversal_len = length a.traversal;
  sparse = a.sparse;
  padding = a.padding;
}

unfoldable pub taken : ℕ → Any → Reading
taken cap a = record { refusal = Accepted; place = 0; value = flat_any cap a; note = unnoted }

-- an ASCII text within the limit: it is strict and within the capacity, or strict and not, or not strict at any rank
pub data Judged (cap : ℕ) (s : Text) : Reading → Type 0 where
  accepted : (a : Any) → Strict s a → T (fits cap a) → Judged cap s (taken cap a)
  too_many : (a : Any) → Strict s a → T (not (fits cap a)) → Judged cap s (refused cap TooMany 0)
  not_strict : ((a : Any) → Strict s a → ⊥) → Judged cap s (refused cap NotStrict 0)

abbrev pub ReadAscii : ℕ → Text → Option ℕ → Reading → Type 0
ReadAscii cap s (Some place) r = r ≡ refused cap HighByte place
ReadAscii cap s None r = Judged cap s r

-- for lists of at most `cap` entries and texts of at most `size` bytes
abbrev pub Strictly : ℕ → ℕ → Text → Reading → Type 0
Strictly cap size s r = elim (leb (length s) size) [ true ↦ ReadAscii cap s (high_from 0 s) r | false ↦ r ≡ refused cap TooLong 0 ]
