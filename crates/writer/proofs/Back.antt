-- A written text says its record and no other: the form's meaning is the record's own, and laid in arrays that is the record
-- again. So reading a written text strictly answers the record.
use Rattle.std.specs.Prelude.{if◌then◌else◌, Option, None, Some}
use Prim.Native.Nat.{ℕ, zero, suc, ◌-◌, ◌^◌}
use native.Mathlib.Omega.{arith}
use mathlib.Core.Bool.{Bool, true, false, ◌&&◌}
use mathlib.Core.List.{List, [], ◌∷◌, map}
use mathlib.Core.Path.{◌≡◌, refl, sym, ap, subst, ◌∙◌}
use borrow.Author.Tests.{eqb-true}
use lib.Dec.{T, eqb, leb, le→leb}
use lib.IntN.{ℤ, pos, negsuc}
use lib.ListN.{length, take, drop}
use lib.Seq.{length-take-le}
use Rattle.lexis.specs.Text.{Text}
use Rattle.scalars.specs.declared.scalar.Scalar.{Scalar}
use Rattle.scalars.specs.declared.scalar.Scalar.TheVariants.{I1, I4, I8, I16, I32, I64, F16, BF16, F32, TF32, F64, F8E4M3FN, F8E5M2, F8E8M0FNU, F4E2M1FN, F8E5M3FNU}
use Rattle.meaning.specs.declared.Kind.{Kind}
use Rattle.meaning.specs.declared.Kind.TheVariants as K
use Rattle.meaning.specs.declared.Padding.{Padding}
use Rattle.meaning.specs.declared.Padding.TheVariants.{Absent, Zero, NegZero, Nan, PosInf, NegInf}
use Rattle.meaning.specs.declared.Reading.{Reading}
use Rattle.meaning.specs.declared.Record.{Record}
use Rattle.meaning.specs.declared.Refusal.TheVariants.{Accepted}
use Rattle.meaning.specs.Decimal.{size, dynamic, known}
use Rattle.meaning.specs.Found.{padded}
use Rattle.meaning.specs.Parts.{each}
use Rattle.meaning.specs.Normal.{is_zero, all_zero, normal}
use Rattle.meaning.specs.Strict as S
use Rattle.meaning.specs.Strict.{Tensor, View, Commas, Form, values, entries_of, scalar_of, spell}
use Rattle.meaning.specs.Meant.{Any, any, mean, meant_view, meant_strides, meant_pads, Strict, flat_any, fits, taken, Judged, accepted}
use Rattle.meaning.specs.Written as W
use Rattle.meaning.specs.Written.{first, pads_of, dimension_of, listed, form_as, form, written, tensor_of, view_of, tensor_in, view_in, shape_in, strides_in}
use Rattle.meaning.specs.Written.{tile_in, map_in, traversal_in}
use Rattle.writer.proofs.Short.{Ranged}
use Rattle.grammar.specs.Tests.{and_left, and_right, and_in}
use Rattle.writer.proofs.Opened.{zero_is, Kept, Opened, opened}
use Rattle.writer.proofs.Answers.{Arrays}
use Rattle.meaning.proofs.Whens.{When, when_each, when_bind, when_unless}
use Rattle.writer.proofs.Sound.{entries_are, plain_are, Fine, form_fine}

-- ── a record's own meaning ──

abbrev own_as : Kind → Record → Any
own_as k r = any k r.element r.pointer r.attribute (shape_in r) (strides_in r) (tile_in r) (map_in r) (traversal_in r) r.sparse r.padding

abbrev pub own : Record → Any
own r = own_as r.kind r

-- ── what its parts say ──

scalar_back : (e : Scalar) → scalar_of (first e) ≡ e
scalar_back I1 = refl
scalar_back I4 = refl
scalar_back I8 = refl
scalar_back I16 = refl
scalar_back I32 = refl
scalar_back I64 = refl
scalar_back F16 = refl
scalar_back BF16 = refl
scalar_back F32 = refl
scalar_back TF32 = refl
scalar_back F64 = refl
scalar_back F8E4M3FN = refl
scalar_back F8E5M2 = refl
scalar_back F8E8M0FNU = refl
scalar_back F4E2M1FN = refl
scalar_back F8E5M3FNU = refl

padding_back : (p : Padding) → meant_pads (pads_of p) ≡ p
padding_back Absent = refl
padding_back Zero = refl
padding_back NegZero = refl
padding_back Nan = refl
padding_back PosInf = refl
padding_back NegInf = refl

-- the smallest i64 is `?`, and every other number itself
dim_back : (z : ℤ) → size (dimension_of z) ≡ z
dim_back (pos n) = refl
dim_back (negsuc n) = by (eqb n (2 ^ 63 - 1)) (eqb-true n (2 ^ 63 - 1))
  where
    by : (b : Bool) → (b ≡ true → n ≡ 2 ^ 63 - 1) → size (if b then dynamic else known (negsuc n)) ≡ negsuc n
    by true e = ap negsuc (sym (e refl))
    by false e = refl

dims_back : (zs : List ℤ) → map size (map dimension_of zs) ≡ zs
dims_back [] = refl
dims_back (z ∷ zs) = λ i. dim_back z i ∷ dims_back zs i

abbrev ListSays : List ℤ → Commas ℤ → Type 0
ListSays zs c = values c ≡ zs

list_says : (zs : List ℤ) → When (ListSays zs) (listed (λ z. z) zs)
list_says [] = tt
list_says (z ∷ zs) = ap (λ (l : List ℤ). z ∷ l) (plain_are zs)

record TensorSays (e : Scalar) (m : Bool) (ds zs : List ℤ) (t : Tensor) : Type 0 where
  pub name : scalar_of t.name ≡ e
  pub marked : t.marked ≡ m
  pub shape : map size t.shape ≡ ds
  pub strides : meant_strides t.strides ≡ zs

tensor_says : (e : Scalar) (m : Bool) (ds zs : List ℤ) → When (TensorSays e m ds zs) (tensor_of e m ds zs)
tensor_says e m [] [] = record { name = scalar_back e; marked = refl; shape = refl; strides = refl }
tensor_says e m (d ∷ ds) [] = tt
tensor_says e m [] (z ∷ zs) = record {
  name = scalar_back e;
  marked = refl;
  shape = refl;
  strides = ap (λ (l : List _). map size (dimension_of z ∷ l)) (entries_are dimension_of zs) ∙ dims_back (z ∷ zs);
}
tensor_says e m (d ∷ ds) (z ∷ zs) = record {
  name = scalar_back e;
  marked = refl;
  shape = dims_back (d ∷ ds);
  strides = ap (λ (l : List _). map size (dimension_of z ∷ l)) (entries_are dimension_of zs) ∙ dims_back (z ∷ zs);
}

record ViewSays (p : Padding) (ts : List ℤ) (Says : Tensor → Type 0) (v : View) : Type 0 where
  pub tile : entries_of v.tile ≡ ts
  pub padding : meant_pads v.padding ≡ p
  pub tensor : Says v.tensor

view_says : (p : Padding) (ts : List ℤ) (Says : Tensor → Type 0) (o : Option Tensor) → When Says o → When (ViewSays p ts Says) (view_of p ts o)
view_says p [] Says o h = tt
view_says p (t ∷ ts) Says None h = tt
view_says p (t ∷ ts) Says (Some v) h = record { tile = refl; padding = padding_back p; tensor = h }

-- ── what its form says ──

module _ (cap : ℕ) (r : Record) where
  abbrev Says : Kind → Form → Type 0
  Says k f = mean f ≡ own_as k r

  abbrev TensorInSays : Tensor → Type 0
  TensorInSays = TensorSays r.element r.attribute (shape_in r) (strides_in r)

  abbrev ViewInSays : View → Type 0
  ViewInSays = ViewSays r.padding (tile_in r) TensorInSays

  tensor_in_says : When TensorInSays (tensor_in r)
  tensor_in_says = tensor_says r.element r.attribute (shape_in r) (strides_in r)

  view_in_says : When ViewInSays (view_in r)
  view_in_says = view_says r.padding (tile_in r) TensorInSays (tensor_in r) tensor_in_says

  -- a view's meaning, over its map, traversal strides and sparse dimension
  view_is : (k : Kind) (v : View) → ViewInSays v → r.pointer ≡ false → {m t : List ℤ} {z : ℤ} →
      m ≡ map_in r → t ≡ traversal_in r → z ≡ r.sparse → meant_view k v m t z ≡ own_as k r
  view_is k v s p m t z = λ i.
      any k (s.tensor.name i) (sym p i) (s.tensor.marked i) (s.tensor.shape i) (s.tensor.strides i) (s.tile i) (m i) (t i) (z i) (s.padding i)

  tile_is : (o : Opened cap K.Tile r) (p m : Bool) → r.pointer ≡ p → r.attribute ≡ m →
      When (Says K.Tile) (if p then Some (S.tile true (map dimension_of (shape_in r)) (S.pointer (record { front = true; name = first r.element; marked = m })))
      else W.unless m (S.tile true (map dimension_of (shape_in r)) (S.plain (first r.element))))
  tile_is o true m e f = λ i.
      any K.Tile (scalar_back r.element i) (sym e i) (sym f i) (dims_back (shape_in r) i) (sym o.strides.idle i) (sym o.tile.idle i)
      (sym o.map.idle i) (sym o.traversal.idle i) (sym o.sparse i) (sym o.padding i)
  tile_is o false true e f = tt
  tile_is o false false e f = λ i.
      any K.Tile (scalar_back r.element i) (sym e i) (sym f i) (dims_back (shape_in r) i) (sym o.strides.idle i) (sym o.tile.idle i)
      (sym o.map.idle i) (sym o.traversal.idle i) (sym o.sparse i) (sym o.padding i)

  says_as : (k : Kind) → Opened cap k r → When (Says k) (form_as k r)
  says_as K.Scalar o = when_unless (Says K.Scalar) r.attribute (S.scalar (first r.element)) (λ e i.
      any K.Scalar (scalar_back r.element i) (sym o.pointer i) (sym e i) (sym o.shape.idle i) (sym o.strides.idle i) (sym o.tile.idle i)
      (sym o.map.idle i) (sym o.traversal.idle i) (sym o.sparse i) (sym o.padding i))
  says_as K.Pointer o = λ i.
      any K.Pointer (scalar_back r.element i) (sym o.pointer i) r.attribute (sym o.shape.idle i) (sym o.strides.idle i) (sym o.tile.idle i)
      (sym o.map.idle i) (sym o.traversal.idle i) (sym o.sparse i) (sym o.padding i)
  says_as K.Tile o = tile_is o r.pointer r.attribute refl refl
  says_as K.TensorView o = when_each TensorInSays (Says K.TensorView) (S.tensor true) (λ t s i.
      any K.TensorView (s.name i) (sym o.pointer i) (s.marked i) (s.shape i) (s.strides i) (sym o.tile.idle i)
      (sym o.map.idle i) (sym o.traversal.idle i) (sym o.sparse i) (sym o.padding i)) (tensor_in r) tensor_in_says
  says_as K.Partition o =
      when_bind ViewInSays (Says K.Partition) _ (λ v s.
      when_each (ListSays (map_in r)) (Says K.Partition) (S.partition v) (λ c h.
      view_is K.Partition v s o.pointer h (sym o.traversal.idle) (sym o.sparse))
      (listed (λ z. z) (map_in r)) (list_says (map_in r)))
      (view_in r) view_in_says
  says_as K.GatherScatter o =
      when_each ViewInSays (Says K.GatherScatter) _ (λ v s.
      view_is K.GatherScatter v s o.pointer (sym o.map.idle) (sym o.traversal.idle) refl)
      (view_in r) view_in_says
  says_as K.Strided o =
      when_bind ViewInSays (Says K.Strided) _ (λ v s.
      when_bind (ListSays (traversal_in r)) (Says K.Strided) _ (λ t g.
      when_each (ListSays (map_in r)) (Says K.Strided) _ (λ c h.
      view_is K.Strided v s o.pointer h g (sym o.sparse))
      (listed (λ z. z) (map_in r)) (list_says (map_in r)))
      (listed (λ z. z) (traversal_in r)) (list_says (traversal_in r)))
      (view_in r) view_in_says
  says_as K.Token o = when_unless (Says K.Token) r.attribute (S.token true) (λ e i.
      any K.Token (sym o.element i) (sym o.pointer i) (sym e i) (sym o.shape.idle i) (sym o.strides.idle i) (sym o.tile.idle i)
      (sym o.map.idle i) (sym o.traversal.idle i) (sym o.sparse i) (sym o.padding i))

  pub form_says : normal cap r ≡ true → When (λ f. mean f ≡ own r) (form r)
  form_says n = says_as r.kind (opened cap r n)

-- ── laid in arrays it is the record again ──

blank_back : (l : List ℤ) → T (all_zero l) → padded (length l) [] ≡ l
blank_back [] h = refl
blank_back (z ∷ l) h = λ i. sym (zero_is z (and_left (is_zero z) (all_zero l) h)) i ∷ blank_back l (and_right (is_zero z) (all_zero l) h) i

array_back : (n : ℕ) (l : List ℤ) → T (all_zero (drop n l)) → padded (length l) (take n l) ≡ l
array_back zero l h = blank_back l h
array_back (suc n) [] h = refl
array_back (suc n) (z ∷ l) h = ap (λ (l : List ℤ). z ∷ l) (array_back n l h)

module _ {cap : ℕ} {used : Bool} {n : ℕ} {l : List ℤ} (k : Kept cap used n l) (a : length l ≡ cap) where
  list_back : padded cap (take n l) ≡ l
  list_back = ap (λ (c : ℕ). padded c (take n l)) (sym a) ∙ array_back n l k.zeros

  length_back : length (take n l) ≡ n
  length_back = length-take-le n l (omega (arith, k.within))

  list_fits : T (leb (length (take n l)) cap)
  list_fits = le→leb (length (take n l)) cap (omega (arith, k.within, length_back))

module _ (cap : ℕ) (r : Record) (a : Arrays cap r) (n : normal cap r ≡ true) where
  pub flat_own : flat_any cap (own r) ≡ r
  unfolding flat_any
  flat_own = let o = opened cap r n in λ i. record {
    kind = r.kind;
    element = r.element;
    pointer = r.pointer;
    attribute = r.attribute;
    shape = list_back o.shape a.shape i;
    shape_len = length_back o.shape a.shape i;
    strides = list_back o.strides a.strides i;
    strides_len = length_back o.strides a.strides i;
    tile = list_back o.tile a.tile i;
    tile_len = length_back o.tile a.tile i;
    map = list_back o.map a.map i;
    map_len = length_back o.map a.map i;
    traversal = list_back o.traversal a.traversal i;
    traversal_len = length_back o.traversal a.traversal i;
    sparse = r.sparse;
    padding = r.padding;
  }

  abbrev within_cap : List ℤ → Bool
  within_cap zs = leb (length zs) cap

  own_fits : T (fits cap (own r))
  unfolding fits
  own_fits =
      let o = opened cap r n in
      let a₁ = within_cap (shape_in r) in
      let a₂ = a₁ && within_cap (strides_in r) in
      let a₃ = a₂ && within_cap (tile_in r) in
      let a₄ = a₃ && within_cap (map_in r) in
      let h₂ = and_in a₁ (within_cap (strides_in r)) (list_fits o.shape a.shape) (list_fits o.strides a.strides) in
      let h₃ = and_in a₂ (within_cap (tile_in r)) h₂ (list_fits o.tile a.tile) in
      let h₄ = and_in a₃ (within_cap (map_in r)) h₃ (list_fits o.map a.map) in
      and_in a₄ (within_cap (traversal_in r)) h₄ (list_fits o.traversal a.traversal)

-- ── a written text, read strictly ──

-- a written text is strict, and its meaning is the record's own
pub strict : (cap : ℕ) (r : Record) → Ranged r → normal cap r ≡ true → When (λ t. Strict t (own r)) (written r)
unfolding written
strict cap r g n = by (form r) (form_fine r g) (form_says cap r n)
  where
    by : (o : Option Form) → When Fine o → When (λ f. mean f ≡ own r) o → When (λ t. Strict t (own r)) (each spell o)
    by None k h = tt
    by (Some f) k h = record { form = f; fine = k; text = refl; says = sym h }

-- the strict reader's answer with this record
abbrev pub answered : Record → Reading
answered r = record { refusal = Accepted; place = 0; value = r; note = record { a = 0; b = 0; c = 0; d = 0 } }

-- a written text is judged strict, with the record itself
pub back : (cap : ℕ) (r : Record) → Arrays cap r → Ranged r → normal cap r ≡ true → When (λ t. Judged cap t (answered r)) (written r)
unfolding taken
back cap r a g n = by (written r) (strict cap r g n)
  where
    by : (o : Option Text) → When (λ t. Strict t (own r)) o → When (λ t. Judged cap t (answered r)) o
    by None h = tt
    by (Some t) h = subst (λ (x : Record). Judged cap t (answered x)) (flat_own cap r a n) (accepted (own r) h (own_fits cap r a n))
