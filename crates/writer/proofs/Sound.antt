-- Where a record has a form, the form is well formed, by the ranges of its numbers. So what is written is strict (`Back`).
use Rattle.std.specs.Prelude.{if◌then◌else◌, Option, None, Some}
use Prim.Native.Nat.{ℕ, zero, suc, ◌-◌, ◌^◌, ◌<◌}
use native.Mathlib.Omega.{arith}
use mathlib.Core.Bool.{Bool, true, false, ◌&&◌}
use mathlib.Core.List.{List, [], ◌∷◌, map}
use mathlib.Core.Path.{◌≡◌, refl, ap}
use borrow.Author.Tests.{eqb-false}
use lib.Dec.{T, lt→ltb, eqb}
use lib.IntN.{ℤ, pos, negsuc}
use lib.ListN.{take}
use lib.Signed.{mag}
use Rattle.scalars.specs.declared.scalar.Scalar.{Scalar}
use Rattle.meaning.specs.declared.Padding.{Padding}
use Rattle.meaning.specs.declared.Kind.{Kind}
use Rattle.meaning.specs.declared.Kind.TheVariants as K
use Rattle.meaning.specs.declared.Record.{Record}
use Rattle.meaning.specs.Decimal.{in32, in64, dynamic, known}
use Rattle.meaning.specs.Strict as S
use Rattle.meaning.specs.Strict.{Tensor, View, Commas, Next, Form, values}
use Rattle.meaning.specs.Meant.{each_of, tensor_ok, view_ok, ok}
use Rattle.meaning.specs.Written as W
use Rattle.meaning.specs.Written.{dimension_of, listed, first, form_as, form, tensor_of, view_of, tensor_in, view_in, shape_in, strides_in, tile_in, map_in, traversal_in}
use Rattle.grammar.specs.Tests.{and_in}
use Rattle.writer.proofs.Short.{Below, Ranged}
use Rattle.meaning.proofs.Whens.{When, when_each, when_bind, when_unless}

-- ── numbers and lists ──

dim_fine : (z : ℤ) → mag z < 2 ^ 63 → T (in64 (dimension_of z))
dim_fine (pos n) h = lt→ltb n (2 ^ 63) h
dim_fine (negsuc n) h = by (eqb n (2 ^ 63 - 1)) (eqb-false n (2 ^ 63 - 1))
  where
    by : (b : Bool) → (b ≡ false → n ≡ 2 ^ 63 - 1 → ⊥) → T (in64 (if b then dynamic else known (negsuc n)))
    by true e = tt
    by false e = lt→ltb n (2 ^ 63 - 1) (let f = e refl in omega arith)

small_fine : (z : ℤ) → mag z < 2 ^ 31 → T (in32 z)
small_fine (pos n) h = lt→ltb n (2 ^ 31) h
small_fine (negsuc n) h = lt→ltb n (2 ^ 31) h

-- the first n entries of an array
dims_fine : (n : ℕ) (l : List ℤ) → Below 63 l → T (each_of in64 (map dimension_of (take n l)))
dims_fine zero l h = tt
dims_fine (suc n) [] h = tt
dims_fine (suc n) (z ∷ l) h = and_in (in64 (dimension_of z)) (each_of in64 (map dimension_of (take n l))) (dim_fine z (h 0)) (dims_fine n l (λ i. h (suc i)))

smalls_fine : (n : ℕ) (l : List ℤ) → Below 31 l → T (each_of in32 (take n l))
smalls_fine zero l h = tt
smalls_fine (suc n) [] h = tt
smalls_fine (suc n) (z ∷ l) h = and_in (in32 z) (each_of in32 (take n l)) (small_fine z (h 0)) (smalls_fine n l (λ i. h (suc i)))

-- the entries of a list in commas are the list
pub entries_are : {A : Type 0} (f : ℤ → A) (zs : List ℤ) →
    map (λ (n : Next A). n.entry) (map (λ (z : ℤ). record { space = false; entry = f z }) zs) ≡ map f zs
entries_are f [] = refl
entries_are f (z ∷ zs) = ap (λ (l : List _). f z ∷ l) (entries_are f zs)

pub plain_are : (zs : List ℤ) → map (λ (n : Next ℤ). n.entry) (map (λ (z : ℤ). record { space = false; entry = z }) zs) ≡ zs
plain_are [] = refl
plain_are (z ∷ zs) = ap (λ (l : List ℤ). z ∷ l) (plain_are zs)

-- ── the parts of a form ──

abbrev ListFine : Commas ℤ → Type 0
ListFine c = T (each_of in32 (values c))

abbrev TensorFine : Tensor → Type 0
TensorFine t = T (tensor_ok t.shape t.strides)

abbrev ViewFine : View → Type 0
ViewFine v = T (view_ok v)

abbrev pub Fine : Form → Type 0
Fine f = T (ok f)

list_fine : (ms : List ℤ) → T (each_of in32 ms) → When ListFine (listed (λ z. z) ms)
list_fine [] h = tt
list_fine (m ∷ ms) h = rw (plain_are ms) h

tensor_fine : (e : Scalar) (m : Bool) (ds zs : List ℤ) →
    T (each_of in64 (map dimension_of ds)) → T (each_of in64 (map dimension_of zs)) → When TensorFine (tensor_of e m ds zs)
tensor_fine e m [] [] p q = tt
tensor_fine e m (d ∷ ds) [] p q = tt
tensor_fine e m [] (z ∷ zs) p q = rw (entries_are dimension_of zs) q
tensor_fine e m (d ∷ ds) (z ∷ zs) p q =
    rw (entries_are dimension_of zs) (and_in (each_of in64 (map dimension_of (d ∷ ds))) (each_of in64 (map dimension_of (z ∷ zs))) p q)

view_fine : (p : Padding) (ts : List ℤ) (o : Option Tensor) → T (each_of in32 ts) → When TensorFine o → When ViewFine (view_of p ts o)
view_fine p [] o h k = tt
view_fine p (t ∷ ts) None h k = tt
view_fine p (t ∷ ts) (Some v) h k = and_in (each_of in32 (t ∷ ts)) (tensor_ok v.shape v.strides) h k

tile_fine : (p m : Bool) (e : Scalar) (ds : List ℤ) → T (each_of in64 (map dimension_of ds)) →
    When Fine (if p then Some (S.tile true (map dimension_of ds) (S.pointer (record { front = true; name = first e; marked = m })))
    else W.unless m (S.tile true (map dimension_of ds) (S.plain (first e))))
tile_fine true m e ds h = h
tile_fine false m e ds h = when_unless Fine m (S.tile true (map dimension_of ds) (S.plain (first e))) (λ k. h)

-- ── the record ──

module _ (r : Record) (g : Ranged r) where
  shape_fine : T (each_of in64 (map dimension_of (shape_in r)))
  shape_fine = dims_fine r.shape_len r.shape g.shape

  tensor_in_fine : When TensorFine (tensor_in r)
  tensor_in_fine =
      tensor_fine r.element r.attribute (shape_in r) (strides_in r) shape_fine (dims_fine r.strides_len r.strides g.strides)

  view_in_fine : When ViewFine (view_in r)
  view_in_fine = view_fine r.padding (tile_in r) (tensor_in r) (smalls_fine r.tile_len r.tile g.tile) tensor_in_fine

  map_fine : When ListFine (listed (λ z. z) (map_in r))
  map_fine = list_fine (map_in r) (smalls_fine r.map_len r.map g.map)

  traversal_fine : When ListFine (listed (λ z. z) (traversal_in r))
  traversal_fine = list_fine (traversal_in r) (smalls_fine r.traversal_len r.traversal g.traversal)

  fine_as : (k : Kind) → When Fine (form_as k r)
  fine_as K.Scalar = when_unless Fine r.attribute (S.scalar (first r.element)) (λ k. tt)
  fine_as K.Pointer = tt
  fine_as K.Tile = tile_fine r.pointer r.attribute r.element (shape_in r) shape_fine
  fine_as K.TensorView = when_each TensorFine Fine (S.tensor true) (λ t k. k) (tensor_in r) tensor_in_fine
  fine_as K.Partition =
      when_bind ViewFine Fine _ (λ v k.
      when_each ListFine Fine (S.partition v) (λ c h. and_in (view_ok v) (each_of in32 (values c)) k h) (listed (λ z. z) (map_in r)) map_fine)
      (view_in r) view_in_fine
  fine_as K.GatherScatter =
      when_each ViewFine Fine _ (λ v k. and_in (view_ok v) (in32 r.sparse) k (small_fine r.sparse g.sparse)) (view_in r) view_in_fine
  fine_as K.Strided =
      when_bind ViewFine Fine _ (λ v k.
      when_bind ListFine Fine _ (λ c h.
      when_each ListFine Fine _ (λ d j. and_in (view_ok v && each_of in32 (values c)) (each_of in32 (values d)) (and_in (view_ok v) (each_of in32 (values c)) k h) j)
      (listed (λ z. z) (map_in r)) map_fine)
      (listed (λ z. z) (traversal_in r)) traversal_fine)
      (view_in r) view_in_fine
  fine_as K.Token = when_unless Fine r.attribute (S.token true) (λ k. tt)

  -- where there is a form, it is well formed
  pub form_fine : When Fine (form r)
  form_fine = fine_as r.kind
