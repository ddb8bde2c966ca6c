-- Nothing is lost across the face: a record's numbers give the record back, those that the reader answered too, and no other numbers give it.
use Prim.Native.Nat.{ℕ, zero, suc, ◌+◌}
use native.Mathlib.Omega.{arith}
use mathlib.Core.Bool.{Bool, true, false}
use mathlib.Core.List.{List, [], ◌∷◌}
use Rattle.std.specs.Prelude.{Option, Some, None}
use mathlib.Core.Path.{◌≡◌, refl, subst}
use Rattle.std.proofs.Common.{rules}
use Rattle.scalars.specs.declared.scalar.Scalar.{Scalar}
use Rattle.scalars.specs.declared.scalar.Scalar.TheVariants.{I1, I4, I8, I16, I32, I64, F16, BF16, F32, TF32, F64, F8E4M3FN, F8E5M2, F8E8M0FNU, F4E2M1FN, F8E5M3FNU}
use Rattle.meaning.specs.declared.Kind.{Kind}
use Rattle.meaning.specs.declared.Kind.TheVariants as K
use Rattle.meaning.specs.declared.Padding.{Padding}
use Rattle.meaning.specs.declared.Padding.TheVariants.{Absent, Zero, NegZero, Nan, PosInf, NegInf}
use Rattle.meaning.specs.declared.Reading.{Reading}
use Rattle.meaning.specs.declared.Record.{Record}
use Rattle.numbers.specs.declared.TypetextRecord.{TypetextRecord}
use Rattle.numbers.specs.Numbers.{kind_number, scalar_number, padding_number, flag_number, nth, kinds, scalars, paddings, flags, kind_of, scalar_of, padding_of, flag_of, in_numbers, record_numbers, of_numbers}
use Rattle.numbers.proofs.Records.{five, built}

kind_back : (k : Kind) → kind_of (kind_number k) ≡ Some k
kind_back K.Scalar = refl
kind_back K.Pointer = refl
kind_back K.Tile = refl
kind_back K.TensorView = refl
kind_back K.Partition = refl
kind_back K.GatherScatter = refl
kind_back K.Strided = refl
kind_back K.Token = refl

scalar_back : (s : Scalar) → scalar_of (scalar_number s) ≡ Some s
scalar_back I1 = refl
scalar_back I4 = refl
scalar_back I8 = refl
scalar_back I16 = refl
scalar_back I32 = refl
scalar_back I64 = refl
scalar_back F16 = refl
scalar_back BF16 = refl
scalar_back F32 = refl
scalar_back TF32 = refl
scalar_back F64 = refl
scalar_back F8E4M3FN = refl
scalar_back F8E5M2 = refl
scalar_back F8E8M0FNU = refl
scalar_back F4E2M1FN = refl
scalar_back F8E5M3FNU = refl

padding_back : (p : Padding) → padding_of (padding_number p) ≡ Some p
padding_back Absent = refl
padding_back Zero = refl
padding_back NegZero = refl
padding_back Nan = refl
padding_back PosInf = refl
padding_back NegInf = refl

flag_back : (b : Bool) → flag_of (flag_number b) ≡ Some b
flag_back false = refl
flag_back true = refl

pub record_back : (r : Record) → of_numbers (record_numbers r) ≡ Some r
unfolding of_numbers record_numbers
record_back r = rw (kind_back r.kind, scalar_back r.element, padding_back r.padding, flag_back r.pointer, flag_back r.attribute)

-- what a reader answered
pub reading_back : (r : Reading) → of_numbers (in_numbers r).value ≡ Some r.value
unfolding in_numbers
reading_back r = record_back r.value

-- ── and back: each case's number is its place ──

abbrev Placed : {A : Type 0} → (A → ℕ) → ℕ → List A → Type 0
Placed f k [] = Unit {0}
Placed f k (x ∷ xs) = (f x ≡ k) × Placed f (suc k) xs

abbrev Numbered : {A : Type 0} → (A → ℕ) → ℕ → Option A → Type 0
Numbered f n None = Unit {0}
Numbered f n (Some x) = f x ≡ n

place : {A : Type 0} (f : A → ℕ) (xs : List A) (k n : ℕ) → Placed f k xs → Numbered f (n + k) (nth xs n)
place f [] k n h = tt
place f (x ∷ xs) k zero h = omega (arith, h.0)
place f (x ∷ xs) k (suc n) h =
    let p : n + suc k ≡ suc n + k = omega arith in
    subst (λ (m : ℕ). Numbered f m (nth xs n)) p (place f xs (suc k) n h.1)

from_zero : {A : Type 0} (f : A → ℕ) (xs : List A) (n : ℕ) → Placed f 0 xs → Numbered f n (nth xs n)
from_zero f xs n h =
    let p : n + 0 ≡ n = omega arith in
    subst (λ (m : ℕ). Numbered f m (nth xs n)) p (place f xs 0 n h)

abbrev Only : TypetextRecord → Option Record → Type 0
Only n None = Unit {0}
Only n (Some r) = record_numbers r ≡ n

only_five : (n : TypetextRecord) (k : Option Kind) (e : Option Scalar) (p : Option Padding) (f m : Option Bool)
    → Numbered kind_number n.kind k → Numbered scalar_number n.element e → Numbered padding_number n.padding p → Numbered flag_number n.pointer f → Numbered flag_number n.attribute m
    → Only n (five (built n) k e p f m)
unfolding record_numbers
only_five n None e p f m a b c d g = tt
only_five n (Some k) None p f m a b c d g = tt
only_five n (Some k) (Some e) None f m a b c d g = tt
only_five n (Some k) (Some e) (Some p) None m a b c d g = tt
only_five n (Some k) (Some e) (Some p) (Some f) None a b c d g = tt
only_five n (Some k) (Some e) (Some p) (Some f) (Some m) a b c d g = λ i. record {
  shape_len = n.shape_len;
  strides_len = n.strides_len;
  tile_len = n.tile_len;
  map_len = n.map_len;
  traversal_len = n.traversal_len;
  shape = n.shape;
  strides = n.strides;
  tile = n.tile;
  map = n.map;
  traversal = n.traversal;
  sparse = n.sparse;
  kind = a i;
  element = b i;
  padding = c i;
  pointer = d i;
  attribute = g i;
}

pub record_only : (n : TypetextRecord) → Only n (of_numbers n)
unfolding of_numbers
record_only n =
    only_five n (kind_of n.kind) (scalar_of n.element) (padding_of n.padding) (flag_of n.pointer) (flag_of n.attribute)
    (from_zero kind_number kinds n.kind (search rules))
    (from_zero scalar_number scalars n.element (search rules))
    (from_zero padding_number paddings n.padding (search rules))
    (from_zero flag_number flags n.pointer (search rules))
    (from_zero flag_number flags n.attribute (search rules))
