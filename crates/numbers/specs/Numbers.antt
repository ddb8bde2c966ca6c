-- Readings and records in numbers, as they cross to C (docs/ABI.md), and back: kinds, scalars and paddings in document 01's order.
use Rattle.std.specs.Prelude.{ℕ, zero, suc, Bool, true, false, List, [], ◌∷◌, Option, Some, None}
use Rattle.scalars.specs.declared.scalar.Scalar.{Scalar}
use Rattle.scalars.specs.declared.scalar.Scalar.TheVariants.{I1, I4, I8, I16, I32, I64, F16, BF16, F32, TF32, F64, F8E4M3FN, F8E5M2, F8E8M0FNU, F4E2M1FN, F8E5M3FNU}
use Rattle.meaning.specs.Refusals.{number}
use Rattle.meaning.specs.Written.{◌>>=◌}
use Rattle.meaning.specs.declared.Kind.{Kind}
use Rattle.meaning.specs.declared.Kind.TheVariants as K
use Rattle.meaning.specs.declared.Note.{Note}
use Rattle.meaning.specs.declared.Padding.{Padding}
use Rattle.meaning.specs.declared.Padding.TheVariants.{Absent, Zero, NegZero, Nan, PosInf, NegInf}
use Rattle.meaning.specs.declared.Reading.{Reading}
use Rattle.meaning.specs.declared.Record.{Record}
use Rattle.numbers.specs.declared.TypetextNote.{TypetextNote}
use Rattle.numbers.specs.declared.TypetextReading.{TypetextReading}
use Rattle.numbers.specs.declared.TypetextRecord.{TypetextRecord}

-- ── to numbers ──

abbrev pub kind_number : Kind → ℕ
kind_number K.Scalar = 0
kind_number K.Pointer = 1
kind_number K.Tile = 2
kind_number K.TensorView = 3
kind_number K.Partition = 4
kind_number K.GatherScatter = 5
kind_number K.Strided = 6
kind_number K.Token = 7

abbrev pub scalar_number : Scalar → ℕ
scalar_number I1 = 0
scalar_number I4 = 1
scalar_number I8 = 2
scalar_number I16 = 3
scalar_number I32 = 4
scalar_number I64 = 5
scalar_number F16 = 6
scalar_number BF16 = 7
scalar_number F32 = 8
scalar_number TF32 = 9
scalar_number F64 = 10
scalar_number F8E4M3FN = 11
scalar_number F8E5M2 = 12
scalar_number F8E8M0FNU = 13
scalar_number F4E2M1FN = 14
scalar_number F8E5M3FNU = 15

-- 0 for none, else one more than the source's number
abbrev pub padding_number : Padding → ℕ
padding_number Absent = 0
padding_number Zero = 1
padding_number NegZero = 2
padding_number Nan = 3
padding_number PosInf = 4
padding_number NegInf = 5

abbrev pub flag_number : Bool → ℕ
flag_number false = 0
flag_number true = 1

unfoldable pub record_numbers : Record → TypetextRecord
record_numbers r = record {
  shape_len = r.shape_len;
  strides_len = r.strides_len;
  tile_len = r.tile_len;
  map_len = r.map_len;
  traversal_len = r.traversal_len;
  shape = r.shape;
  strides = r.strides;
  tile = r.tile;
  map = r.map;
  traversal = r.traversal;
  sparse = r.sparse;
  kind = kind_number r.kind;
  element = scalar_number r.element;
  padding = padding_number r.padding;
  pointer = flag_number r.pointer;
  attribute = flag_number r.attribute;
}

abbrev pub note_numbers : Note → TypetextNote
note_numbers n = record { a = n.a; b = n.b; c = n.c; d = n.d }

unfoldable pub in_numbers : Reading → TypetextReading
in_numbers r = record {
  value = record_numbers r.value;
  place = r.place;
  note = note_numbers r.note;
  refusal = number r.refusal;
}

-- ── from numbers: what a caller sends may be no case's number ──

-- the n-th, from 0
abbrev pub nth : {A : Type 0} → List A → ℕ → Option A
nth [] n = None
nth (x ∷ xs) zero = Some x
nth (x ∷ xs) (suc n) = nth xs n

abbrev pub kinds : List Kind
kinds = K.Scalar ∷ K.Pointer ∷ K.Tile ∷ K.TensorView ∷ K.Partition ∷ K.GatherScatter ∷ K.Strided ∷ K.Token ∷ []

abbrev pub scalars : List Scalar
scalars = I1 ∷ I4 ∷ I8 ∷ I16 ∷ I32 ∷ I64 ∷ F16 ∷ BF16 ∷ F32 ∷ TF32 ∷ F64 ∷ F8E4M3FN ∷ F8E5M2 ∷ F8E8M0FNU ∷ F4E2M1FN ∷ F8E5M3FNU ∷ []

abbrev pub paddings : List Padding
paddings = Absent ∷ Zero ∷ NegZero ∷ Nan ∷ PosInf ∷ NegInf ∷ []

abbrev pub flags : List Bool
flags = false ∷ true ∷ []

abbrev pub kind_of : ℕ → Option Kind
kind_of n = nth kinds n

abbrev pub scalar_of : ℕ → Option Scalar
scalar_of n = nth scalars n

abbrev pub padding_of : ℕ → Option Padding
padding_of n = nth paddings n

abbrev pub flag_of : ℕ → Option Bool
flag_of n = nth flags n

-- the record with these numbers, if there is one
unfoldable pub of_numbers : TypetextRecord → Option Record
of_numbers n =
    kind_of n.kind >>= λ kind.
    scalar_of n.element >>= λ element.
    padding_of n.padding >>= λ padding.
    flag_of n.pointer >>= λ pointer.
    flag_of n.attribute >>= λ attribute.
    Some (record {
      kind = kind;
      element = element;
      pointer = pointer;
      attribute = attribute;
      shape = n.shape;
      shape_len = n.shape_len;
      strides = n.strides;
      strides_len = n.strides_len;
      tile = n.tile;
      tile_len = n.tile_len;
      map = n.map;
      map_len = n.map_len;
      traversal = n.traversal;
      traversal_len = n.traversal_len;
      sparse = n.sparse;
      padding = padding;
    })
