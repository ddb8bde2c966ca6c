-- Normal records (01, "Records and numbers"): no length exceeds the capacity, and everything that the kind doesn't use,
-- entries past a length included, is blank: zero, I1, false, no padding.
use Rattle.std.specs.Prelude.{if◌then◌else◌, ℕ, Bool, true, false, ◌&&◌, ◌||◌, not, List, [], ◌∷◌, eqb, leb, ℤ, pos, negsuc, drop}
use Rattle.scalars.specs.declared.scalar.Scalar.{Scalar}
use Rattle.scalars.specs.declared.scalar.Scalar.TheVariants.{I1, I4, I8, I16, I32, I64, F16, BF16, F32, TF32, F64, F8E4M3FN, F8E5M2, F8E8M0FNU, F4E2M1FN, F8E5M3FNU}
use Rattle.meaning.specs.declared.Kind.{Kind}
use Rattle.meaning.specs.declared.Kind.TheVariants as K
use Rattle.meaning.specs.declared.Padding.{Padding}
use Rattle.meaning.specs.declared.Padding.TheVariants.{Absent, Zero, NegZero, Nan, PosInf, NegInf}
use Rattle.meaning.specs.declared.Record.{Record}
use Rattle.meaning.specs.declared.normal.Uses.{Uses}

-- ── blank: zero, I1, no padding ──

abbrev pub is_zero : ℤ → Bool
is_zero (pos n) = eqb n 0
is_zero (negsuc n) = false

abbrev pub all_zero : List ℤ → Bool
all_zero [] = true
all_zero (z ∷ zs) = is_zero z && all_zero zs

abbrev pub is_i1 : Scalar → Bool
is_i1 I1 = true
is_i1 I4 = false
is_i1 I8 = false
is_i1 I16 = false
is_i1 I32 = false
is_i1 I64 = false
is_i1 F16 = false
is_i1 BF16 = false
is_i1 F32 = false
is_i1 TF32 = false
is_i1 F64 = false
is_i1 F8E4M3FN = false
is_i1 F8E5M2 = false
is_i1 F8E8M0FNU = false
is_i1 F4E2M1FN = false
is_i1 F8E5M3FNU = false

abbrev pub is_absent : Padding → Bool
is_absent Absent = true
is_absent Zero = false
is_absent NegZero = false
is_absent Nan = false
is_absent PosInf = false
is_absent NegInf = false

-- ── what each kind uses; the attribute flag all do ──

abbrev pub row : Bool → Bool → Bool → Bool → Bool → Bool → Bool → Bool → Bool → Uses
row element pointer shape strides tile map traversal sparse padding = record {
  element = element;
  pointer = pointer;
  shape = shape;
  strides = strides;
  tile = tile;
  map = map;
  traversal = traversal;
  sparse = sparse;
  padding = padding;
}

abbrev yes : Bool
yes = true

abbrev no : Bool
no = false

-- in this order: element, pointer, shape, strides, tile, map, traversal, sparse, padding
abbrev pub uses : Kind → Uses
uses K.Scalar = row yes no no no no no no no no
uses K.Pointer = row yes no no no no no no no no
uses K.Tile = row yes yes yes no no no no no no
uses K.TensorView = row yes no yes yes no no no no no
uses K.Partition = row yes no yes yes yes yes no no yes
uses K.GatherScatter = row yes no yes yes yes no no yes yes
uses K.Strided = row yes no yes yes yes yes yes no yes
uses K.Token = row no no no no no no no no no

-- ── normal ──

-- a list of n entries in an array: n is at most the capacity, or 0 where the kind has no such list, and zeros stand past it
abbrev pub clear : ℕ → Bool → ℕ → List ℤ → Bool
clear cap used n l = leb n (if used then cap else 0) && all_zero (drop n l)

unfoldable pub lists_clear : ℕ → Uses → Record → Bool
lists_clear cap u r =
    clear cap u.shape r.shape_len r.shape
    && clear cap u.strides r.strides_len r.strides
    && clear cap u.tile r.tile_len r.tile
    && clear cap u.map r.map_len r.map
    && clear cap u.traversal r.traversal_len r.traversal

unfoldable pub rest_blank : Uses → Record → Bool
rest_blank u r =
    (u.element || is_i1 r.element)
    && (u.pointer || not r.pointer)
    && (u.sparse || is_zero r.sparse)
    && (u.padding || is_absent r.padding)

unfoldable pub normal : ℕ → Record → Bool
normal cap r = lists_clear cap (uses r.kind) r && rest_blank (uses r.kind) r
