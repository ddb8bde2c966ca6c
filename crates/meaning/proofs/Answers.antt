-- Rows of tables: a text, and what the ordinary reader answers at 8 entries and 1,024 bytes, written out without the definition's own makers.
use Prim.Native.Nat.{ℕ, zero, suc}
use Prim.Native.String.{String}
use mathlib.Core.Bool.{Bool, false}
use mathlib.Core.List as L
use mathlib.Core.List.{List, [], ◌∷◌}
use lib.IntN.{ℤ, pos, negsuc}
use lib.ListN.{length}
use Rattle.lexis.specs.Text.{Text, bytes}
use Rattle.scalars.specs.declared.scalar.Scalar.{Scalar}
use Rattle.scalars.specs.declared.scalar.Scalar.TheVariants as S
use Rattle.meaning.specs.declared.Kind.{Kind}
use Rattle.meaning.specs.declared.Kind.TheVariants as K
use Rattle.meaning.specs.declared.Padding.{Padding}
use Rattle.meaning.specs.declared.Padding.TheVariants as P
use Rattle.meaning.specs.declared.Reading.{Reading}
use Rattle.meaning.specs.declared.Refusal.{Refusal}
use Rattle.meaning.specs.declared.Refusal.TheVariants as R

pub record Row : Type 0 where
  pub text : String
  pub answer : Reading

abbrev pub row : String → Reading → Row
row t r = record { text = t; answer = r }

-- the smallest i64
abbrev pub DYN : ℤ
DYN = negsuc 9223372036854775807

-- a list in an array of n entries, zeros past its end
abbrev laid : ℕ → List ℤ → List ℤ
laid zero l = []
laid (suc n) [] = pos 0 ∷ laid n []
laid (suc n) (z ∷ l) = z ∷ laid n l

abbrev answer : Refusal → ℕ → Kind → Scalar → Bool → Bool → List ℤ → List ℤ → List ℤ → List ℤ → List ℤ → ℤ → Padding → ℕ → ℕ → ℕ → ℕ → Reading
answer r place k e p t shape strides tile map traversal sparse padding a b c d = record {
  refusal = r;
  place = place;
  value = record {
    kind = k;
    element = e;
    pointer = p;
    attribute = t;
    shape = laid 8 shape;
    shape_len = length shape;
    strides = laid 8 strides;
    strides_len = length strides;
    tile = laid 8 tile;
    tile_len = length tile;
    map = laid 8 map;
    map_len = length map;
    traversal = laid 8 traversal;
    traversal_len = length traversal;
    sparse = sparse;
    padding = padding;
  };
  note = record { a = a; b = b; c = c; d = d };
}

-- kind, element, pointer and attribute flags; shape, strides, tile shape, dim map, traversal strides; sparse dimension, padding; counts a to d
abbrev pub type : Kind → Scalar → Bool → Bool → List ℤ → List ℤ → List ℤ → List ℤ → List ℤ → ℤ → Padding → ℕ → ℕ → ℕ → ℕ → Reading
type = answer R.Accepted 0

-- the refusal and its place, with the blank record and zero counts
abbrev pub refused : Refusal → ℕ → Reading
refused r place = answer r place K.Token S.I1 false false [] [] [] [] [] (pos 0) P.Absent 0 0 0 0

-- ── a table holds where the definition computes to its answers ──

abbrev pub texts : List Row → List Text
texts rows = L.map (λ r. bytes r.text) rows

abbrev pub answers : List Row → List Reading
answers rows = L.map (λ r. r.answer) rows
