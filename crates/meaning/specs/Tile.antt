-- Tiles and tensor views (01, modules 4 and 5).
use Rattle.std.specs.Prelude.{if◌then◌else◌, ℕ, ◌^◌, Bool, true, false, List, [], ◌∷◌, eqb, ℤ, pos, neg_ℤ, length, replicate, Option, None, Some}
use Prim.Native.Char.{code}
use mathlib.Core.List as L
use Rattle.lexis.specs.Text.{Text, bytes, same, trim, less_leading, less_trailing, split, Cut, nowhere, at, cut}
use Rattle.numerals.specs.Numeral.{numeral}
use Rattle.scalars.specs.Names.{scalar_name}
use Rattle.scalars.specs.declared.scalar.Scalar.{Scalar}
use Rattle.meaning.specs.Parts.{each, last, front, less_repeats}
use Rattle.meaning.specs.Found.{Entry, as_read, as_fallen, Clause, stands, filled, Found, made, unused}
use Rattle.meaning.specs.declared.Kind.TheVariants as K
use Rattle.meaning.specs.declared.Padding.TheVariants.{Absent}

-- DYNAMIC, the smallest i64, written `?`
unfoldable pub DYNAMIC : ℤ
DYNAMIC = neg_ℤ (pos (2 ^ 63))

abbrev pub read_or : ℤ → Option ℤ → Entry
read_or d None = as_fallen d
read_or d (Some z) = as_read z

-- an entry of a shape or of strides: `?` or an unreadable numeral gives DYNAMIC (module 1, `parse_dim`)
unfoldable pub dimension : Text → Entry
dimension s = if same (trim s) (bytes "?") then as_read DYNAMIC else read_or DYNAMIC (numeral 64 (trim s))

abbrev pub dimensions : List Text → Clause
dimensions ps = stands (L.map dimension ps)

-- ── tile (module 4) ──

unfoldable pub tile_of : Bool → Clause → Scalar → Found
tile_of pointer shape e = made K.Tile e pointer shape unused unused unused unused unused Absent

-- if empty, rank 0; otherwise trailing `x` bytes all go, and the rest is split at `x`
abbrev pub before_pointer : Text → List Text
before_pointer [] = []
before_pointer (b ∷ s) = split (code "x") (less_trailing (eqb (code "x")) (b ∷ s))

-- the pointee ends at the next `>`
abbrev pub pointee : Cut → Option Scalar
pointee nowhere = None
pointee (at u t) = scalar_name u

-- by the first `ptr<`
abbrev pub tile_by : Text → Cut → Option Found
tile_by s (at u t) = each (tile_of true (dimensions (before_pointer (less_repeats (bytes "!cuda_tile.") (trim u))))) (pointee (cut (bytes ">") t))
tile_by s nowhere = each (tile_of false (dimensions (front (split (code "x") s)))) (scalar_name (last (split (code "x") s)))

unfoldable pub tile : Text → Option Found
tile s = tile_by s (cut (bytes "ptr<") s)

-- ── tensor view (module 5) ──

pub record Tensor : Type 0 where
  pub element : Scalar
  pub shape : Clause
  pub strides : Clause

-- all leading `[` and trailing `]` go; split at commas
unfoldable pub stride_parts : Text → List Text
stride_parts s = split (code ",") (less_trailing (eqb (code "]")) (less_leading (eqb (code "[")) s))

-- without the clause, one DYNAMIC per dimension
abbrev pub strides_of : ℕ → Option Text → Clause
strides_of rank None = filled (replicate rank DYNAMIC)
strides_of rank (Some s) = dimensions (stride_parts s)

abbrev pub tensor_of : List Text → Option Text → Scalar → Tensor
tensor_of dims strides e = record { element = e; shape = dimensions dims; strides = strides_of (length dims) strides }

-- what stands before the cut, and the strides' text if there is one
unfoldable pub tensor_parts : Text → Option Text → Option Tensor
tensor_parts s strides = each (tensor_of (front (split (code "x") s)) strides) (scalar_name (last (split (code "x") s)))

-- by the first `, strides=`; if there is none, by the first `,strides=`
abbrev pub tensor_by : Text → Cut → Cut → Option Tensor
tensor_by s (at u t) c = tensor_parts u (Some t)
tensor_by s nowhere (at u t) = tensor_parts u (Some t)
tensor_by s nowhere nowhere = tensor_parts s None

unfoldable pub tensor : Text → Option Tensor
tensor s = tensor_by s (cut (bytes ", strides=") s) (cut (bytes ",strides=") s)

unfoldable pub tensor_found : Tensor → Found
tensor_found v = made K.TensorView v.element false v.shape v.strides unused unused unused unused Absent

unfoldable pub tensor_view : Text → Option Found
tensor_view s = each tensor_found (tensor s)
