-- The three views (01, module 6).
use Rattle.std.specs.Prelude.{if◌then◌else◌, ℕ, zero, suc, ◌+◌, Bool, false, ◌||◌, ◌&&◌, not, List, [], ◌∷◌, eqb, ℤ, pos, length, replicate, Option, None, Some}
use Prim.Native.Char.{code}
use mathlib.Core.List as L
use Rattle.lexis.specs.Text.{Text, bytes, trim, until, split, Cut, nowhere, at, cut, occurs}
use Rattle.numerals.specs.Numeral.{numeral}
use Rattle.meaning.specs.Parts.{each, between, close}
use Rattle.meaning.specs.Found.{Entry, Clause, stands, filled, Found, made, unused}
use Rattle.meaning.specs.Tile.{read_or, Tensor, tensor}
use Rattle.meaning.specs.declared.Kind.{Kind}
use Rattle.meaning.specs.declared.Kind.TheVariants as K
use Rattle.meaning.specs.declared.Padding.{Padding}
use Rattle.meaning.specs.declared.Padding.TheVariants.{Absent, Zero, NegZero, Nan, PosInf, NegInf}

-- an entry of the 32-bit lists, d where it is unreadable
unfoldable pub small : ℤ → Text → Entry
small d s = read_or d (numeral 32 (trim s))

-- ── what the three share: tile shape, inner tensor view, padding ──

-- split at `x` if one occurs, else at commas; an unreadable entry is 1
unfoldable pub tile_entries : Text → List Entry
tile_entries s = L.map (small (pos 1)) (split (if occurs (bytes "x") s then code "x" else code ",") s)

infixr 25 ◌or◌
-- what follows a first occurrence, or else another way
abbrev pub ◌or◌ : Cut → Option Text → Option Text
(at u t) or o = Some t
nowhere or o = o

-- where the inner tensor view opens; `behind` is what follows the tile's `)`
unfoldable pub opened : Text → Text → Option Text
opened s behind =
    cut (bytes "tensor_view=!cuda_tile.tensor_view<") s or
    cut (bytes "!cuda_tile.tensor_view<") s or
    cut (bytes "tensor_view<") behind or None

-- without a matching `>` the content is empty
abbrev pub enclosed : Cut → Text
enclosed (at u t) = u
enclosed nowhere = []

abbrev pub inner_by : Option Text → Option Tensor
inner_by None = None
inner_by (Some t) = tensor (enclosed (close 0 t))

-- looked for only if `padding_value` occurs, and anywhere in the part
unfoldable pub padding : Text → Padding
padding s =
    if not (occurs (bytes "padding_value") s) then Absent
    else if occurs (bytes "zero") s && not (occurs (bytes "neg_zero") s) then Zero
    else if occurs (bytes "neg_zero") s then NegZero
    else if occurs (bytes "nan") s then Nan
    else if occurs (bytes "pos_inf") s then PosInf
    else if occurs (bytes "neg_inf") s then NegInf
    else Absent

pub record View : Type 0 where
  pub tile : List Entry
  pub tensor : Tensor
  pub padding : Padding

-- by the first `tile=(` and the next `)`
abbrev pub view_by : Text → Cut → Option View
view_by s nowhere = None
view_by s (at u behind) = each (λ v. record { tile = tile_entries u; tensor = v; padding = padding s }) (inner_by (opened s behind))

unfoldable pub view : Text → Option View
view s = view_by s (between (bytes "tile=(") (bytes ")") s)

-- ── dim map, traversal strides, sparse dimension ──

-- a list that runs to the next `]`
pub data Listed : Type 0 where
  absent unclosed : Listed
  listed : Text → Listed

abbrev pub closed : Cut → Listed
closed nowhere = unclosed
closed (at u t) = listed u

abbrev pub list_by : Cut → Listed
list_by nowhere = absent
list_by (at u t) = closed (cut (bytes "]") t)

-- the list after the first p
abbrev pub list_after : Text → Text → Listed
list_after p s = list_by (cut p s)

-- an unreadable entry is 0
unfoldable pub entries : Text → Clause
entries s = stands (L.map (small (pos 0)) (split (code ",") s))

-- 0, 1, 2 ..: n of them, from k
abbrev pub count_up : ℕ → ℕ → List ℤ
count_up k zero = []
count_up k (suc n) = pos k ∷ count_up (k + 1) n

-- the map and the traversal strides that fill in: as many as tile entries
abbrev pub own_map : View → Clause
own_map v = filled (count_up 0 (length v.tile))

abbrev pub own_traversal : View → Clause
own_traversal v = filled (replicate (length v.tile) (pos 1))

-- absent or never closed
abbrev pub list_or : Clause → Listed → Clause
list_or c absent = c
list_or c unclosed = c
list_or c (listed s) = entries s

abbrev pub ends_sparse : ℕ → Bool
ends_sparse b = eqb b (code ",") || eqb b (code ">")

-- `sparse_dim=` runs to `,`, `>` or the end
abbrev pub sparse_by : Cut → Clause
sparse_by nowhere = filled (pos 0 ∷ [])
sparse_by (at u t) = stands (small (pos 0) (until ends_sparse t) ∷ [])

-- ── the views ──

unfoldable pub view_of : Kind → Clause → Clause → Clause → View → Found
view_of k map traversal sparse v =
    made k v.tensor.element false v.tensor.shape v.tensor.strides (stands v.tile) map traversal sparse v.padding

-- an unclosed list refuses a partition view
abbrev pub partition_by : View → Listed → Option Found
partition_by v absent = Some (view_of K.Partition (own_map v) unused unused v)
partition_by v unclosed = None
partition_by v (listed s) = Some (view_of K.Partition (entries s) unused unused v)

abbrev pub partition_from : Listed → Option View → Option Found
partition_from l None = None
partition_from l (Some v) = partition_by v l

unfoldable pub partition_view : Text → Option Found
partition_view s = partition_from (list_after (bytes "dim_map=[") s) (view s)

unfoldable pub gather_scatter_view : Text → Option Found
gather_scatter_view s = each (view_of K.GatherScatter unused unused (sparse_by (cut (bytes "sparse_dim=") s))) (view s)

-- but counts as absent in a strided view
unfoldable pub strided_of : Listed → Listed → View → Found
strided_of m t v = view_of K.Strided (list_or (own_map v) m) (list_or (own_traversal v) t) unused v

unfoldable pub strided_view : Text → Option Found
strided_view s = each (strided_of (list_after (bytes "dim_map=[") s) (list_after (bytes "traversal_strides=[") s)) (view s)
