-- A type of any rank as a reading finds it: each entry with how it came, each clause as standing or filled in.
-- From it the flat record at a capacity and the default counts (01, "Records and numbers", "Default counts").
use Rattle.std.specs.Prelude.{ℕ, zero, suc, ◌+◌, Bool, true, false, ◌&&◌, List, [], ◌∷◌, leb, ℤ, pos, length, get_or}
use mathlib.Core.List as L
use Rattle.scalars.specs.declared.scalar.Scalar.{Scalar}
use Rattle.scalars.specs.declared.scalar.Scalar.TheVariants.{I1}
use Rattle.meaning.specs.declared.Kind.{Kind}
use Rattle.meaning.specs.declared.Kind.TheVariants as K
use Rattle.meaning.specs.declared.Padding.{Padding}
use Rattle.meaning.specs.declared.Padding.TheVariants.{Absent}
use Rattle.meaning.specs.declared.Record.{Record}
use Rattle.meaning.specs.declared.Note.{Note}

-- an entry was read, or fell back on a default because what stands there can't be read
pub data Came : Type 0 where
  read fell : Came

-- an entry of a list: how it came, and its value
pub record Entry : Type 0 where
  pub came : Came
  pub value : ℤ

abbrev pub as_read : ℤ → Entry
as_read z = record { came = read; value = z }

abbrev pub as_fallen : ℤ → Entry
as_fallen z = record { came = fell; value = z }

-- a list of a type: as its clause stands, or filled in
pub data Clause : Type 0 where
  stands : List Entry → Clause
  filled : List ℤ → Clause

pub record Found : Type 0 where
  pub kind : Kind
  pub element : Scalar
  pub pointer : Bool
  pub attribute : Bool
  pub shape : Clause
  pub strides : Clause
  pub tile : Clause
  pub map : Clause
  pub traversal : Clause
  pub sparse : Clause
  pub padding : Padding

-- ── the flat record ──

abbrev pub values : Clause → List ℤ
values (stands es) = L.map (λ e. e.value) es
values (filled zs) = zs

-- a list in an array of `cap` entries, blank past its length
abbrev pub padded : ℕ → List ℤ → List ℤ
padded zero zs = []
padded (suc n) [] = pos 0 ∷ padded n []
padded (suc n) (z ∷ zs) = z ∷ padded n zs

unfoldable pub flat : ℕ → Found → Record
flat cap t = record {
  kind = t.kind;
  element = t.element;
  pointer = t.pointer;
  attribute = t.attribute;
  shape = padded cap (values t.shape);
  shape_len = length (values t.shape);
  strides = padded cap (values t.strides);
  strides_len = length (values t.strides);
  tile = padded cap (values t.tile);
  tile_len = length (values t.tile);
  map = padded cap (values t.map);
  map_len = length (values t.map);
  traversal = padded cap (values t.traversal);
  traversal_len = length (values t.traversal);
  sparse = get_or (values t.sparse) 0 (pos 0);
  padding = t.padding;
}

abbrev pub fits : ℕ → Clause → Bool
fits cap c = leb (length (values c)) cap

-- no list has over `cap` entries
unfoldable pub within : ℕ → Found → Bool
within cap t = fits cap t.shape && fits cap t.strides && fits cap t.tile && fits cap t.map && fits cap t.traversal

-- ── the default counts ──

-- entries that fell back
abbrev pub counted : Came → ℕ
counted read = 0
counted fell = 1

abbrev pub fallen : List Entry → ℕ
fallen [] = 0
fallen (e ∷ es) = counted e.came + fallen es

-- a filled-in clause adds nothing to (a) to (c)
abbrev pub unreadable : Clause → ℕ
unreadable (stands es) = fallen es
unreadable (filled zs) = 0

-- 1 for a whole clause that is filled in; strides at rank 0 fill nothing in
abbrev pub lacking : Clause → ℕ
lacking (stands es) = 0
lacking (filled []) = 0
lacking (filled (z ∷ zs)) = 1

unfoldable pub counts : Found → Note
counts t = record {
  a = unreadable t.shape + unreadable t.strides;
  b = unreadable t.tile;
  c = unreadable t.map + unreadable t.traversal + unreadable t.sparse;
  d = lacking t.strides + lacking t.map + lacking t.traversal + lacking t.sparse;
}

-- what is noted where no default was taken
abbrev pub unnoted : Note
unnoted = record { a = 0; b = 0; c = 0; d = 0 }

-- ── makers ──

unfoldable pub made : Kind → Scalar → Bool → Clause → Clause → Clause → Clause → Clause → Clause → Padding → Found
made k e pointer shape strides tile map traversal sparse padding = record {
  kind = k;
  element = e;
  pointer = pointer;
  attribute = false;
  shape = shape;
  strides = strides;
  tile = tile;
  map = map;
  traversal = traversal;
  sparse = sparse;
  padding = padding;
}

-- a list that the kind doesn't use
abbrev pub unused : Clause
unused = stands []

-- a type without lists
unfoldable pub plain : Kind → Scalar → Found
plain k e = made k e false unused unused unused unused unused unused Absent

-- the type of the blank record: a token without attribute
unfoldable pub token : Found
token = plain K.Token I1

unfoldable pub with_attribute : Found → Found
with_attribute t = record {
  kind = t.kind;
  element = t.element;
  pointer = t.pointer;
  attribute = true;
  shape = t.shape;
  strides = t.strides;
  tile = t.tile;
  map = t.map;
  traversal = t.traversal;
  sparse = t.sparse;
  padding = t.padding;
}
