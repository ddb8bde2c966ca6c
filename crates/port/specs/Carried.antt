-- What the port's parts answer, for private contracts: a type that was found, each list as it is carried, and the reading that is made of it.
use Rattle.std.specs.Prelude.{if◌then◌else◌, ℕ, zero, suc, ◌+◌, ◌≤◌, Bool, false, ◌&&◌, ◌||◌, ◌≡◌, pos, leb, get_or, length, drop, Option, None, Some}
use Rattle.lexis.specs.Text.{Text, Cut, nowhere, at}
use Rattle.scalars.specs.declared.scalar.Scalar.{Scalar}
use Rattle.meaning.specs.Found.{stands, Found}
use Rattle.meaning.specs.Parts.{each, bracketed}
use Rattle.meaning.specs.Tile as T
use Rattle.meaning.specs.Views as W
use Rattle.meaning.specs.Ordinary as O
use Rattle.meaning.specs.declared.Kind.{Kind}
use Rattle.meaning.specs.declared.Padding.{Padding}
use Rattle.meaning.specs.declared.Record.{Record}
use Rattle.meaning.specs.declared.Note.{Note}
use Rattle.meaning.specs.declared.Reading.{Reading}
use Rattle.meaning.specs.declared.Refusal.TheVariants.{Accepted, NoType, TooMany}
use Rattle.lists.specs.Laid.{Laid, laid, list}
use Rattle.lists.specs.declared.row.Row.{Row}
use Rattle.port.specs.Keys.{Placed}
use Rattle.port.specs.declared.tensor_view.Tensor.{Tensor}
use Rattle.port.specs.declared.brackets.Content.{Content}
use Rattle.port.specs.declared.views.View.{View}
use Rattle.port.specs.declared.views.TileShape.{TileShape}
use Rattle.port.specs.declared.views.Listed.{Listed}
use Rattle.port.specs.declared.views.Listed.TheVariants as C

-- ── a type ──

pub record Carried : Type 0 where
  pub kind : Kind
  pub element : Scalar
  pub pointer : Bool
  pub attribute : Bool
  pub shape : Laid
  pub strides : Laid
  pub tile : Laid
  pub map : Laid
  pub traversal : Laid
  pub sparse : Laid
  pub padding : Padding

abbrev pub carried : ℕ → Found → Carried
carried cap t = record {
  kind = t.kind;
  element = t.element;
  pointer = t.pointer;
  attribute = t.attribute;
  shape = laid cap t.shape;
  strides = laid cap t.strides;
  tile = laid cap t.tile;
  map = laid cap t.map;
  traversal = laid cap t.traversal;
  sparse = laid cap t.sparse;
  padding = t.padding;
}

-- built of its parts, before a mark is thought of
abbrev pub built : Kind → Scalar → Bool → Laid → Laid → Laid → Laid → Laid → Laid → Padding → Carried
built k e p shape strides tile map traversal sparse padding = record {
  kind = k;
  element = e;
  pointer = p;
  attribute = false;
  shape = shape;
  strides = strides;
  tile = tile;
  map = map;
  traversal = traversal;
  sparse = sparse;
  padding = padding;
}

-- ── record and note ──

-- 1 if there is any, else 0
abbrev pub any : ℕ → ℕ
any zero = 0
any (suc n) = 1

-- a clause that was filled in, if with an entry
abbrev pub lacks : Row → ℕ
lacks r = if r.stood then 0 else any r.len

abbrev pub fell : Laid → ℕ
fell l = l.row.tally.fell

-- what is noted of all lists, by their rows
unfoldable pub rows_noted : Row → Row → Row → Row → Row → Row → Note
rows_noted shape strides tile map traversal sparse = record {
  a = shape.tally.fell + strides.tally.fell;
  b = tile.tally.fell;
  c = map.tally.fell + traversal.tally.fell + sparse.tally.fell;
  d = lacks strides + lacks map + lacks traversal + lacks sparse;
}

abbrev pub noted : Carried → Note
noted x = rows_noted x.shape.row x.strides.row x.tile.row x.map.row x.traversal.row x.sparse.row

unfoldable pub recorded : Bool → Carried → Record
recorded marked x = record {
  kind = x.kind;
  element = x.element;
  pointer = x.pointer;
  attribute = marked || x.attribute;
  shape = x.shape.values;
  shape_len = x.shape.row.len;
  strides = x.strides.values;
  strides_len = x.strides.row.len;
  tile = x.tile.values;
  tile_len = x.tile.row.len;
  map = x.map.values;
  map_len = x.map.row.len;
  traversal = x.traversal.values;
  traversal_len = x.traversal.row.len;
  sparse = get_or x.sparse.values 0 (pos 0);
  padding = x.padding;
}

-- no list has over `cap` entries
unfoldable pub lengths_within : ℕ → Carried → Bool
lengths_within cap x =
    leb x.shape.row.len cap && leb x.strides.row.len cap && leb x.tile.row.len cap && leb x.map.row.len cap && leb x.traversal.row.len cap

abbrev pub answered : Bool → Option Carried → Reading
answered marked None = O.refused 8 NoType 0
answered marked (Some x) =
    if lengths_within 8 x then record { refusal = Accepted; place = 0; value = recorded marked x; note = noted x }
    else O.refused 8 TooMany 0

-- no more entries fell back than there are, of one sparse dimension: within the capacity the counts add up
pub record Sound (a b t m w z : Laid) : Type 0 where
  pub shape : fell a ≤ a.row.len
  pub strides : fell b ≤ b.row.len
  pub map : fell m ≤ m.row.len
  pub traversal : fell w ≤ w.row.len
  pub sparse : fell z ≤ 1

-- ── a tensor view ──

pub record Tensored : Type 0 where
  pub element : Scalar
  pub shape : Laid
  pub strides : Laid

abbrev pub tensored : ℕ → T.Tensor → Tensored
tensored cap v = record { element = v.element; shape = laid cap v.shape; strides = laid cap v.strides }

abbrev pub tensor_parts : Tensor → Tensored
tensor_parts t = record { element = t.element; shape = list t.shape; strides = list t.strides }

-- a record, so that what stands under it can be inferred
pub record TensorIs (r : Option Tensor) (o : Option T.Tensor) : Type 0 where
  pub is : each tensor_parts r ≡ each (tensored 8) o

-- ── what the three views share ──

pub record Viewed : Type 0 where
  pub tile : Laid
  pub tensor : Tensored
  pub padding : Padding

abbrev pub viewed : ℕ → W.View → Viewed
viewed cap v = record { tile = laid cap (stands v.tile); tensor = tensored cap v.tensor; padding = v.padding }

abbrev pub view_parts : View → Viewed
view_parts v = record { tile = list v.tile; tensor = tensor_parts v.tensor; padding = v.padding }

pub record ViewIs (r : Option View) (o : Option W.View) : Type 0 where
  pub is : each view_parts r ≡ each (viewed 8) o

-- ── the tile shape: what stands between the `tile=(` at a place and `)`, and where what follows begins ──

pub record Tiled (s : Text) (at : ℕ) (r : TileShape) (inside behind : Text) : Type 0 where
  pub tile : list r.tile ≡ laid 8 (stands (W.tile_entries inside))
  pub onward : drop r.behind s ≡ behind
  pub past : at + 6 ≤ r.behind
  pub fits : r.behind ≤ length s

abbrev pub TileIs : Text → ℕ → Option TileShape → Cut → Type 0
TileIs s i None nowhere = Unit {0}
TileIs s i None (at u t) = ⊥
TileIs s i (Some r) nowhere = ⊥
TileIs s i (Some r) (at u t) = Tiled s i r u t

-- ── a list in brackets ──

abbrev pub listing : Listed → W.Listed
listing C.Absent = W.absent
listing C.Unclosed = W.unclosed
listing (C.Between t) = W.listed t.now

-- a record, so that what stands under it can be inferred
pub record ListIs (r : Listed) (l : W.Listed) : Type 0 where
  pub is : listing r ≡ l

-- the list, or what fills in for it
abbrev pub list_laid : Laid → W.Listed → Laid
list_laid own W.absent = own
list_laid own W.unclosed = own
list_laid own (W.listed t) = laid 8 (W.entries t)

-- ── a form that opens with p: its content where it applies, and the places in it ──

abbrev Stripped : Text → Text → Option Content → Type 0
Stripped p s None = bracketed p s ≡ None
Stripped p s (Some c) = (bracketed p s ≡ Some c.inner.now) × Placed c.inner.now c.places

-- a record, so that what stands under it can be inferred
pub record Told (p s : Text) (r : Option Content) : Type 0 where
  pub is : Stripped p s r
