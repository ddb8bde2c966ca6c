-- A clause as the readers carry it: the first entries in an array, and a row that tells of all: their true number, whether the clause stands,
-- and the tally of those that fell back.
use Rattle.std.specs.Prelude.{ℕ, ◌≤◌, Bool, true, false, List, ◌≡◌, ℤ, length, drop}
use Prim.Native.Char.{code}
use mathlib.Core.List as L
use Rattle.lexis.specs.Text.{Text, split}
use Rattle.meaning.specs.Parts.{last, front}
use Rattle.meaning.specs.Found.{Entry, as_read, as_fallen, Clause, stands, filled, values, padded, unreadable}
use Rattle.meaning.specs.Tile.{dimensions}
use Rattle.meaning.specs.Views.{small}
use Rattle.lists.specs.declared.entry.Entry as E
use Rattle.lists.specs.declared.entry.Entry.TheVariants.{Read, Fell}
use Rattle.lists.specs.declared.list.Listing.{Listing}
use Rattle.lists.specs.declared.list.Front.{Front}
use Rattle.lists.specs.declared.row.Row.{Row}
use Rattle.lists.specs.declared.row.Tally.{Tally}

-- ── what is told of a clause's entries ──

abbrev pub tally : Clause → Tally
tally c = record { fell = unreadable c }

abbrev pub stood : Clause → Bool
stood (stands es) = true
stood (filled zs) = false

abbrev pub row : Clause → Row
row c = record { len = length (values c); stood = stood c; tally = tally c }

pub record Laid : Type 0 where
  pub values : List ℤ
  pub row : Row

abbrev pub laid : ℕ → Clause → Laid
laid cap c = record { values = padded cap (values c); row = row c }

-- ── what the code's answers say ──

-- an entry of numbers that are integers by `is`, and one of integers
abbrev pub said_as : {T : Type 0} → (T → ℤ) → E.Entry T → Entry
said_as is (Read z) = as_read (is z)
said_as is (Fell z) = as_fallen (is z)

abbrev pub said : E.Entry ℤ → Entry
said = said_as (λ z. z)

-- a list whose array holds the integers `values`, and one of integers
abbrev pub listed : {A : Type 0} → (A → List ℤ) → Listing A → Laid
listed values l = record { values = values l.values; row = l.row }

abbrev pub list : Listing (List ℤ) → Laid
list = listed (λ l. l)

-- ── the entries between the bytes x ──

abbrev pub smalls : ℤ → List Text → Clause
smalls d ps = stands (L.map (small d) ps)

-- the dimensions of s before its last part at `x`, and the place where that part begins
pub record Fronted (cap : ℕ) (s : Text) (r : Front) : Type 0 where
  pub dims : list r.dims ≡ laid cap (dimensions (front (split (code "x") s)))
  pub part : drop r.last s ≡ last (split (code "x") s)
  pub inside : r.last ≤ length s
