-- A sheet of texts (02, C-11): its rows, where each lies, and the totals over them.
-- `limit` is that of a sheet, `size` that of a text, `cap` that of a list.
use Rattle.std.specs.Prelude.{if◌then◌else◌, ℕ, ◌+◌, ◌-◌, ◌&&◌, List, [], ◌∷◌, eqb, leb, ltb, length, take, drop, ◌≡◌, Some, None}
use Rattle.std.specs.Prelude.{Option}
use Rattle.lexis.specs.Text.{Text, onto_first, until}
use Rattle.meaning.specs.Ordinary.{ordinary}
use Rattle.meaning.specs.Refusals as R
use Rattle.meaning.specs.declared.Reading.{Reading}
use Rattle.sheet.specs.declared.Counted.{Counted}
use Rattle.sheet.specs.declared.Counted.TheVariants.{Whole, TooLong}
use Rattle.sheet.specs.declared.Cut.{Cut}
use Rattle.sheet.specs.declared.walker.Walker.{Walker}
use Rattle.sheet.specs.declared.sums.Totals.{Totals}

-- ── rows ──

-- a row ends with byte 10; a last one without it counts if it has a byte
abbrev pub rows : Text → List Text
rows [] = []
rows (b ∷ s) = if eqb 10 b then [] ∷ rows s else onto_first b (rows s)

-- a sheet over the limit yields none
abbrev pub yielded : ℕ → Text → List Text
yielded limit s = if leb (length s) limit then rows s else []

-- ── where a row lies ──

-- the place behind a row that ends there: behind its line feed, if it has one
abbrev pub behind : Text → ℕ → ℕ
behind s end = if ltb end (length s) then end + 1 else end

abbrev pub row_at : Text → ℕ → ℕ → Cut
row_at s first end = record { first = first; end = end; next = behind s end }

-- the row at a place, up to the first byte 10; none past the end, nor in a sheet over the limit
unfoldable pub cut : ℕ → Text → ℕ → Option Cut
cut limit s place = if leb (length s) limit && ltb place (length s) then Some (row_at s place (place + length (until (eqb 10) (drop place s)))) else None

-- the place that follows: behind the row's line feed; where there is none the place stays
abbrev pub onward : ℕ → Option Cut → ℕ
onward place (Some c) = c.next
onward place None = place

-- a walker's next row is the cut at its place, and it then stands behind that; its sheet stays
abbrev pub Nexts : ℕ → Walker → Option Cut → Walker → Type 0
Nexts limit w r v = (r ≡ cut limit w.sheet.now w.place) × ((v.sheet ≡ w.sheet) × (v.place ≡ onward w.place r))

-- the bytes from a place to another, as far as there are any
abbrev pub stretch : ℕ → ℕ → Text → Text
stretch first end s = take (end - first) (drop first s)

abbrev pub bytes_of : Cut → Text → Text
bytes_of c s = stretch c.first c.end s

-- ── totals ──

-- the number of each answer
abbrev pub number : Counted → ℕ
number Whole = 0
number TooLong = 9

abbrev pub answered : ℕ → Text → Counted
answered limit s = if leb (length s) limit then Whole else TooLong

abbrev pub sum : (Text → ℕ) → List Text → ℕ
sum f [] = 0
sum f (r ∷ rs) = f r + sum f rs

-- 1 for a reading with this refusal, 0 being that of an accepted one
abbrev pub counted : ℕ → Reading → ℕ
counted n r = if eqb (R.number r.refusal) n then 1 else 0

-- every number is a sum over the rows, of what each one's reading adds
abbrev pub summed : Counted → (Text → Reading) → List Text → Totals
summed answer read rs = record {
  answer = answer;
  rows = sum (λ r. 1) rs;
  accepted = sum (λ r. counted 0 (read r)) rs;
  refused_1 = sum (λ r. counted 1 (read r)) rs;
  refused_2 = sum (λ r. counted 2 (read r)) rs;
  refused_3 = sum (λ r. counted 3 (read r)) rs;
  refused_4 = sum (λ r. counted 4 (read r)) rs;
  a = sum (λ r. (read r).note.a) rs;
  b = sum (λ r. (read r).note.b) rs;
  c = sum (λ r. (read r).note.c) rs;
  d = sum (λ r. (read r).note.d) rs;
}

-- of a refused sheet there is no row, so that every number is 0
unfoldable pub totals : ℕ → ℕ → ℕ → Text → Totals
totals limit cap size s = summed (answered limit s) (ordinary cap size) (yielded limit s)
