-- For private contracts: an entry by its numeral, a list with one entry more, a row that was filled in.
use Rattle.std.specs.Prelude.{ℕ, ◌+◌, false, ◌≡◌, ℤ, set}
use Rattle.lexis.specs.Text.{Text, split}
use Rattle.meaning.specs.Found.{Came, read, fell, Entry}
use Rattle.meaning.specs.Parts.{last, front}
use Rattle.meaning.specs.Tile.{dimensions}
use Rattle.lists.specs.Laid.{Laid, laid, list}
use Rattle.lists.specs.declared.list.Leading.{Leading}
use Rattle.lists.specs.declared.row.Row.{Row}
use Rattle.lists.specs.declared.row.Tally.{Tally}

-- one value more, and the tally then; a place past the end of the values is no place
abbrev pub put : Laid → ℤ → Tally → Laid
put l z t = record {
  values = set l.values l.row.len z;
  row = record { len = l.row.len + 1; stood = l.row.stood; tally = t };
}

-- one entry more that fell back
abbrev pub ticked : Tally → Tally
ticked t = record { fell = t.fell + 1 }

-- one entry more, by how it came
abbrev pub told : Tally → Came → Tally
told t read = t
told t fell = ticked t

abbrev pub push : Laid → Entry → Laid
push l e = put l e.value (told l.row.tally e.came)

-- n entries that fill in for a clause
abbrev pub filled_row : ℕ → Row
filled_row n = record { len = n; stood = false; tally = record { fell = 0 } }

-- the dimensions of s before its last part at the byte x, and that part
pub record Ahead (x : ℕ) (s : Text) (r : Leading) : Type 0 where
  pub dims : list r.dims ≡ laid 8 (dimensions (front (split x s)))
  pub part : r.rest.now ≡ last (split x s)
