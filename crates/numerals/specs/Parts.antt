-- What private helpers answer, for their own contracts: no public contract cites these.
use Rattle.std.specs.Prelude.{if◌then◌else◌, ℕ, suc, ◌+◌, ◌≤◌, Bool, ◌&&◌, ◌||◌, not, ◌≡◌, leb, ltb, eqb, length, get_or, Option, None, Some}
use Prim.Native.Char.{code}
use Rattle.lexis.specs.Text.{Text, until, less_trailing, white}
use Rattle.numerals.specs.Numeral.{number}
use Rattle.numerals.specs.declared.part.Part.{Part}

-- a number of at most `most`
abbrev pub under : ℕ → Option ℕ → Option ℕ
under most None = None
under most (Some n) = if leb n most then Some n else None

-- ── parts of a list ──

-- a comma, or past the digits
abbrev pub apart : ℕ → Bool
apart x = eqb x (code ",") || leb (suc (code "9")) x

-- neither white nor a digit
abbrev pub odd : ℕ → Bool
odd b = not (white b) && (ltb b (code "0") || ltb (code "9") b)

-- t up to the first x is digits that write n, at most `most`, or begins with one and is no number, trimmed
abbrev pub Said : ℕ → Text → ℕ → Option ℕ → Type 0
Said x t most (Some n) = (number (until (eqb x) t) ≡ Some n) × (n ≤ most)
Said x t most None = (number (less_trailing white (until (eqb x) t)) ≡ None) × (48 ≤ get_or t 0 0)

-- the same, with the part's end, where t begins at the place k; or nothing is said
abbrev pub Ran : ℕ → Text → ℕ → ℕ → Option (Part ℕ) → Type 0
Ran x t k most None = Unit {0}
Ran x t k most (Some p) = (p.len ≡ k + length (until (eqb x) t)) × Said x t most p.value
