-- Numerals in a range: digits are taken as long as the value stays below the limit. The piece that reads them, and its laws, are in proofs/Number.antt.
use Rattle.std.specs.Prelude.{ℕ, zero, suc, ◌+◌, ◌-◌, ◌*◌, ◌≤◌, ◌<◌, Bool, true, false, ◌&&◌, List, [], ◌∷◌, ◌≡◌, T, ltb, ℤ, pos, negsuc}
use Rattle.lexis.specs.Text.{bytes}
use Rattle.meaning.specs.Decimal.{digits, decimal}
use Rattle.numerals.specs.Numeral.{digit}
use Rattle.grammar.specs.Piece.{member, Answer, got, stuck}
use Rattle.grammar.specs.Table.{Entry, ◌↝◌}

abbrev pub nine : List ℕ
nine = bytes "123456789"

abbrev pub ten : List ℕ
ten = bytes "0123456789"

-- the value so far is v; digits are taken as long as it stays below the limit
abbrev pub grow : ℕ → ℕ → List ℕ → Answer ℕ
grow lim v [] = got v []
grow lim v (c ∷ t) = elim (digit c && ltb (v * 10 + (c - 48)) lim) [ true ↦ grow lim (v * 10 + (c - 48)) t | false ↦ got v (c ∷ t) ]

abbrev pub magnitude : ℕ → List ℕ → Answer ℕ
magnitude lim [] = stuck []
magnitude lim (c ∷ t) = elim (member c nine) [ true ↦ grow lim (c - 48) t | false ↦ stuck (c ∷ t) ]

-- the decimal of a number from 1 on, below the limit
pub record Count (lim n : ℕ) (t : List ℕ) : Type 0 where
  pub some : 1 ≤ n
  pub below : n < lim
  pub text : digits n n [] ≡ t

-- ── whole numbers: below p, or down to -q ──
abbrev pub ranged : ℕ → ℕ → ℤ → Bool
ranged p q (pos n) = ltb n p
ranged p q (negsuc n) = ltb n q

abbrev pub minus : ℕ → ℤ
minus zero = pos 0
minus (suc n) = negsuc n

-- zero has one numeral
abbrev pub zero_words : List (Entry ℤ)
zero_words = ((bytes "0" ↝ pos 0) ∷ [])

abbrev pub digits_after : ℤ → List ℕ
digits_after z = ten

pub record Decimal (p q : ℕ) (z : ℤ) (t : List ℕ) : Type 0 where
  pub fine : T (ranged p q z)
  pub text : decimal z ≡ t
