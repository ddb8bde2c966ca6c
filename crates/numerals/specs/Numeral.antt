-- Numerals (01, module 1): an optional sign, then one or more digits, in range; leading zeros are fine.
use Rattle.std.specs.Prelude.{if◌then◌else◌, ℕ, ◌+◌, ◌-◌, ◌*◌, ◌^◌, Bool, ◌&&◌, [], ◌∷◌, leb, eqb, ℤ, pos, neg_ℤ, Option, None, Some}
use Prim.Native.Char.{code}
use Rattle.lexis.specs.Text.{Text}

abbrev pub digit : ℕ → Bool
digit b = leb (code "0") b && leb b (code "9")

-- the number that digits write, after those that wrote n
abbrev pub number_from : ℕ → Text → Option ℕ
number_from n [] = Some n
number_from n (b ∷ s) = if digit b then number_from (n * 10 + (b - code "0")) s else None

-- one or more digits
abbrev pub number : Text → Option ℕ
number [] = None
number (b ∷ s) = number_from 0 (b ∷ s)

-- a number of at most `limit`, as an integer
abbrev pub at_most : ℕ → (ℕ → ℤ) → Option ℕ → Option ℤ
at_most limit value None = None
at_most limit value (Some n) = if leb n limit then Some (value n) else None

abbrev pub minus : ℕ → ℤ
minus n = neg_ℤ (pos n)

-- a numeral in the range of w bits: from -2^(w-1) to 2^(w-1) - 1
abbrev pub numeral : ℕ → Text → Option ℤ
numeral w [] = None
numeral w (b ∷ s) =
    if eqb b (code "-") then at_most (2 ^ (w - 1)) minus (number s)
    else if eqb b (code "+") then at_most (2 ^ (w - 1) - 1) pos (number s)
    else at_most (2 ^ (w - 1) - 1) pos (number (b ∷ s))
