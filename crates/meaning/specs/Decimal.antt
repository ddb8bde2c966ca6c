-- Numerals of strict forms (01, "Strict forms"): an integer written in decimal, so with no `+`, no leading zero, no `-0`.
use Rattle.std.specs.Prelude.{ℕ, zero, suc, ◌+◌, ◌-◌, ◌/◌, ◌%◌, ◌^◌, Bool, true, false, [], ◌∷◌, ltb, ℤ, pos, negsuc}
use Prim.Native.Char.{code}
use Rattle.lexis.specs.Text.{Text, bytes}

-- n in decimal, before the digits already written; the fuel n is enough, and never used up
abbrev pub digits : ℕ → ℕ → Text → Text
digits zero n ds = (code "0" + n % 10) ∷ ds
digits (suc f) n ds = elim (ltb n 10) [ true ↦ (code "0" + n) ∷ ds | false ↦ digits f (n / 10) ((code "0" + n % 10) ∷ ds) ]

abbrev pub decimal : ℤ → Text
decimal (pos n) = digits n n []
decimal (negsuc n) = code "-" ∷ digits (suc n) (suc n) []

-- 32 bits
abbrev pub in32 : ℤ → Bool
in32 (pos n) = ltb n (2 ^ 31)
in32 (negsuc n) = ltb n (2 ^ 31)

-- an entry of a shape or of strides: `?`, or a numeral of 64 bits; the smallest i64 is written only as `?`
pub data Dim : Type 0 where
  dynamic : Dim
  known : ℤ → Dim

abbrev pub dim : Dim → Text
dim dynamic = bytes "?"
dim (known z) = decimal z

abbrev pub in64 : Dim → Bool
in64 dynamic = true
in64 (known (pos n)) = ltb n (2 ^ 63)
in64 (known (negsuc n)) = ltb n (2 ^ 63 - 1)

abbrev pub size : Dim → ℤ
size dynamic = negsuc (2 ^ 63 - 1)
size (known z) = z
