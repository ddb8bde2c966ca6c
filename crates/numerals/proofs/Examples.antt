-- Worked examples of the definition, each by computation (01, module 1).
use mathlib.Core.Path.{◌≡◌, refl}
use mathlib.Core.List.{[], ◌∷◌, map}
use Rattle.std.specs.Prelude.{None, Some}
use lib.IntN.{pos, negsuc}
use Rattle.lexis.specs.Text.{bytes}
use Rattle.numerals.specs.Numeral.{numeral}

-- a byte of 128 or more gives none
unread : numeral 64 (49 ∷ 160 ∷ []) ≡ None
unread = refl

sign_alone : map (numeral 64) (bytes "+" ∷ bytes "-" ∷ [] ∷ bytes "+-1" ∷ bytes " 1" ∷ bytes "1:" ∷ []) ≡ None ∷ None ∷ None ∷ None ∷ None ∷ None ∷ []
sign_alone = refl

plain : map (numeral 32) (bytes "+7" ∷ bytes "-0" ∷ bytes "-000000000000000000000007" ∷ []) ≡ Some (pos 7) ∷ Some (pos 0) ∷ Some (negsuc 6) ∷ []
plain = refl

limits_64 : map (numeral 64) (bytes "9223372036854775807" ∷ bytes "9223372036854775808" ∷ bytes "-9223372036854775808" ∷ bytes "-9223372036854775809" ∷ [])
    ≡ Some (pos 9223372036854775807) ∷ None ∷ Some (negsuc 9223372036854775807) ∷ None ∷ []
limits_64 = refl

limits_32 : map (numeral 32) (bytes "2147483647" ∷ bytes "2147483648" ∷ bytes "-2147483648" ∷ bytes "-2147483649" ∷ [])
    ≡ Some (pos 2147483647) ∷ None ∷ Some (negsuc 2147483647) ∷ None ∷ []
limits_32 = refl
