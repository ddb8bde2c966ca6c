-- Worked examples of the definitions, each by computation (01, module 1).
use mathlib.Core.Path.{◌≡◌, refl}
use mathlib.Core.List.{[], ◌∷◌, ◌++◌}
use Prim.Native.Char.{code}
use lib.Dec.{eqb}
use Rattle.lexis.specs.Text.{bytes, trim, less_leading, less_trailing, cut, at, nowhere}

-- VT (11) is white space, as are 9, 10, 12, 13 and 32
trimmed : trim (11 ∷ 9 ∷ 97 ∷ 11 ∷ 98 ∷ 10 ∷ 12 ∷ 13 ∷ 32 ∷ 11 ∷ []) ≡ 97 ∷ 11 ∷ 98 ∷ []
trimmed = refl

all_white : trim (32 ∷ 11 ∷ 32 ∷ []) ≡ []
all_white = refl

-- a byte of 128 or more is never trimmed: 133 and 160 are white in Unicode
untrimmed : trim (133 ∷ 97 ∷ 160 ∷ []) ≡ 133 ∷ 97 ∷ 160 ∷ []
untrimmed = refl

-- all bytes of one kind go, at one end only
ends : less_leading (eqb (code "x")) (bytes "xx4xx") ++ less_trailing (eqb (code "]")) (bytes "]1]]") ≡ bytes "4xx]1"
ends = refl

first_place : cut (bytes "ab") (bytes "xabab") ≡ at (bytes "x") (bytes "ab")
first_place = refl

no_place : cut (bytes "ab") (bytes "ba") ≡ nowhere
no_place = refl

nothing_sought : cut [] (bytes "x") ≡ at [] (bytes "x")
nothing_sought = refl
