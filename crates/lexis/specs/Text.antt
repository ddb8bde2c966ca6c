-- Texts as lists of bytes: quoting, choosing, seeking, trimming (01, modules 1 and 3 to 7 lean on these).
use Rattle.std.specs.Prelude.{if◌then◌else◌, ℕ, Bool, true, false, ◌&&◌, ◌||◌, List, [], ◌∷◌, not, leb, ltb, eqb, length, Option, None, Some}
use Prim.Native.Char.{code}
use Prim.Native.String as S
use Prim.Native.String.{String}

abbrev pub Text : Type 0
Text = List ℕ

-- the bytes of a quoted text
abbrev pub bytes : String → Text
bytes S.[] = []
bytes (S.◌∷◌ c s) = code c ∷ bytes s

-- ── seeking ──

-- two texts are the same
abbrev pub same : Text → Text → Bool
same [] [] = true
same [] (c ∷ t) = false
same (b ∷ s) [] = false
same (b ∷ s) (c ∷ t) = eqb b c && same s t

-- p stands at the front of s
abbrev pub begins : Text → Text → Bool
begins [] s = true
begins (c ∷ p) [] = false
begins (c ∷ p) (b ∷ s) = eqb c b && begins p s

-- s without the prefix p, which stands there
abbrev pub after : Text → Text → Text
after [] s = s
after (c ∷ p) [] = []
after (c ∷ p) (b ∷ s) = after p s

-- a text parted at the first place of another: what stands before it, and what follows it
pub data Cut : Type 0 where
  nowhere : Cut
  at : Text → Text → Cut

-- the same, with one byte more in front
abbrev pub later : ℕ → Cut → Cut
later b nowhere = nowhere
later b (at u t) = at (b ∷ u) t

-- s, parted at the first p
abbrev pub cut : Text → Text → Cut
cut p [] = if begins p [] then at [] [] else nowhere
cut p (b ∷ s) = if begins p (b ∷ s) then at [] (after p (b ∷ s)) else later b (cut p s)

abbrev pub found : Cut → Bool
found nowhere = false
found (at u t) = true

-- the place at which a text is parted
abbrev pub place : Cut → Option ℕ
place nowhere = None
place (at u t) = Some (length u)

abbrev pub occurs : Text → Text → Bool
occurs p s = found (cut p s)

-- a byte below lo or above hi
abbrev pub outside : ℕ → ℕ → ℕ → Bool
outside lo hi b = ltb b lo || ltb hi b

-- some byte passes the test
abbrev pub some_of : (ℕ → Bool) → Text → Bool
some_of p [] = false
some_of p (b ∷ s) = p b || some_of p s

-- what stands before the first byte that passes the test, or all of s
abbrev pub until : (ℕ → Bool) → Text → Text
until p [] = []
until p (b ∷ s) = if p b then [] else b ∷ until p s

-- ── splitting ──

abbrev pub onto_first : ℕ → List Text → List Text
onto_first b [] = (b ∷ []) ∷ []
onto_first b (p ∷ ps) = (b ∷ p) ∷ ps

-- the parts of s between the bytes x: one at least
abbrev pub split : ℕ → Text → List Text
split x [] = [] ∷ []
split x (b ∷ s) = if eqb x b then [] ∷ split x s else onto_first b (split x s)

-- ── trimming ──

-- s without its leading bytes that pass the test
abbrev pub less_leading : (ℕ → Bool) → Text → Text
less_leading p [] = []
less_leading p (b ∷ s) = if p b then less_leading p s else b ∷ s

-- b before what is left of the rest: b is the last byte where nothing is left
abbrev pub unless_last : (ℕ → Bool) → ℕ → Text → Text
unless_last p b [] = if p b then [] else b ∷ []
unless_last p b (c ∷ s) = b ∷ c ∷ s

-- s without its trailing bytes that pass the test
abbrev pub less_trailing : (ℕ → Bool) → Text → Text
less_trailing p [] = []
less_trailing p (b ∷ s) = unless_last p b (less_trailing p s)

-- bytes 9 to 13 and 32 (01, module 1)
abbrev pub white : ℕ → Bool
white b = (leb 9 b && leb b 13) || eqb b 32

-- a byte that isn't white
abbrev pub ink : ℕ → Bool
ink b = not (white b)

abbrev pub trim : Text → Text
trim s = less_trailing white (less_leading white s)
