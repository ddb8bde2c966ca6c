-- The first place of a text among the first bytes of another.
use Rattle.std.specs.Prelude.{if◌then◌else◌, ℕ, suc, ◌+◌, ◌-◌, Bool, ◌&&◌, ◌||◌, ◌≡◌, ltb, leb, eqb, length, take, get_or, Option, None, Some}
use Prim.Native.Char.{code}
use Rattle.lexis.specs.Text.{Text, cut, place}

-- the first place of p that ends within the first n bytes of s
abbrev pub seen : Text → ℕ → Text → Option ℕ
seen p n s = place (cut p (take n s))

-- what a number says: a place below n, or that there is none
abbrev pub told : ℕ → ℕ → Option ℕ
told n i = if ltb i n then Some i else None

-- n says the first place of p in s, of those whose byte before the last m stands before the place i
pub record Sight (p : Text) (m : ℕ) (s : Text) (i n : ℕ) : Type 0 where
  pub is : told (length s) n ≡ seen p (i + m) s

-- the byte by which p is known
abbrev pub key : Text → ℕ → ℕ
key p m = get_or p (length p - suc m) 0

-- the bytes by which keywords and brackets are known
abbrev pub hot : ℕ → Bool
hot b = (leb (code "<") b && leb b (code ">")) || eqb b (code "g")
