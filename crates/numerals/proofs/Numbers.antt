-- Laws of numerals: digits read one at a time under a limit, the sign, the range; and that this is the definition, at any width.
use Rattle.std.specs.Prelude.{if◌then◌else◌, Option, None, Some, option_map}
use mathlib.Core.Path.{◌≡◌, refl, sym, ap, ◌∙◌}
use mathlib.Core.Bool.{Bool, true, false}
use mathlib.Core.List.{List, [], ◌∷◌}
use Prim.Native.Nat.{ℕ, ◌+◌, ◌-◌, ◌*◌, ◌^◌, ◌≤◌, ◌<◌}
use native.Mathlib.Omega.{arith}
use lib.Dec.{leb}
use lib.IntN.{ℤ, pos}
use lib.ListN.{length, drop, get_or, drop_of_length-le}
use borrow.Author.Tests.{le-leb, lt-leb, leb-true, ne_eqb}
use Rattle.numerals.specs.Numeral.{digit, number_from, number, at_most, minus, numeral}
use Rattle.numerals.specs.Parts.{under}
use Rattle.lexis.proofs.Lists.{view}

pub absent : {A : Type 0} {n : A} → None ≡ Some n → ⊥
absent e = let z : ◌≡◌ {A = ℕ} 0 1 = cc in omega arith

-- ── digits ──

-- a value over the limit stays over it
grown : (most n : ℕ) (t : List ℕ) → most < n → under most (number_from n t) ≡ None
grown most n [] h = rw (lt-leb n most h)
grown most n (b ∷ t) h = by (digit b) (grown most (n * 10 + (b - 48)) t (omega arith))
  where
    by : (d : Bool) → under most (number_from (n * 10 + (b - 48)) t) ≡ None
        → under most (if d then number_from (n * 10 + (b - 48)) t else None) ≡ None
    by true e = e
    by false e = refl

pub start : (most : ℕ) (s : List ℕ) → (length s ≡ 0 → ⊥) → under most (number s) ≡ under most (number_from 0 s)
start most [] z = absurd (z refl)
start most (b ∷ s) z = refl

pub empty : (most : ℕ) (s : List ℕ) → length s ≡ 0 → under most (number s) ≡ None
empty most [] z = refl
empty most (b ∷ s) z = let f : ⊥ = omega arith in absurd f

module _ (most : ℕ) (s : List ℕ) (i n : ℕ) where
  pub last : length s ≤ i → n ≤ most → under most (number_from n (drop i s)) ≡ Some n
  last h k = rw (drop_of_length-le s h, le-leb n most k)

  module _ (h : i < length s) where
    pub low : get_or s i 0 < 48 → under most (number_from n (drop i s)) ≡ None
    low k = rw (view s i h, lt-leb 48 (get_or s i 0) k)

    pub high : 48 ≤ get_or s i 0 → 57 < get_or s i 0 → under most (number_from n (drop i s)) ≡ None
    high l k = rw (view s i h, le-leb 48 (get_or s i 0) l, lt-leb (get_or s i 0) 57 k)

    pub step : 48 ≤ get_or s i 0 → get_or s i 0 ≤ 57
        → under most (number_from n (drop i s)) ≡ under most (number_from (n * 10 + (get_or s i 0 - 48)) (drop (i + 1) s))
    step l k = rw (view s i h, le-leb 48 (get_or s i 0) l, le-leb (get_or s i 0) 57 k)

    pub over : 48 ≤ get_or s i 0 → get_or s i 0 ≤ 57 → most < n * 10 + (get_or s i 0 - 48) → under most (number_from n (drop i s)) ≡ None
    over l k o = step l k ∙ grown most (n * 10 + (get_or s i 0 - 48)) (drop (i + 1) s) o

-- ── the sign and the range ──

-- a limit that a number is held to before it is made an integer
pub held : (f : ℕ → ℤ) (most : ℕ) (o : Option ℕ) → option_map f (under most o) ≡ at_most most f o
held f most None = refl
held f most (Some n) = by (leb n most)
  where
    by : (t : Bool) → option_map f (if t then Some n else None) ≡ if t then Some (f n) else None
    by true = refl
    by false = refl

-- what is held to a limit is within it
pub within : (most : ℕ) (o : Option ℕ) {n : ℕ} → Some n ≡ under most o → n ≤ most
within most None e = absurd (absent (sym e))
within most (Some m) {n} e = by (leb m most) (leb-true m most) e
  where
    by : (t : Bool) → (t ≡ true → m ≤ most) → Some n ≡ (if t then Some m else None) → n ≤ most
    by true h e = let k : n ≡ m = cc in let g = h refl in omega arith
    by false h e = absurd (absent (sym e))

module _ (w most : ℕ) (range : most + 1 ≡ 2 ^ (w - 1)) (b : ℕ) (s : List ℕ) where
  pub below : b ≡ 45 → at_most (most + 1) minus (number s) ≡ numeral w (b ∷ s)
  below e = rw (e, range)

  high_end : most ≡ 2 ^ (w - 1) - 1
  high_end = omega arith

  pub above : b ≡ 43 → at_most most pos (number s) ≡ numeral w (b ∷ s)
  above e = rw e (ap (λ (l : ℕ). at_most l pos (number s)) high_end)

  pub bare : (b ≡ 45 → ⊥) → (b ≡ 43 → ⊥) → at_most most pos (number (b ∷ s)) ≡ numeral w (b ∷ s)
  bare e f = rw (ne_eqb b 45 e, ne_eqb b 43 f) (ap (λ (l : ℕ). at_most l pos (number (b ∷ s))) high_end)
