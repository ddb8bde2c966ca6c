-- A text with a byte of 128 or more is no numeral, at any width: neither a sign nor a digit is so high (01, module 2).
use Rattle.std.specs.Prelude.{if◌then◌else◌, None}
use Prim.Native.Nat.{ℕ, ◌+◌, ◌-◌, ◌*◌, ◌^◌}
use native.Mathlib.Omega.{arith}
use mathlib.Core.Bool.{Bool, true, false, ◌&&◌, ◌||◌, false≢true}
use mathlib.Core.List.{[], ◌∷◌}
use mathlib.Core.Path.{◌≡◌, refl, sym, ap, ◌∙◌}
use borrow.Author.Tests.{leb-true, lt-leb, ne_eqb}
use lib.Dec.{eqb, leb}
use lib.IntN.{pos}
use Rattle.lexis.specs.Text.{Text, some_of}
use Rattle.lexis.proofs.Seeking.{never}
use Rattle.numerals.specs.Numeral.{digit, number_from, number, at_most, minus, numeral}

no_digit : (b : ℕ) → leb 128 b ≡ true → digit b ≡ false
no_digit b e = let h = leb-true 128 b e in ap (λ (d : Bool). leb 48 b && d) (lt-leb b 57 (omega arith)) ∙ never (leb 48 b)

from_high : (n : ℕ) (s : Text) → some_of (leb 128) s ≡ true → number_from n s ≡ None
from_high n [] e = absurd (false≢true e)
from_high n (b ∷ s) e = by (leb 128 b) (digit b) (no_digit b) e (from_high (n * 10 + (b - 48)) s)
  where
    by : (h d : Bool) → (h ≡ true → d ≡ false) → h || some_of (leb 128) s ≡ true → (some_of (leb 128) s ≡ true → number_from (n * 10 + (b - 48)) s ≡ None) →
        (if d then number_from (n * 10 + (b - 48)) s else None) ≡ None
    by h false f e r = refl
    by true true f e r = absurd (false≢true (sym (f refl)))
    by false true f e r = r e

number_high : (s : Text) → some_of (leb 128) s ≡ true → number s ≡ None
number_high [] e = refl
number_high (b ∷ s) e = from_high 0 (b ∷ s) e

pub high_no_numeral : (w : ℕ) (s : Text) → some_of (leb 128) s ≡ true → numeral w s ≡ None
high_no_numeral w [] e = refl
high_no_numeral w (b ∷ s) e = by (leb 128 b) (eqb b 45) (eqb b 43) (no_sign 45 refl) (no_sign 43 refl) e
  where
    no_sign : (k : ℕ) → leb 128 k ≡ false → leb 128 b ≡ true → eqb b k ≡ false
    no_sign k f h = ne_eqb b k (λ q. false≢true (sym f ∙ ap (leb 128) (sym q) ∙ h))

    by : (h p q : Bool) → (h ≡ true → p ≡ false) → (h ≡ true → q ≡ false) → h || some_of (leb 128) s ≡ true →
        (if p then at_most (2 ^ (w - 1)) minus (number s) else if q then at_most (2 ^ (w - 1) - 1) pos (number s) else at_most (2 ^ (w - 1) - 1) pos (number (b ∷ s))) ≡ None
    by h false false f g k = ap (at_most (2 ^ (w - 1) - 1) pos) (number_high (b ∷ s) e)
    by true true q f g k = absurd (false≢true (sym (f refl)))
    by true false true f g k = absurd (false≢true (sym (g refl)))
    by false true q f g k = ap (at_most (2 ^ (w - 1)) minus) (number_high s k)
    by false false true f g k = ap (at_most (2 ^ (w - 1) - 1) pos) (number_high s k)
