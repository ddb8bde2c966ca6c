-- Numbers back to cases: where a number's case is found, and where there is none; a flag's byte.
use Rattle.std.specs.Prelude.{None, is_some}
use Prim.Native.Nat.{ℕ, zero, suc, ◌≤◌}
use native.Mathlib.Omega.{arith}
use mathlib.Core.Bool.{Bool, true, false}
use mathlib.Core.List.{List, [], ◌∷◌}
use mathlib.Core.Path.{◌≡◌, refl, sym, ◌∙◌}
use lib.Dec.{ltb, leb-suc-suc}
use lib.ListN.{length}
use borrow.Author.Tests.{lt-ltb, le-ltb}
use mir.Val.{bool_byte}
use Rattle.numbers.specs.Numbers.{flag_number, nth}

module _ {A : Type 0} where
  pub beyond : (xs : List A) (n : ℕ) → length xs ≤ n → nth xs n ≡ None
  beyond [] n h = refl
  beyond (x ∷ xs) zero h = let f : ⊥ = omega arith in absurd f
  beyond (x ∷ xs) (suc n) h = beyond xs n (omega arith)

  pub within : (xs : List A) (n : ℕ) → is_some (nth xs n) ≡ ltb n (length xs)
  within [] n = sym (le-ltb n 0 (omega arith))
  within (x ∷ xs) zero = sym (lt-ltb 0 (length (x ∷ xs)) (omega arith))
  within (x ∷ xs) (suc n) = within xs n ∙ sym (leb-suc-suc (suc n) (length xs))

-- a flag's byte, as a cast makes it, is its number
pub flag_byte : (b : Bool) → bool_byte b ≡ flag_number b
flag_byte true = refl
flag_byte false = refl
