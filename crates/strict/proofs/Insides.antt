-- Which way a word's number tells.
use Prim.Native.Nat.{ℕ, ◌≤◌, ◌<◌}
use native.Mathlib.Omega.{arith}
use mathlib.Core.Bool.{Bool, true, false, cond}
use mathlib.Core.Path.{◌≡◌, ap}
use lib.Dec.{eqb, ltb, lt→ltb, ltb→lt, not_T}
use borrow.Author.Tests.{eq-eqb, ne_eqb}
use Rattle.grammar.specs.Tests.{is_true, TNotEq}

pub lt_true : (k n : ℕ) → k < n → ltb k n ≡ true
lt_true k n h = is_true (ltb k n) (lt→ltb k n h)

pub lt_false : (k n : ℕ) → n ≤ k → ltb k n ≡ false
lt_false k n h = TNotEq (ltb k n) (not_T (ltb k n) (λ t. let p = ltb→lt k n t in omega arith))

-- one of two readers
module _ {A : Type 0} (p q : A) where
  pub yes : {b : Bool} → b ≡ true → cond b p q ≡ p
  yes e = ap (λ (k : Bool). cond k p q) e

  pub no : {b : Bool} → b ≡ false → cond b p q ≡ q
  no e = ap (λ (k : Bool). cond k p q) e

  pub below : (k n : ℕ) → k < n → cond (ltb k n) p q ≡ p
  below k n h = yes (lt_true k n h)

  pub above : (k n : ℕ) → n ≤ k → cond (ltb k n) p q ≡ q
  above k n h = no (lt_false k n h)

  pub zero : (k : ℕ) → k ≡ 0 → cond (eqb k 0) p q ≡ p
  zero k e = yes (eq-eqb k 0 e)

  pub some : (k : ℕ) → (k ≡ 0 → ⊥) → cond (eqb k 0) p q ≡ q
  some k n = no (ne_eqb k 0 n)
