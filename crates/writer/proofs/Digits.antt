-- Digits in decimal, before those already written: one digit, or one more before the digits of n / 10; and how many they are.
use Rattle.std.proofs.Common.{◌≡◌, ℕ, zero, suc, ◌+◌, ◌-◌, ◌/◌, ◌%◌, ◌^◌, ◌<◌, ◌≤◌, Bool, true, false, ◌∷◌, length, length-drop, length-set, take, drop, set, ap, ◌∙◌, refl, arith}
use Rattle.std.proofs.lemmas.Grind.{drop-set_at}
use Rattle.std.proofs.lemmas.List.{take_all}
use native.Mathlib.Nat.{div-add-mod, le_refl, pow-suc}
use borrow.Author.Tests.{lt-ltb, le-ltb, ltb-true, ltb-false}
use lib.Dec.{ltb}
use Rattle.lexis.specs.Text.{Text}
use Rattle.meaning.specs.Decimal.{digits}
use Rattle.grammar.specs.Digits.{fuel}

pub last : (n : ℕ) (ds : Text) → n < 10 → digits n n ds ≡ (48 + n) ∷ ds
last zero ds h = refl
last (suc n) ds h = ap (λ (k : Bool). elim k as (λ _. Text) [ true ↦ (48 + suc n) ∷ ds | false ↦ digits n (suc n / 10) ((48 + suc n % 10) ∷ ds) ]) (lt-ltb (suc n) 10 h)

pub next : (n : ℕ) (ds : Text) → 10 ≤ n → digits n n ds ≡ digits (n / 10) (n / 10) ((48 + n % 10) ∷ ds)
next zero ds h = let f : ⊥ = omega arith in absurd f
next (suc n) ds h =
    let e = div-add-mod (suc n) 10 in
    ap (λ (k : Bool). elim k as (λ _. Text) [ true ↦ (48 + suc n) ∷ ds | false ↦ digits n (suc n / 10) ((48 + suc n % 10) ∷ ds) ]) (le-ltb (suc n) 10 h)
    ∙ fuel n (suc n / 10) (suc n / 10) ((48 + suc n % 10) ∷ ds) (omega arith) (le_refl (suc n / 10))

-- of a number with two digits at least, below a power of ten
pub tenth : (k n : ℕ) → 10 ≤ n → n < 10 ^ suc k → (1 ≤ k) × (n / 10 < 10 ^ k)
tenth zero n h l = let f : ⊥ = omega arith in absurd f
tenth (suc k) n h l =
    let e = div-add-mod n 10 in
    let d = pow-suc 10 (suc k) in
    (omega arith, omega arith)

-- at most k digits below the k-th power of ten
pub short : (k n : ℕ) (ds : Text) → n < 10 ^ suc k → length (digits n n ds) ≤ suc k + length ds
short zero n ds h = rw (last n ds h) (omega arith)
short (suc k) n ds h = by (ltb n 10) (ltb-true n 10) (ltb-false n 10) (λ p. short k (n / 10) ((48 + n % 10) ∷ ds) (tenth (suc k) n p h).1)
  where
    by : (b : Bool) → (b ≡ true → n < 10) → (b ≡ false → 10 ≤ n) → (10 ≤ n → length (digits (n / 10) (n / 10) ((48 + n % 10) ∷ ds)) ≤ suc k + suc (length ds)) → length (digits n n ds) ≤ suc (suc k) + length ds
    by true p q r = rw (last n ds (p refl)) (omega arith)
    by false p q r = rw (next n ds (q refl)) (omega (arith, r (q refl)))

-- the digits from place i on, in a room for them: one more in place i, before those behind it
module _ (text : Text) (i n : ℕ) (h : i < length text) where
  pub put_next : 10 ≤ n → 1 ≤ i → digits (n / 10) (n / 10) (drop ((i - 1) + 1) (set text i (48 + n % 10))) ≡ digits n n (drop (i + 1) text)
  put_next p q = rw (drop-set_at text i ((i - 1) + 1) (48 + n % 10) (omega arith) h, next n (drop (i + 1) text) p)

  pub put_last : n < 10 → take (length text - i) (drop i (set text i (48 + n))) ≡ digits n n (drop (i + 1) text)
  put_last p =
      let e = drop-set_at text i i (48 + n) refl h in
      take_all (length text - i) (drop i (set text i (48 + n))) (simp (length-drop, length-set) (omega arith))
      ∙ rw (e, last n (drop (i + 1) text) p)
