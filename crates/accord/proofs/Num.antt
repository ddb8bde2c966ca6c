-- Numerals: what is written in decimal is read back, digit by digit; and trimming does nothing where nothing is to trim.
use Rattle.std.specs.Prelude.{if◌then◌else◌, None, Some}
use Prim.Native.Nat.{ℕ, zero, suc, ◌+◌, ◌-◌, ◌*◌, ◌/◌, ◌%◌, ◌^◌, ◌≤◌, ◌<◌}
use native.Mathlib.Omega.{arith}
use native.Mathlib.Nat.{mod-lt, zero-lt-suc, div-add-mod, le_refl}
use mathlib.Core.Bool.{Bool, true, false, ◌||◌, not}
use mathlib.Core.List.{List, [], ◌∷◌, ◌++◌, append-nil}
use mathlib.Core.Path.{◌≡◌, refl, sym, ap, ◌∙◌}
use lib.Dec.{T, eqb, leb, ltb, leb→le, ltb→lt, nltb→le, eqb→eq}
use lib.IntN.{ℤ, pos, negsuc}
use Rattle.lexis.specs.Text.{white, trim, less_leading, less_trailing, unless_last}
use Rattle.numerals.specs.Numeral.{digit, number_from, number, at_most, minus, numeral}
use Rattle.numerals.proofs.Walking.{white_low}
use Rattle.meaning.specs.Decimal.{digits, decimal}
use Rattle.grammar.specs.Tests.{every, and_left, and_right, or_left, or_cases, is_true, TNotEq, every_mono}
use Rattle.grammar.specs.Digits.{small, digit_ok, digits_digit, decimal_over}
use Rattle.accord.proofs.Bracket.{apart}

abbrev pub vacant : List ℕ → Bool
vacant [] = true
vacant (c ∷ s) = false

horner_step : (a c : ℕ) (s : List ℕ) → T (digit c) → number_from a (c ∷ s) ≡ number_from (a * 10 + (c - 48)) s
horner_step a c s h = ap (λ (k : Bool). if k then number_from (a * 10 + (c - 48)) s else None) (is_true (digit c) h)

horner_digit : (a d n : ℕ) (s : List ℕ) → d < 10 → a * 10 + d ≡ n → number_from a ((48 + d) ∷ s) ≡ number_from n s
horner_digit a d n s h e = horner_step a (48 + d) s (digit_ok d h) ∙ ap (λ (z : ℕ). number_from z s) (omega arith)

digits_horner : (f n : ℕ) (ds : List ℕ) → n ≤ f → number_from 0 (digits f n ds) ≡ number_from n ds
digits_horner zero n ds h = let e : n ≡ 0 = omega arith in rw e
digits_horner (suc f) n ds h = go (ltb n 10) (ltb→lt n 10) (nltb→le n 10) (λ q. digits_horner f (n / 10) ((48 + n % 10) ∷ ds) (small n f h q))
  where
    go : (k : Bool) → (T k → n < 10) → (T (not k) → 10 ≤ n) → (10 ≤ n → number_from 0 (digits f (n / 10) ((48 + n % 10) ∷ ds)) ≡ number_from (n / 10) ((48 + n % 10) ∷ ds)) →
        number_from 0 (elim k [ true ↦ (48 + n) ∷ ds | false ↦ digits f (n / 10) ((48 + n % 10) ∷ ds) ]) ≡ number_from n ds
    go true p q r = horner_digit 0 n n ds (p tt) (omega arith)
    go false p q r = r (q tt) ∙ horner_digit (n / 10) (n % 10) n ds (mod-lt n (zero-lt-suc 9)) (let e = div-add-mod n 10 in omega arith)

-- ── classes ──
pub digits_any : (f n : ℕ) (ds : List ℕ) → T (not (vacant (digits f n ds)))
digits_any zero n ds = tt
digits_any (suc f) n ds = go (ltb n 10) (digits_any f (n / 10) ((48 + n % 10) ∷ ds))
  where
    go : (k : Bool) → T (not (vacant (digits f (n / 10) ((48 + n % 10) ∷ ds)))) →
        T (not (vacant (elim k [ true ↦ (48 + n) ∷ ds | false ↦ digits f (n / 10) ((48 + n % 10) ∷ ds) ])))
    go true r = tt
    go false r = r

-- digits, `-` and `?`
abbrev pub figure : ℕ → Bool
figure c = digit c || (eqb c 45 || eqb c 63)

figure_high : (c : ℕ) → T (figure c) → 33 ≤ c
figure_high c h = or_cases (digit c) (eqb c 45 || eqb c 63) (λ d. let p = leb→le 48 c (and_left (leb 48 c) (leb c 57) d) in omega arith)
    (or_cases (eqb c 45) (eqb c 63) (λ e. let p = eqb→eq c 45 e in omega arith) (λ e. let p = eqb→eq c 63 e in omega arith)) h

pub decimal_figure : (z : ℤ) → T (every figure (decimal z))
decimal_figure z = decimal_over figure (λ c h. or_left (digit c) (eqb c 45 || eqb c 63) h) tt z

-- ── trimming does nothing where nothing of the class stands ──
abbrev pub non : (ℕ → Bool) → ℕ → Bool
non C c = not (C c)

pub front_none : (C : ℕ → Bool) (t : List ℕ) → T (every (non C) t) → less_leading C t ≡ t
front_none C [] h = refl
front_none C (c ∷ t) h =
    ap (λ (k : Bool). if k then less_leading C t else c ∷ t) (TNotEq (C c) (and_left (non C c) (every (non C) t) h))

keep_same : (C : ℕ → Bool) (c : ℕ) (t : List ℕ) → C c ≡ false → unless_last C c t ≡ c ∷ t
keep_same C c [] e = ap (λ (k : Bool). if k then [] else c ∷ []) e
keep_same C c (x ∷ t) e = refl

pub back_past : (C : ℕ → Bool) (t s : List ℕ) → T (every (non C) t) → less_trailing C (t ++ s) ≡ t ++ less_trailing C s
back_past C [] s h = refl
back_past C (c ∷ t) s h =
    ap (unless_last C c) (back_past C t s (and_right (non C c) (every (non C) t) h)) ∙ keep_same C c (t ++ less_trailing C s) (TNotEq (C c) (and_left (non C c) (every (non C) t) h))

pub trim_none : (t : List ℕ) → T (every (non white) t) → trim t ≡ t
trim_none t h =
    ap (less_trailing white) (front_none white t h ∙ sym (append-nil t)) ∙ back_past white t [] h ∙ append-nil t

-- no figure is white
pub figure_ink : (c : ℕ) → T (figure c) → T (non white c)
figure_ink c h = go (white c) (white_low c)
  where
    go : (k : Bool) → (k ≡ true → c ≤ 32) → T (not k)
    go true f = let p = f refl in let q = figure_high c h in omega arith
    go false f = tt

pub decimal_tight : (z : ℤ) → trim (decimal z) ≡ decimal z
decimal_tight z = trim_none (decimal z) (every_mono figure (non white) figure_ink (decimal z) (decimal_figure z))

-- ── a numeral is read back ──
number_some : (t : List ℕ) → T (not (vacant t)) → number t ≡ number_from 0 t
number_some [] h = absurd h
number_some (c ∷ t) h = refl

numeral_digits : (w : ℕ) (t : List ℕ) → T (every digit t) → T (not (vacant t)) → numeral w t ≡ at_most (2 ^ (w - 1) - 1) pos (number_from 0 t)
numeral_digits w [] h k = absurd k
numeral_digits w (c ∷ t) h k =
    let d = and_left (digit c) (every digit t) h in
    ap (λ (b : Bool). if b then at_most (2 ^ (w - 1)) minus (number t) else if eqb c 43 then at_most (2 ^ (w - 1) - 1) pos (number t)
    else at_most (2 ^ (w - 1) - 1) pos (number (c ∷ t))) (apart digit 45 c tt d)
    ∙ ap (λ (b : Bool). if b then at_most (2 ^ (w - 1) - 1) pos (number t) else at_most (2 ^ (w - 1) - 1) pos (number (c ∷ t))) (apart digit 43 c tt d)

-- z lies in the range of w bits
abbrev pub ranged : ℕ → ℤ → Bool
ranged w (pos n) = leb n (2 ^ (w - 1) - 1)
ranged w (negsuc n) = leb (suc n) (2 ^ (w - 1))

kept : (limit : ℕ) (value : ℕ → ℤ) (n : ℕ) → T (leb n limit) → at_most limit value (Some n) ≡ Some (value n)
kept limit value n h = ap (λ (k : Bool). if k then Some (value n) else None) (is_true (leb n limit) h)

pub numeral_decimal : (w : ℕ) (z : ℤ) → T (ranged w z) → numeral w (decimal z) ≡ Some z
numeral_decimal w (pos n) h =
    numeral_digits w (digits n n []) (digits_digit n n [] tt) (digits_any n n [])
    ∙ ap (at_most (2 ^ (w - 1) - 1) pos) (digits_horner n n [] (le_refl n)) ∙ kept (2 ^ (w - 1) - 1) pos n h
numeral_decimal w (negsuc n) h =
    ap (at_most (2 ^ (w - 1)) minus) (number_some (digits (suc n) (suc n) []) (digits_any (suc n) (suc n) []) ∙ digits_horner (suc n) (suc n) [] (le_refl (suc n)))
    ∙ kept (2 ^ (w - 1)) minus (suc n) h
