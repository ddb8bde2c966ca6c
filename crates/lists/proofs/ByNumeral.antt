-- What an entry is, by the tests and answers that the code has of its trimmed text t, or by its numeral where that is known.
use Rattle.std.specs.Prelude.{if◌then◌else◌, Option, None, Some, option_map}
use mathlib.Core.Path.{◌≡◌, refl, sym, ap, ◌∙◌}
use mathlib.Core.Bool.{Bool, true, false, ◌&&◌}
use mathlib.Core.List.{[], ◌∷◌}
use Prim.Native.Nat.{ℕ, ◌+◌, ◌-◌}
use native.Mathlib.Omega.{arith}
use borrow.Author.Tests.{eqb-true}
use lib.Dec.{eqb}
use lib.IntN.{ℤ, negsuc}
use lib.ListN.{length, take, drop}
use Rattle.lexis.specs.Text.{Text, bytes, same, trim, until}
use Rattle.lexis.proofs.Lists.{rest}
use Rattle.numerals.proofs.Numbers.{absent}
use Rattle.numerals.proofs.Walking.{sought_part}
use Rattle.numerals.specs.Numeral.{numeral}
use Rattle.meaning.specs.Found.{as_read}
use Rattle.meaning.specs.Tile.{DYNAMIC, read_or, dimension}
use Rattle.meaning.specs.Views.{small}

-- DYNAMIC as the code writes it
pub dynamic : negsuc 9223372036854775807 ≡ DYNAMIC
unfolding DYNAMIC
dynamic = refl

module _ (s : Text) {t : Text} {b : Bool} (e : t ≡ trim s) (k : b ≡ same t (bytes "?")) where
  by_test : (d : Bool) → b ≡ d → dimension s ≡ if d then as_read DYNAMIC else read_or DYNAMIC (numeral 64 t)
  unfolding dimension
  by_test d m = λ i. if (sym (sym m ∙ k ∙ ap (λ (u : Text). same u (bytes "?")) e) i) then as_read DYNAMIC else read_or DYNAMIC (numeral 64 (sym e i))

  pub unknown : b ≡ true → as_read (negsuc 9223372036854775807) ≡ dimension s
  unknown m = ap as_read dynamic ∙ sym (by_test true m)

  pub number : {o : Option ℤ} → b ≡ false → o ≡ numeral 64 t → read_or (negsuc 9223372036854775807) o ≡ dimension s
  number m n = (λ i. read_or (dynamic i) (n i)) ∙ sym (by_test false m)

pub number32 : (d : ℤ) (s : Text) {t : Text} {o : Option ℤ} → t ≡ trim s → o ≡ numeral 32 t → read_or d o ≡ small d s
unfolding small
number32 d s e n = ap (read_or d) n ∙ ap (λ (u : Text). read_or d (numeral 32 u)) e

-- the machine's numbers are the integers
pub as_it_is : (o : Option ℤ) {r : Option ℤ} → option_map (λ (z : ℤ). z) o ≡ r → o ≡ r
as_it_is None e = e
as_it_is (Some z) e = e

-- ── where the numeral is known ──

-- `?` is no numeral
no_question : (t : Text) {z : ℤ} → Some z ≡ numeral 64 t → same t (bytes "?") ≡ false
no_question [] e = refl
no_question (b ∷ []) {z} e = by (eqb b 63) (eqb-true b 63)
  where
    by : (d : Bool) → (d ≡ true → b ≡ 63) → d && true ≡ false
    by true p = absurd (absent (sym (e ∙ ap (λ (n : ℕ). numeral 64 (n ∷ [])) (p refl))))
    by false p = refl
no_question (b ∷ c ∷ t) e = by (eqb b 63)
  where
    by : (d : Bool) → d && false ≡ false
    by true = refl
    by false = refl

pub known : (s : Text) {z : ℤ} → Some z ≡ numeral 64 (trim s) → as_read z ≡ dimension s
known s e = ap (read_or DYNAMIC) e ∙ sym (by_test s refl refl false (no_question (trim s) e))

-- a part of k bytes says what stands before its separator
pub part_says : (w : ℕ) (p : ℕ → Bool) (t : Text) {k : ℕ} {o : Option ℤ} → k ≡ length (until p t) → o ≡ numeral w (trim (until p t)) → o ≡ numeral w (trim (take k t))
part_says w p t u e = e ∙ sym (sought_part p t u w refl)

-- the same by a place in s
pub part_says_at : (w : ℕ) (p : ℕ → Bool) (s : Text) (i : ℕ) {k : ℕ} {o : Option ℤ} → k ≡ length (until p (take (length s - i) (drop i s)))
    → o ≡ numeral w (trim (until p (take (length s - i) (drop i s)))) → o ≡ numeral w (trim (take (i + k - i) (drop i s)))
part_says_at w p s i {k} u e =
    let n : k ≡ i + k - i = omega arith in
    part_says w p (take (length s - i) (drop i s)) u e ∙ ap (λ (t : Text). numeral w (trim (take k t))) (rest s i)
    ∙ ap (λ (m : ℕ). numeral w (trim (take m (drop i s)))) n
