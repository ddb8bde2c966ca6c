-- Laws of trimming, over any test of a byte: from behind the last byte decides.
use Rattle.std.specs.Prelude.{if◌then◌else◌}
use mathlib.Core.Path.{◌≡◌, refl, ap, ◌∙◌}
use mathlib.Core.Bool.{Bool, true, false, ◌||◌}
use mathlib.Core.List.{List, [], ◌∷◌, ◌++◌}
use Prim.Native.Nat.{ℕ, suc, ◌≤◌}
use native.Mathlib.Omega.{arith}
use lib.ListN.{length}
use Rattle.lexis.specs.Text.{Text, some_of, less_leading, unless_last, less_trailing, white, trim}

module _ (p : ℕ → Bool) where
  -- ── from behind ──

  kept : (a b : ℕ) (t : List ℕ) → unless_last p a (t ++ b ∷ []) ≡ a ∷ t ++ b ∷ []
  kept a b [] = refl
  kept a b (c ∷ t) = refl

  -- the last byte decides
  last : (t : List ℕ) (b : ℕ) → less_trailing p (t ++ b ∷ []) ≡ if p b then less_trailing p t else t ++ b ∷ []
  last [] b = refl
  last (a ∷ t) b = ap (unless_last p a) (last t b) ∙ by (p b)
    where
      by : (d : Bool) → unless_last p a (if d then less_trailing p t else t ++ b ∷ []) ≡ if d then unless_last p a (less_trailing p t) else a ∷ t ++ b ∷ []
      by true = refl
      by false = kept a b t

  pub last_goes : (t : List ℕ) (b : ℕ) → p b ≡ true → less_trailing p (t ++ b ∷ []) ≡ less_trailing p t
  last_goes t b e = last t b ∙ rw e

  pub last_stays : (t : List ℕ) (b : ℕ) → p b ≡ false → less_trailing p (t ++ b ∷ []) ≡ t ++ b ∷ []
  last_stays t b e = last t b ∙ rw e

  -- ── for callers: trimming never makes a text longer ──

  pub leading_within : (s : List ℕ) → length (less_leading p s) ≤ length s
  leading_within [] = omega arith
  leading_within (b ∷ s) = by (p b) (leading_within s)
    where
      by : (d : Bool) → length (less_leading p s) ≤ length s → length (if d then less_leading p s else b ∷ s) ≤ suc (length s)
      by true h = omega arith
      by false h = omega arith

  one_more : (b n : ℕ) (t : List ℕ) → length t ≤ n → length (unless_last p b t) ≤ suc n
  one_more b n (c ∷ t) h = omega arith
  one_more b n [] h = by (p b)
    where
      by : (d : Bool) → length (if d then [] else b ∷ []) ≤ suc n
      by true = omega arith
      by false = omega arith

  pub trailing_within : (s : List ℕ) → length (less_trailing p s) ≤ length s
  trailing_within [] = omega arith
  trailing_within (b ∷ s) = one_more b (length s) (less_trailing p s) (trailing_within s)

pub trim_within : (s : List ℕ) → length (trim s) ≤ length s
trim_within s = omega (arith, leading_within white s, trailing_within white (less_leading white s))

-- ── for callers: a byte of another test is never trimmed ──

module _ (p q : ℕ → Bool) (apart : (b : ℕ) → p b ≡ true → q b ≡ false) where
  pub leading_keeps : (s : Text) → some_of q (less_leading p s) ≡ some_of q s
  leading_keeps [] = refl
  leading_keeps (b ∷ s) = by (p b) (apart b) (leading_keeps s)
    where
      by : (d : Bool) → (d ≡ true → q b ≡ false) → some_of q (less_leading p s) ≡ some_of q s → some_of q (if d then less_leading p s else b ∷ s) ≡ q b || some_of q s
      by true f e = rw (f refl) e
      by false f e = refl

  pub trailing_keeps : (s : Text) → some_of q (less_trailing p s) ≡ some_of q s
  trailing_keeps [] = refl
  trailing_keeps (b ∷ s) = by (less_trailing p s) (trailing_keeps s)
    where
      last_one : (d : Bool) → (d ≡ true → q b ≡ false) → some_of q (if d then [] else b ∷ []) ≡ q b || false
      last_one true f = rw (f refl)
      last_one false f = refl

      by : (t : Text) → some_of q t ≡ some_of q s → some_of q (unless_last p b t) ≡ q b || some_of q s
      by [] e = last_one (p b) (apart b) ∙ ap (λ (d : Bool). q b || d) e
      by (c ∷ t) e = ap (λ (d : Bool). q b || d) e

pub trim_keeps : (q : ℕ → Bool) → ((b : ℕ) → white b ≡ true → q b ≡ false) → (s : Text) → some_of q (trim s) ≡ some_of q s
trim_keeps q apart s = trailing_keeps white q apart (less_leading white s) ∙ leading_keeps white q apart s
