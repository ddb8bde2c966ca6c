-- Laws of dropping a text m, that is not empty, over and over from the end: the last `length m` bytes decide.
use Rattle.std.specs.Prelude.{if◌then◌else◌, nat_eq}
use Rattle.std.specs.Cmp.Lexicographic.{pointwise}
use Rattle.std.proofs.Common.{take-append-drop}
use Prim.Native.Nat.{ℕ, zero, suc, ◌+◌, ◌-◌, ◌≤◌, ◌<◌}
use native.Mathlib.Omega.{arith}
use mathlib.Core.Bool.{Bool, true, false, ◌&&◌}
use mathlib.Core.List.{List, [], ◌∷◌, ◌++◌}
use mathlib.Core.Path.{◌≡◌, refl, sym, ap, ◌∙◌}
use lib.Dec.{eqb, leb}
use lib.ListN.{length, take, drop, length-drop}
use borrow.Author.Tests.{eq-eqb, leb-true, leb-false}
use Rattle.lexis.specs.Text.{begins}
use Rattle.lexis.proofs.Seeking.{begins_within, turned}
use Rattle.meaning.specs.Parts.{only, less_repeats}

-- ── a text in front of another ──

begins_self : (m : List ℕ) → begins m m ≡ true
begins_self [] = refl
begins_self (c ∷ m) = rw (eq-eqb c c refl, begins_self m)

begins_front : (m u v : List ℕ) → length m ≤ length u → begins m (u ++ v) ≡ begins m u
begins_front [] u v h = refl
begins_front (c ∷ m) [] v h = let f : ⊥ = omega arith in absurd f
begins_front (c ∷ m) (b ∷ u) v h = ap (λ (d : Bool). eqb c b && d) (begins_front m u v (omega arith))

begins_short : (m s : List ℕ) → length s < length m → begins m s ≡ false
begins_short m s h = by (begins m s) (begins_within m s)
  where
    by : (d : Bool) → (d ≡ true → length m ≤ length s) → d ≡ false
    by true w = let k = w refl in let f : ⊥ = omega arith in absurd f
    by false w = refl

-- the library's test of an end
ends : (v m : List ℕ) → length v ≡ length m → pointwise nat_eq v m ≡ begins m v
ends [] [] e = refl
ends [] (c ∷ m) e = let f : ⊥ = omega arith in absurd f
ends (b ∷ v) [] e = let f : ⊥ = omega arith in absurd f
ends (b ∷ v) (c ∷ m) e = λ i. turned b c i && ends v m (let k : length v ≡ length m = omega arith in k) i

module _ (m : List ℕ) where
  -- ── m over and over, k bytes still to be passed over ──

  passed : (s : List ℕ) → only m (length s) s ≡ true
  passed [] = refl
  passed (b ∷ s) = passed s

  too_short : (k : ℕ) (s : List ℕ) → length s < k → only m k s ≡ false
  too_short zero s h = let f : ⊥ = omega arith in absurd f
  too_short (suc k) [] h = refl
  too_short (suc k) (b ∷ s) h = too_short k s (omega arith)

  -- a part of m is left
  left_over : (k : ℕ) (s : List ℕ) → k < length s → length s < k + length m → only m k s ≡ false
  left_over zero [] h l = let f : ⊥ = omega arith in absurd f
  left_over zero (b ∷ s) h l = rw (begins_short m (b ∷ s) (omega arith))
  left_over (suc k) [] h l = let f : ⊥ = omega arith in absurd f
  left_over (suc k) (b ∷ s) h l = left_over k s (omega arith) (omega arith)

  -- v, as long as m, stands at the end
  only_last : (u v : List ℕ) (k : ℕ) → length v ≡ length m → k < length m → only m k (u ++ v) ≡ only m k u && begins m v
  only_last [] [] k e h = let f : ⊥ = omega arith in absurd f
  only_last [] (b ∷ v) zero e h = by (begins m (b ∷ v)) (ap (λ (k : ℕ). only m k v) (omega arith) ∙ passed v)
    where
      by : (d : Bool) → only m (length m - 1) v ≡ true → (if d then only m (length m - 1) v else false) ≡ d
      by true p = p
      by false p = refl
  only_last [] (b ∷ v) (suc k) e h = left_over k v (omega arith) (omega arith)
  only_last (b ∷ u) v (suc k) e h = only_last u v k e (omega arith)
  only_last (b ∷ u) v zero e h = by (leb (length m) (suc (length u))) (leb-true _ _) (leb-false _ _) (only_last u v (length m - 1) e (omega arith))
    where
      same : (d x y z : Bool) → z ≡ x && y → (if d then z else false) ≡ (if d then x else false) && y
      same true x y z p = p
      same false x y z p = refl

      neither : (d : Bool) → (if d then false else false) ≡ false
      neither true = refl
      neither false = refl

      by : (t : Bool) → (t ≡ true → length m ≤ suc (length u)) → (t ≡ false → suc (length u) < length m)
          → only m (length m - 1) (u ++ v) ≡ only m (length m - 1) u && begins m v → only m 0 (b ∷ u ++ v) ≡ only m 0 (b ∷ u) && begins m v
      by true p q i = rw (begins_front m (b ∷ u) v (p refl)) (same (begins m (b ∷ u)) (only m (length m - 1) u) (begins m v) (only m (length m - 1) (u ++ v)) i)
      by false p q i = let l = q refl in rw (begins_short m (b ∷ u) l, i, too_short (length m - 1) u (omega arith)) (neither (begins m (b ∷ u ++ v)))

  -- ── for callers ──

  pub repeats_within : (s : List ℕ) → length (less_repeats m s) ≤ length s
  repeats_within [] = omega arith
  repeats_within (b ∷ s) = by (only m 0 (b ∷ s)) (repeats_within s)
    where
      by : (d : Bool) → length (less_repeats m s) ≤ length s → length (if d then [] else b ∷ less_repeats m s) ≤ suc (length s)
      by true h = omega arith
      by false h = omega arith

  pub repeats_short : (s : List ℕ) → length s < length m → less_repeats m s ≡ s
  repeats_short [] h = refl
  repeats_short (b ∷ s) h = rw (left_over 0 (b ∷ s) (omega arith) (omega arith), repeats_short s (omega arith))

  module _ (h : 0 < length m) where
    -- a part at the end, as long as m
    pub repeats_last : (u v : List ℕ) → length v ≡ length m → less_repeats m (u ++ v) ≡ if begins m v then less_repeats m u else u ++ v
    repeats_last [] [] e = let f : ⊥ = omega arith in absurd f
    repeats_last [] (b ∷ v) e = rw (only_last [] (b ∷ v) 0 e h, repeats_short v (omega arith))
    repeats_last (b ∷ u) v e = rw (only_last (b ∷ u) v 0 e h, repeats_last u v e) (by (only m 0 (b ∷ u)) (begins m v))
      where
        by : (x d : Bool) → (if x && d then [] else b ∷ (if d then less_repeats m u else u ++ v)) ≡ if d then (if x then [] else b ∷ less_repeats m u) else b ∷ u ++ v
        by true true = refl
        by true false = refl
        by false true = refl
        by false false = refl

    pub repeats_dropped : (u : List ℕ) → less_repeats m (u ++ m) ≡ less_repeats m u
    repeats_dropped u = repeats_last u m refl ∙ rw (begins_self m)

    pub repeats_kept : (u v : List ℕ) → length v ≡ length m → begins m v ≡ false → less_repeats m (u ++ v) ≡ u ++ v
    repeats_kept u v e n = repeats_last u v e ∙ rw n

  -- ── a text, by the part at its end that is as long as m ──

  module _ (h : 0 < length m) (s : List ℕ) where
    abbrev front : List ℕ
    front = take (length s - length m) s

    abbrev ending : List ℕ
    ending = drop (length s - length m) s

    by_ending : length m ≤ length s → less_repeats m s ≡ if pointwise nat_eq ending m then less_repeats m front else s
    by_ending l =
        let n : length ending ≡ length m = length-drop (length s - length m) s ∙ omega arith in
        let p : front ++ ending ≡ s = take-append-drop (length s - length m) s in
        ap (less_repeats m) (sym p) ∙ repeats_last h front ending n
        ∙ ap (λ (d : Bool). if d then less_repeats m front else front ++ ending) (sym (ends ending m n))
        ∙ ap (λ (t : List ℕ). if pointwise nat_eq ending m then less_repeats m front else t) p

    pub strip_goes : length m ≤ length s → pointwise nat_eq ending m ≡ true → less_repeats m s ≡ less_repeats m front
    strip_goes l t = by_ending l ∙ rw t

    pub strip_stays : pointwise nat_eq ending m ≡ false → less_repeats m s ≡ s
    strip_stays t = by (leb (length m) (length s)) (leb-true (length m) (length s)) (leb-false (length m) (length s))
      where
        by : (d : Bool) → (d ≡ true → length m ≤ length s) → (d ≡ false → length s < length m) → less_repeats m s ≡ s
        by true f g = by_ending (f refl) ∙ rw t
        by false f g = repeats_short s (g refl)
