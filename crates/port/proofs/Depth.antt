-- Laws of the matching bracket: how many stand open after a byte, the match one byte on, and past all bytes that are no anchors.
use Rattle.std.specs.Prelude.{if◌then◌else◌, Option, None, Some}
use Prim.Native.Nat.{ℕ, zero, suc, ◌+◌, ◌-◌, ◌≤◌, ◌<◌}
use native.Mathlib.Nat.{add-zero}
use native.Mathlib.Numerals.{add-one, sub-one}
use native.Mathlib.Omega.{arith}
use mathlib.Core.Bool.{Bool, true, false}
use mathlib.Core.List.{List, [], ◌∷◌}
use mathlib.Core.Path.{◌≡◌, refl, sym, ap, ◌∙◌}
use borrow.Author.Tests.{ne_eqb}
use lib.Dec.{eqb}
use lib.ListN.{length, drop, get_or, drop_of_length-le}
use lib.Seq.{drop-drop}
use Rattle.lexis.specs.Text.{Cut, nowhere, at, later, place, until}
use Rattle.lexis.proofs.Lists.{view}
use Rattle.lexis.proofs.Seeking.{shifted, unshifted}
use Rattle.lexis.proofs.Passing.{shifted_twice, one_later}
use Rattle.meaning.specs.Parts.{shallower, depth, close}

module _ (d b : ℕ) where
  pub deeper : b ≡ 60 → depth d b ≡ Some (d + 1)
  deeper e = rw (e, add-one d)

  pub level : (b ≡ 60 → ⊥) → (b ≡ 62 → ⊥) → depth d b ≡ Some d
  level e f = rw (ne_eqb b 60 e, ne_eqb b 62 f)

  pub closes : b ≡ 62 → d ≡ 0 → depth d b ≡ None
  closes e f = rw (e, f)

  pub shallow : b ≡ 62 → (d ≡ 0 → ⊥) → depth d b ≡ Some (d - 1)
  shallow e f = rw e (by d f)
    where
      by : (d : ℕ) → (d ≡ 0 → ⊥) → depth d 62 ≡ Some (d - 1)
      by zero f = absurd (f refl)
      by (suc d) f = rw sub-one

-- no deeper than one more
pub grows : (d b : ℕ) {e : ℕ} → depth d b ≡ Some e → e ≤ d + 1
grows d b {e} h = by (eqb b 60) (eqb b 62) d h
  where
    by : (x y : Bool) (d : ℕ) → (if x then Some (suc d) else if y then shallower d else Some d) ≡ Some e → e ≤ d + 1
    by true y d h = let k : suc d ≡ e = cc in omega arith
    by false true zero h = let z : ◌≡◌ {A = ℕ} 0 1 = cc in let f : ⊥ = omega arith in absurd f
    by false true (suc d) h = let k : d ≡ e = cc in omega arith
    by false false d h = let k : d ≡ e = cc in omega arith

abbrev pub match : List ℕ → ℕ → ℕ → Option ℕ
match s d i = shifted i (place (close d (drop i s)))

abbrev pub next : List ℕ → ℕ → Option ℕ → Option ℕ
next s i None = Some i
next s i (Some e) = match s e (i + 1)

further : (b i : ℕ) (c : Cut) → shifted i (place (later b c)) ≡ shifted (i + 1) (place c)
further b i nowhere = refl
further b i (at u t) = ap Some (omega arith)

module _ (s : List ℕ) (d i : ℕ) where
  pub step : (o : Option ℕ) → i < length s → depth d (get_or s i 0) ≡ o → match s d i ≡ next s i o
  step o h p = rw (view s i h) (by (depth d (get_or s i 0)) ∙ ap (next s i) p)
    where
      by : (o : Option ℕ) → shifted i (place (elim o [ None ↦ at [] (drop (i + 1) s) | Some e ↦ later (get_or s i 0) (close e (drop (i + 1) s)) ])) ≡ next s i o
      by None = ap Some (add-zero i)
      by (Some e) = further (get_or s i 0) i (close e (drop (i + 1) s))

  pub ended : length s ≤ i → match s d i ≡ None
  ended h = rw (drop_of_length-le s h)

-- bytes that are not hot are no brackets
module _ (hot : ℕ → Bool) (g : (d b : ℕ) → hot b ≡ false → depth d b ≡ Some d) where
  abbrev far : List ℕ → ℕ
  far l = length (until hot l)

  over : (d : ℕ) (l : List ℕ) → place (close d l) ≡ shifted (far l) (place (close d (drop (far l) l)))
  over d [] = unshifted (place (close d []))
  over d (b ∷ l) = by (hot b) refl (over d l)
    where
      n : Bool → ℕ
      n k = length (if k then [] else b ∷ until hot l)

      by : (k : Bool) → hot b ≡ k → place (close d l) ≡ shifted (far l) (place (close d (drop (far l) l)))
          → place (close d (b ∷ l)) ≡ shifted (n k) (place (close d (drop (n k) (b ∷ l))))
      by true e o = unshifted (place (close d (b ∷ l)))
      by false e o = ap (λ (z : Option ℕ). place (elim z [ None ↦ at [] l | Some e ↦ later b (close e l) ])) (g d b e)
          ∙ one_later b (close d l) ∙ ap (shifted 1) o ∙ shifted_twice 1 (far l) (place (close d (drop (far l) l)))
          ∙ ap (λ (k : ℕ). shifted k (place (close d (drop (far l) l)))) (omega arith)

  pub sought : (s : List ℕ) (d k : ℕ) {i : ℕ} → i ≡ k + far (drop k s) → match s d k ≡ match s d i
  sought s d k e = ap (shifted k) (over d (drop k s)) ∙ shifted_twice k (far (drop k s)) (place (close d (drop (far (drop k s)) (drop k s))))
      ∙ ap (λ (t : List ℕ). shifted (k + far (drop k s)) (place (close d t))) (drop-drop (far (drop k s)) k s)
      ∙ ap (λ (n : ℕ). match s d n) (sym e)
