-- Laws of removing a text m, that is not empty, from a text: it is removed at its first place, and then from what follows.
use Rattle.std.specs.Prelude.{Option, if◌then◌else◌, None, Some}
use Prim.Native.Nat.{ℕ, zero, suc, ◌+◌, ◌-◌, ◌≤◌, ◌<◌}
use native.Mathlib.Numerals.{sub-one}
use native.Mathlib.Omega.{arith}
use mathlib.Core.Bool.{Bool, true, false, false≢true}
use mathlib.Core.List.{List, [], ◌∷◌, ◌++◌, append_assoc}
use mathlib.Core.Path.{◌≡◌, refl, sym, ap, subst, ◌∙◌}
use lib.ListN.{length, take, drop, length-append, length-drop}
use lib.Seq.{length-take-le}
use Rattle.lexis.specs.Text.{Text, bytes, begins, after, Cut, nowhere, at, later, cut, found, place, occurs}
use Rattle.lexis.proofs.Lists.{rest}
use Rattle.lexis.proofs.Seeking.{after_drop, Reach, reach, cut_at, cut_within, cut_nowhere}
use Rattle.meaning.specs.Parts.{less_all, remove}
use Rattle.meaning.specs.Ordinary.{mark}

-- k bytes are passed over
skipped : (m : List ℕ) (k : ℕ) (s : List ℕ) → less_all m k s ≡ remove m (drop k s)
skipped m zero s = refl
skipped m (suc k) [] = refl
skipped m (suc k) (b ∷ s) = skipped m k s

all_within : (m : List ℕ) (k : ℕ) (s : List ℕ) → length (less_all m k s) ≤ length s
all_within m k [] = omega arith
all_within m (suc k) (b ∷ s) = omega (arith, all_within m k s)
all_within m zero (b ∷ s) = by (begins m (b ∷ s)) (all_within m (length m - 1) s) (all_within m zero s)
  where
    by : (d : Bool) → length (less_all m (length m - 1) s) ≤ length s → length (less_all m zero s) ≤ length s
        → length (if d then less_all m (length m - 1) s else b ∷ less_all m zero s) ≤ suc (length s)
    by true h k = omega arith
    by false h k = omega arith

pub remove_within : (m s : List ℕ) → length (remove m s) ≤ length s
remove_within m s = all_within m 0 s

-- what a cut of s at m says of r, which is s without m
abbrev Parts : List ℕ → List ℕ → List ℕ → Cut → Type 0
Parts m r s nowhere = r ≡ s
Parts m r s (at u t) = r ≡ u ++ remove m t

onward : (m r s : List ℕ) (b : ℕ) (c : Cut) → Parts m r s c → Parts m (b ∷ r) (b ∷ s) (later b c)
onward m r s b nowhere p = ap (λ (l : List ℕ). b ∷ l) p
onward m r s b (at u t) p = ap (λ (l : List ℕ). b ∷ l) p

module _ (m : List ℕ) (h : 0 < length m) where
  parts : (s : List ℕ) → Parts m (remove m s) s (cut m s)
  parts [] = by (begins m [])
    where
      by : (d : Bool) → Parts m [] [] (if d then at [] [] else nowhere)
      by true = refl
      by false = refl
  parts (b ∷ s) = by (begins m (b ∷ s)) (after_drop m (b ∷ s)) (parts s)
    where
      less : (n : ℕ) → 0 < n → drop (n - 1) s ≡ drop n (b ∷ s)
      less zero h = elim h [ ]
      less (suc n) h = rw sub-one

      by : (d : Bool) → (d ≡ true → after m (b ∷ s) ≡ drop (length m) (b ∷ s)) → Parts m (remove m s) s (cut m s)
          → Parts m (if d then less_all m (length m - 1) s else b ∷ remove m s) (b ∷ s) (if d then at [] (after m (b ∷ s)) else later b (cut m s))
      by true e p = skipped m (length m - 1) s ∙ ap (remove m) (less (length m) h ∙ sym (e refl))
      by false e p = onward m (remove m s) s b (cut m s) p

  -- ── for callers ──

  module _ (s : List ℕ) where
    pub remove_none : cut m s ≡ nowhere → remove m s ≡ s
    remove_none e = subst (Parts m (remove m s) s) e (parts s)

    pub remove_at : (u t : List ℕ) → cut m s ≡ at u t → remove m s ≡ u ++ remove m t
    remove_at u t e = subst (Parts m (remove m s) s) e (parts s)

    pub remove_without : occurs m s ≡ false → remove m s ≡ s
    remove_without e = by (cut m s) (parts s) e
      where
        by : (c : Cut) → Parts m (remove m s) s c → found c ≡ false → remove m s ≡ s
        by nowhere p e = p
        by (at u t) p e = absurd (false≢true (sym e))

    -- a removal takes one m away at least
    pub remove_less : occurs m s ≡ true → length (remove m s) + length m ≤ length s
    remove_less e = by (cut m s) (parts s) (reach m s) e
      where
        by : (c : Cut) → Parts m (remove m s) s c → Reach m s c → found c ≡ true → length (remove m s) + length m ≤ length s
        by nowhere p r e = absurd (false≢true e)
        by (at u t) p r e = omega (arith, ap length p ∙ length-append u (remove m t), remove_within m t, ap length r.back ∙ length-drop (length u + length m) s, r.room)

-- ── the mark ──

-- its bytes, as the code seeks them
abbrev pub sought : Text
sought = bytes ", #cuda_tile.ptr_attr<none>"

pub mark_is : mark ≡ sought
unfolding mark
mark_is = refl

-- what the seeker's answer says
module _ {f : Option ℕ} (t : List ℕ) (e : f ≡ place (cut mark t)) where
  pub seen : {i : ℕ} → f ≡ Some i → place (cut sought t) ≡ Some i
  seen g = ap (λ (m : List ℕ). place (cut m t)) (sym mark_is) ∙ sym e ∙ g

  pub seen_within : {i : ℕ} → f ≡ Some i → i + 27 ≤ length t
  seen_within {i} g = cut_within sought t i (seen g)

  pub unseen : f ≡ None → place (cut sought t) ≡ None
  unseen g = ap (λ (m : List ℕ). place (cut m t)) (sym mark_is) ∙ sym e ∙ g

-- the first place, as it was told
module _ (t : List ℕ) {i : ℕ} (e : place (cut mark t) ≡ Some i) where
  pub first_sought : place (cut sought t) ≡ Some i
  first_sought = ap (λ (m : List ℕ). place (cut m t)) (sym mark_is) ∙ e

  pub first_within : i + 27 ≤ length t
  first_within = cut_within sought t i first_sought

pub mark_length : length mark ≡ 27
unfolding mark
mark_length = refl

-- ── a copy of s into the room r, behind its first a bytes ──

-- up to the place e: what u is then
abbrev pub Copied : List ℕ → List ℕ → List ℕ → ℕ → ℕ → Type 0
Copied s r u a e = (e ≡ a + length s) × (take e u ≡ take a r ++ s)

-- ── a removal into a room: n bytes of the answer stand in front, and t is left ──

pub record Left (m text room : List ℕ) (n : ℕ) (t : List ℕ) : Type 0 where
  pub fits : n + length t ≤ length room
  pub same : take n room ++ remove m t ≡ remove m text

pub all_left : (m text room : List ℕ) → length text ≤ length room → Left m text room 0 text
all_left m text room h = record { fits = omega arith; same = refl }

pub shorter : (m t : List ℕ) (i : ℕ) → 0 < length m → place (cut m t) ≡ Some i → length (take (length t - (i + length m)) (drop (i + length m) t)) < length t
shorter m t i h p = rw (rest t (i + length m), length-drop) (omega (arith, cut_within m t i p))

module _ {m text room t : List ℕ} {n : ℕ} (u : List ℕ) (e : ℕ) (h : 0 < length m) (k : length u ≡ length room) (l : Left m text room n t) where
  pub less_left : (i : ℕ) → place (cut m t) ≡ Some i → Copied (take i t) room u n e
      → Left m text u e (take (length t - (i + length m)) (drop (i + length m) t))
  less_left i p c = record {
    fits = rw rest (omega (arith, length-take-le i t (omega (arith, cut_within m t i p)), length-drop (i + length m) t, cut_within m t i p, c.0, l.fits));
    same = rw (rest t (i + length m), c.1, append_assoc (take n room) (take i t) (remove m (drop (i + length m) t)))
        (ap (λ (x : List ℕ). take n room ++ x) (sym (remove_at m h t (take i t) (drop (i + length m) t) (cut_at m t i p))) ∙ l.same);
  }

  pub none_left : place (cut m t) ≡ None → Copied t room u n e → (e ≤ length u) × (take e u ≡ remove m text)
  none_left p c = (omega (arith, c.0, l.fits), c.1 ∙ ap (λ (x : List ℕ). take n room ++ x) (sym (remove_none m h t (cut_nowhere m t p))) ∙ l.same)
