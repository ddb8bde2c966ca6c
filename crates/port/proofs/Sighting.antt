-- Laws of a number that says what is seen of one keyword p, which is known by its byte j, with m bytes behind it.
use Rattle.std.specs.Prelude.{if◌then◌else◌, Option, None, Some}
use Prim.Native.Nat.{ℕ, suc, ◌+◌, ◌-◌, ◌≤◌, ◌<◌}
use native.Mathlib.Nat.{add-zero}
use native.Mathlib.Omega.{arith}
use mathlib.Core.Bool.{Bool, true, false}
use mathlib.Core.List.{[], ◌∷◌}
use mathlib.Core.Path.{◌≡◌, refl, sym, ap, subst, ◌∙◌}
use borrow.Author.Tests.{lt-ltb, le-ltb, ltb-true, ltb-false, eqb-false}
use lib.Dec.{eqb, ltb}
use lib.ListN.{length, take, drop, get_or, length-take, length-drop}
use Rattle.lexis.specs.Text.{Text, begins, cut, place, some_of, until}
use Rattle.lexis.proofs.Lists.{rest, view}
use Rattle.lexis.proofs.Seeking.{nowhere_short, cut_within}
use Rattle.port.specs.Seen.{told, Sight, key}
use Rattle.port.specs.Keys.{Spot}
use Rattle.port.proofs.Seeing as S

pub told_some : (n i : ℕ) → i < n → told n i ≡ Some i
told_some n i h = rw (lt-ltb i n h)

pub told_none : (n i : ℕ) → n ≤ i → told n i ≡ None
told_none n i h = rw (le-ltb i n h)

pub told_is : (n i : ℕ) {j : ℕ} → told n i ≡ Some j → i ≡ j
told_is n i {j} e = by (ltb i n) e
  where
    by : (d : Bool) → (if d then Some i else None) ≡ Some j → i ≡ j
    by true e = cc
    by false e = let z : ◌≡◌ {A = ℕ} 0 1 = cc in let f : ⊥ = omega arith in absurd f

pub told_none_is : (n i : ℕ) → told n i ≡ None → n ≤ i
told_none_is n i e = by (ltb i n) (ltb-false i n) e
  where
    by : (d : Bool) → (d ≡ false → n ≤ i) → (if d then Some i else None) ≡ None → n ≤ i
    by true f e = let z : ◌≡◌ {A = ℕ} 0 1 = cc in let f : ⊥ = omega arith in absurd f
    by false f e = f refl

-- a place in a text that is no longer than N is one below N
pub narrow : (N n : ℕ) (p c : Text) → told N n ≡ place (cut p c) → 0 < length p → length c ≤ N → told (length c) n ≡ place (cut p c)
narrow N n p c e l h = by (place (cut p c)) e (λ k q. cut_within p c k q)
  where
    by : (o : Option ℕ) → told N n ≡ o → ((k : ℕ) → o ≡ Some k → k + length p ≤ length c) → told (length c) n ≡ o
    by None e f = told_none (length c) n (let g = told_none_is N n e in omega arith)
    by (Some k) e f = let z = told_is N n e in let w = f k refl in told_some (length c) n (omega arith) ∙ ap Some z

-- ── one keyword, sighted ──

module _ {p : Text} {m : ℕ} (h : m < length p) where
  pub unseen : (s : Text) → Sight p m s 0 (length s)
  unseen s = record { is = told_none (length s) (length s) (omega arith) ∙ sym (nowhere_short p (take (0 + m) s) (let l = length-take (0 + m) s in omega arith)) }

  module _ {s : Text} {i was : ℕ} (e : Sight p m s i was) where
    pub already : was < length s → Sight p m s (i + 1) was
    already l = record { is = told_some (length s) was l ∙ sym (S.stays p s (length p - m - 1) m (omega arith) i was (sym e.is ∙ told_some (length s) was l)) }

    pub too_early : i < length p - m - 1 → Sight p m s (i + 1) was
    too_early l = record { is = e.is ∙ sym (S.early p s (length p - m - 1) m (omega arith) i l) }

    module _ (l : length p - m - 1 ≤ i) {d : Bool} (g : d ≡ begins p (take (length s - (i - (length p - m - 1))) (drop (i - (length p - m - 1)) s))) where
      stood : begins p (drop (i - (length p - m - 1)) s) ≡ d
      stood = sym (g ∙ ap (begins p) (rest s (i - (length p - m - 1))))

      pub there : length s ≤ was → i < length s → d ≡ true → Sight p m s (i + 1) (i - (length p - m - 1))
      there w k t = record {
        is = told_some (length s) (i - (length p - m - 1)) (omega arith)
            ∙ sym (S.sighted p s (length p - m - 1) m (omega arith) i l (sym e.is ∙ told_none (length s) was w) (stood ∙ t));
      }

      pub not_there : d ≡ false → Sight p m s (i + 1) was
      not_there t = record { is = e.is ∙ sym (S.missed p s (length p - m - 1) m (omega arith) i l (stood ∙ t)) }

-- ── one keyword, passed over ──

-- what every byte that is not hot keeps is kept up to the next hot one
module _ (hot : ℕ → Bool) (s : Text) (P : ℕ → Type 0) (f : (j : ℕ) → hot (get_or s j 0) ≡ false → P j → P (j + 1)) where
  walk : (t : Text) (i : ℕ) → t ≡ drop i s → P i → P (i + length (until hot t))
  walk [] i e g = subst P (sym (add-zero i)) g
  walk (b ∷ t) i e g = by (hot b) refl (walk t (i + 1))
    where
      here : b ∷ t ≡ get_or s i 0 ∷ drop (i + 1) s
      here = e ∙ view s i (let l = length-drop i s in let m = ap length e in omega arith)

      by : (d : Bool) → hot b ≡ d → (t ≡ drop (i + 1) s → P (i + 1) → P (i + 1 + length (until hot t))) → P (i + length (if d then [] else b ∷ until hot t))
      by true k w = subst P (sym (add-zero i)) g
      by false k w =
          let n : i + 1 + length (until hot t) ≡ i + suc (length (until hot t)) = omega arith in
          subst P n (w (ap (drop 1) here) (f i (sym (ap (λ (l : Text). hot (get_or l 0 0)) here) ∙ k) g))

  pub run : (i : ℕ) → P i → P (i + length (until hot (drop i s)))
  run i g = walk (drop i s) i refl g

-- m bytes stand behind one of p
module _ {p s : Text} {m i n : ℕ} (e : Sight p m s i n) (l : ltb m (length p) ≡ true) where
  whole : length p - suc m + suc m ≡ length p
  whole = let h = ltb-true m (length p) l in omega arith

  pub other : (get_or s i 0 ≡ key p m → ⊥) → Sight p m s (i + 1) n
  other f = record { is = e.is ∙ sym (S.calm p s (length p - suc m) m whole i f) }

  -- another byte
  pub beside : {x : ℕ} → get_or s i 0 ≡ x → eqb x (key p m) ≡ false → Sight p m s (i + 1) n
  beside {x} b f = other (λ g. eqb-false x (key p m) f (sym b ∙ g))

  -- at the end of the content, and of the text
  pub closed : get_or s i 0 ≡ 62 → some_of (eqb 62) p ≡ false → i ≤ length s → Spot p (take i s) n
  closed g f k = let h = ltb-true m (length p) l in record {
    is = narrow (length s) n p (take i s) (e.is ∙ S.fenced 62 p s i m f g (omega arith)) (omega arith) (let t = length-take i s in omega arith);
  }

  pub ended : length s ≤ i → Spot p (take (length s) s) n
  ended g = let h = ltb-true m (length p) l in record {
    is = narrow (length s) n p (take (length s) s) (e.is ∙ S.whole p s (i + m) (omega arith) ∙ sym (S.whole p s (length s) (omega arith))) (omega arith)
        (let t = length-take (length s) s in omega arith);
  }
