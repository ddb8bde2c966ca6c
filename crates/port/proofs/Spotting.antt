-- The first place of the mark, by two of its bytes: a mark has a `#`, and its one `>` at its end.
-- So the first `>` behind a `#` ends the first mark, or no mark stands before it.
use Rattle.std.specs.Prelude.{if◌then◌else◌, None, Some}
use mathlib.Core.Path.{◌≡◌, refl, sym, ap, ◌∙◌}
use mathlib.Core.Bool.{Bool, true, false, ◌&&◌, false≢true}
use mathlib.Core.List.{List, [], ◌∷◌}
use Prim.Native.Nat.{ℕ, zero, suc, ◌+◌, ◌-◌, ◌≤◌, ◌<◌}
use native.Mathlib.Nat.{add-zero}
use native.Mathlib.Omega.{arith}
use borrow.Author.Tests.{eqb-true, eqb-false}
use lib.Dec.{eqb}
use lib.ListN.{length, take, drop, get_or, length-drop}
use lib.Seq.{get_or-drop}
use Rattle.lexis.specs.Text.{begins, cut, place, until}
use Rattle.lexis.proofs.Lists.{rest}
use Rattle.lexis.proofs.Seeking.{right, shifted, hit, miss, gone, begins_within}
use Rattle.port.proofs.Removal.{sought}

-- ── bytes before the first x, and there ──

before : (x : ℕ) (l : List ℕ) (j : ℕ) → j < length (until (eqb x) l) → get_or l j 0 ≡ x → ⊥
before x [] j h e = omega arith
before x (b ∷ l) zero h e = by (eqb x b) (eqb-false x b) h
  where
    by : (d : Bool) → (d ≡ false → x ≡ b → ⊥) → 0 < length (if d then [] else b ∷ until (eqb x) l) → ⊥
    by true f h = omega arith
    by false f h = f refl (sym e)
before x (b ∷ l) (suc j) h e = by (eqb x b) (λ k. before x l j k e) h
  where
    by : (d : Bool) → (j < length (until (eqb x) l) → ⊥) → suc j < length (if d then [] else b ∷ until (eqb x) l) → ⊥
    by true f h = omega arith
    by false f h = f (omega arith)

there : (x : ℕ) (l : List ℕ) → length (until (eqb x) l) < length l → get_or l (length (until (eqb x) l)) 0 ≡ x
there x [] h = let f : ⊥ = omega arith in absurd f
there x (b ∷ l) h = by (eqb x b) (eqb-true x b) (there x l) h
  where
    by : (d : Bool) → (d ≡ true → x ≡ b) → (length (until (eqb x) l) < length l → get_or l (length (until (eqb x) l)) 0 ≡ x)
        → length (if d then [] else b ∷ until (eqb x) l) < suc (length l) → get_or (b ∷ l) (length (if d then [] else b ∷ until (eqb x) l)) 0 ≡ x
    by true f r h = sym (f refl)
    by false f r h = r (omega arith)

-- the same from the place i on, where e is the place that is sought
module _ (x : ℕ) (s : List ℕ) (i : ℕ) {e : ℕ} (k : e ≡ i + length (until (eqb x) (drop i s))) where
  none_before : (q : ℕ) → i ≤ q → q < e → get_or s q 0 ≡ x → ⊥
  none_before q l h g =
      let n : i + (q - i) ≡ q = omega arith in
      before x (drop i s) (q - i) (omega arith) (get_or-drop i s (q - i) 0 ∙ ap (λ (m : ℕ). get_or s m 0) n ∙ g)

  stands_there : e < length s → get_or s e 0 ≡ x
  stands_there h = let d = length-drop i s in
      ap (λ (m : ℕ). get_or s m 0) k ∙ sym (get_or-drop i s (length (until (eqb x) (drop i s))) 0) ∙ there x (drop i s) (omega arith)

-- ── a text that stands at a place ──

left : (x y : Bool) → x && y ≡ true → x ≡ true
left true y e = refl
left false y e = e

byte : (m t : List ℕ) (j : ℕ) → begins m t ≡ true → j < length m → get_or t j 0 ≡ get_or m j 0
byte [] t j e h = let f : ⊥ = omega arith in absurd f
byte (c ∷ m) [] j e h = absurd (false≢true e)
byte (c ∷ m) (b ∷ t) zero e h = sym (eqb-true c b (left (eqb c b) (begins m t) e))
byte (c ∷ m) (b ∷ t) (suc j) e h = byte m t j (right (eqb c b) (begins m t) e) (omega arith)

refuted : (d : Bool) → (d ≡ true → ⊥) → d ≡ false
refuted true f = absurd (f refl)
refuted false f = refl

not_less : {m n : ℕ} → (n < m → ⊥) → m ≤ n
not_less f = omega arith

module _ (m s : List ℕ) where
  -- it stands nowhere in the next k places
  skip : (i k : ℕ) → i + k ≤ length s → ((p : ℕ) → i ≤ p → p < i + k → begins m (drop p s) ≡ true → ⊥)
      → shifted i (place (cut m (drop i s))) ≡ shifted (i + k) (place (cut m (drop (i + k) s)))
  skip i zero h f = ap (λ (n : ℕ). shifted n (place (cut m (drop n s)))) (sym (add-zero i))
  skip i (suc k) h f =
      miss m s i (omega arith) (refuted (begins m (drop i s)) (f i (omega arith) (omega arith)))
      ∙ skip (i + 1) k (omega arith) (λ p a b. f p (omega arith) (omega arith))
      ∙ (let n : i + 1 + k ≡ i + suc k = omega arith in ap (λ (n : ℕ). shifted n (place (cut m (drop n s)))) n)

  -- up to the place e
  skip_to : (i e : ℕ) → i ≤ e → e ≤ length s → ((p : ℕ) → i ≤ p → p < e → begins m (drop p s) ≡ true → ⊥)
      → shifted i (place (cut m (drop i s))) ≡ shifted e (place (cut m (drop e s)))
  skip_to i e l h f =
      let n : i + (e - i) ≡ e = omega arith in
      skip i (e - i) (omega arith) (λ p a b. f p a (omega arith)) ∙ ap (λ (n : ℕ). shifted n (place (cut m (drop n s)))) n

  nowhere_from : (i : ℕ) → i ≤ length s → ((p : ℕ) → i ≤ p → begins m (drop p s) ≡ true → ⊥) → shifted i (place (cut m (drop i s))) ≡ None
  nowhere_from i l f =
      skip_to i (length s) l (omega arith) (λ p a b. f p a)
      ∙ gone m s (length s) (omega arith) (refuted (begins m (drop (length s) s)) (f (length s) l))

-- ── the mark, from the place i on: h is the place of the next `#`, e that of the next `>` behind it ──

module _ (s : List ℕ) (p : ℕ) (g : begins sought (drop p s) ≡ true) where
  inside : p + 27 ≤ length s
  inside = let a = begins_within sought (drop p s) g in let b = length-drop p s in omega arith

  at_byte : (j : ℕ) → j < 27 → get_or s (p + j) 0 ≡ get_or sought j 0
  at_byte j h = sym (get_or-drop p s j 0) ∙ byte sought (drop p s) j g h

module _ (s : List ℕ) (i : ℕ) {h : ℕ} (l : i ≤ length s) (a : h ≡ i + length (until (eqb 35) (drop i s))) where
  -- its `#` stands at h or behind
  behind : (p : ℕ) → i ≤ p → begins sought (drop p s) ≡ true → h ≤ p + 2
  behind p k g = not_less (λ b. none_before 35 s i a (p + 2) (omega arith) b (at_byte s p g 2 (omega arith)))

  pub no_hash : length s ≤ h → shifted i (place (cut sought (drop i s))) ≡ None
  no_hash k = nowhere_from sought s i l (λ p b g. let x = behind p b g in let y = inside s p g in omega arith)

  module _ {e : ℕ} (b : e ≡ h + length (until (eqb 62) (drop h s))) where
    -- it ends at e or behind
    ends : (p : ℕ) → i ≤ p → begins sought (drop p s) ≡ true → e ≤ p + 26
    ends p k g = not_less (λ c. none_before 62 s h b (p + 26) (let x = behind p k g in omega arith) c (at_byte s p g 26 (omega arith)))

    pub no_end : length s ≤ e → shifted i (place (cut sought (drop i s))) ≡ None
    no_end k = nowhere_from sought s i l (λ p b g. let x = ends p b g in let y = inside s p g in omega arith)

    module _ (k : e < length s) where
      -- one that begins up to e ends there
      at_end : (p : ℕ) → i ≤ p → p ≤ e → begins sought (drop p s) ≡ true → p + 26 ≤ e
      at_end p m n g = not_less (λ c. before 62 sought (e - p) (omega arith) (
          let o : p + (e - p) ≡ e = omega arith in sym (at_byte s p g (e - p) (omega arith)) ∙ ap (λ (n : ℕ). get_or s n 0) o ∙ stands_there 62 s h b k))

      -- whether it ends there, as the code asks: of the part from 26 bytes before on
      abbrev pub Ending : Bool → Type 0
      Ending d = d ≡ begins sought (take (length s - (e - 26)) (drop (e - 26) s))

      pub ends_here : i + 26 ≤ e → Ending true → shifted i (place (cut sought (drop i s))) ≡ Some (e - 26)
      ends_here m g =
          skip_to sought s i (e - 26) (omega arith) (omega arith) (λ p b c d. let x = ends p b d in omega arith)
          ∙ hit sought s (e - 26) (sym (g ∙ ap (begins sought) (rest s (e - 26))))

      -- none ends there
      pub onward : (i + 26 ≤ e → Ending false) → shifted i (place (cut sought (drop i s))) ≡ shifted (e + 1) (place (cut sought (drop (e + 1) s)))
      onward f = skip_to sought s i (e + 1) (omega arith) (omega arith) (λ p b c d.
          let x = ends p b d in let y = at_end p b (omega arith) d in let o : p ≡ e - 26 = omega arith in
          false≢true (f (omega arith) ∙ ap (begins sought) (rest s (e - 26)) ∙ ap (λ (n : ℕ). begins sought (drop n s)) (sym o) ∙ d))
