-- Laws of blocks: one byte more is looked at, and a block without a hit is passed over.
use Rattle.std.specs.Prelude.{if◌then◌else◌, Option, None, Some}
use mathlib.Core.Path.{◌≡◌, refl, sym, ap, ◌∙◌}
use mathlib.Core.Bool.{Bool, true, false, ◌&&◌, ◌||◌}
use mathlib.Core.List.{List, [], ◌∷◌}
use Prim.Native.Nat.{ℕ, zero, suc, ◌+◌, ◌-◌, ◌≤◌, ◌<◌}
use native.Mathlib.Nat.{add-zero}
use native.Mathlib.Numerals.{add-one}
use native.Mathlib.Omega.{arith}
use lib.Dec.{eqb}
use lib.ListN.{length, take, drop, get_or, length-drop, drop_of_length-le}
use lib.Seq.{drop-drop, get_or-drop}
use Rattle.lexis.specs.Text.{begins, Cut, nowhere, at, later, cut, place, some_of, until}
use Rattle.lexis.proofs.Lists.{view, rest}
use Rattle.lexis.proofs.Seeking.{never, shifted, miss, until_within}

module _ (p : ℕ → Bool) where
  or_last : (a b c : Bool) → a || (b || c) ≡ (a || b) || c
  or_last true b c = refl
  or_last false b c = refl

  or_false : (a : Bool) → a || false ≡ false || a
  or_false true = refl
  or_false false = refl

  one_more : (l : List ℕ) (j : ℕ) → j < length l → some_of p (take (suc j) l) ≡ some_of p (take j l) || p (get_or l j 0)
  one_more [] j h = let f : ⊥ = omega arith in absurd f
  one_more (x ∷ l) zero h = or_false (p x)
  one_more (x ∷ l) (suc j) h = ap (λ (z : Bool). p x || z) (one_more l j (omega arith)) ∙ or_last (p x) (some_of p (take j l)) (p (get_or l j 0))

  -- with one byte more
  pub grown : (s : List ℕ) (m j : ℕ) → m + j < length s → some_of p (take (j + 1) (drop m s)) ≡ some_of p (take j (drop m s)) || p (get_or s (m + j) 0)
  grown s m j h = ap (λ (n : ℕ). some_of p (take n (drop m s))) (add-one j)
      ∙ one_more (drop m s) j (let l = length-drop m s in omega arith)
      ∙ ap (λ (c : ℕ). some_of p (take j (drop m s)) || p c) (get_or-drop m s j 0)

  skip : (k : ℕ) (l : List ℕ) → k ≤ length l → some_of p (take k l) ≡ false → length (until p l) ≡ k + length (until p (drop k l))
  skip zero l h e = omega arith
  skip (suc k) [] h e = let f : ⊥ = omega arith in absurd f
  skip (suc k) (x ∷ l) h e = by (p x) e (skip k l (omega arith))
    where
      by : (b : Bool) → b || some_of p (take k l) ≡ false → (some_of p (take k l) ≡ false → length (until p l) ≡ k + length (until p (drop k l))) →
          length (if b then [] else x ∷ until p l) ≡ suc k + length (until p (drop k l))
      by true f r = let z : ◌≡◌ {A = ℕ} 0 1 = cc in let g : ⊥ = omega arith in absurd g
      by false f r = let q = r f in omega arith

  -- no hit in a block: the place lies behind it
  pub passed : (s : List ℕ) (i k : ℕ) → i + k ≤ length s → some_of p (take k (drop i s)) ≡ false →
      i + length (until p (drop i s)) ≡ (i + k) + length (until p (drop (i + k) s))
  passed s i k h e =
      let a = skip k (drop i s) (let l = length-drop i s in omega arith) e in
      let b = ap (λ (t : List ℕ). length (until p t)) (drop-drop k i s) in
      omega arith

  fewer : (j k : ℕ) (l : List ℕ) → j ≤ k → some_of p (take k l) ≡ false → some_of p (take j l) ≡ false
  fewer zero k l h e = refl
  fewer (suc j) zero l h e = let f : ⊥ = omega arith in absurd f
  fewer (suc j) (suc k) [] h e = refl
  fewer (suc j) (suc k) (x ∷ l) h e = by (p x) e (fewer j k l (omega arith))
    where
      by : (b : Bool) → b || some_of p (take k l) ≡ false → (some_of p (take k l) ≡ false → some_of p (take j l) ≡ false) → b || some_of p (take j l) ≡ false
      by true f r = f
      by false f r = r f

  -- no hit in the last k bytes: what is left of them has none
  pub none_left : (s : List ℕ) (i k : ℕ) → i ≤ length s → length s - i ≤ k → k ≤ length s → some_of p (take k (drop (length s - k) s)) ≡ false →
      i + length (until p (drop i s)) ≡ length s
  none_left s i k h g m e =
      let n = length s in
      let o = n - k in
      let x : o + (i - o) ≡ i = omega arith in
      let y : o + k ≡ n = omega arith in
      sym (ap (λ (z : ℕ). z + length (until p (drop z s))) x)
      ∙ sym (passed s o (i - o) (omega arith) (fewer (i - o) k (drop o s) (omega arith) e))
      ∙ passed s o k (omega arith) e
      ∙ ap (λ (z : ℕ). z + length (until p (drop z s))) y
      ∙ ap (λ (t : List ℕ). n + length (until p t)) (drop_of_length-le s {i = n} (omega arith))
      ∙ add-zero n

-- what is passed of the rest of a text
pub rest_within : (p : ℕ → Bool) (s : List ℕ) (i : ℕ) → length (until p (take (length s - i) (drop i s))) ≤ length s - i
rest_within p s i = let a = until_within p (take (length s - i) (drop i s)) in let b = ap length (rest s i) in let c = length-drop i s in omega arith

-- ── a byte of a text is sought before the text ──

pub shifted_twice : (i j : ℕ) (o : Option ℕ) → shifted i (shifted j o) ≡ shifted (i + j) o
shifted_twice i j None = refl
shifted_twice i j (Some n) = ap Some (omega arith)

pub one_later : (b : ℕ) (c : Cut) → place (later b c) ≡ shifted 1 (place c)
one_later b nowhere = refl
one_later b (at u t) = ap Some (omega arith)

-- no text stands where it differs by a byte
byte_off : (p l : List ℕ) (k : ℕ) → k < length p → k < length l → eqb (get_or p k 0) (get_or l k 0) ≡ false → begins p l ≡ false
byte_off [] l k h g e = let f : ⊥ = omega arith in absurd f
byte_off (c ∷ p) [] k h g e = refl
byte_off (c ∷ p) (b ∷ l) zero h g e = ap (λ (d : Bool). d && begins p l) e
byte_off (c ∷ p) (b ∷ l) (suc k) h g e = ap (λ (d : Bool). eqb c b && d) (byte_off p l k (omega arith) (omega arith) e) ∙ never (eqb c b)

module _ (p s : List ℕ) (k : ℕ) (h : k < length p) where
  abbrev from : ℕ → Option ℕ
  from a = shifted a (place (cut p (drop a s)))

  -- where t is what stands from k bytes past a on: nothing is passed over up to the byte k of p
  walk : (a : ℕ) (t : List ℕ) → t ≡ drop (a + k) s → from a ≡ from (a + length (until (eqb (get_or p k 0)) t))
  walk a [] e = ap from (sym (add-zero a))
  walk a (b ∷ t) e = by (eqb (get_or p k 0) b) refl (walk (a + 1) t)
    where
      inside : a + k < length s
      inside = let l = length-drop (a + k) s in let m = ap length e in omega arith

      seen : b ∷ t ≡ get_or s (a + k) 0 ∷ drop (a + k + 1) s
      seen = e ∙ view s (a + k) inside

      off : eqb (get_or p k 0) b ≡ false → begins p (drop a s) ≡ false
      off f = byte_off p (drop a s) k h (let l = length-drop a s in let m = inside in omega arith)
          (ap (λ (x : ℕ). eqb (get_or p k 0) x) (get_or-drop a s k 0 ∙ sym (ap (λ (l : List ℕ). get_or l 0 0) seen)) ∙ f)

      by : (d : Bool) → eqb (get_or p k 0) b ≡ d → (t ≡ drop (a + 1 + k) s → from (a + 1) ≡ from (a + 1 + length (until (eqb (get_or p k 0)) t)))
          → from a ≡ from (a + length (if d then [] else b ∷ until (eqb (get_or p k 0)) t))
      by true f w = ap from (sym (add-zero a))
      by false f w = miss p s a (let m = inside in omega arith) (off f)
          ∙ w (ap (drop 1) seen ∙ ap (λ (n : ℕ). drop n s) {x = a + k + 1} {y = a + 1 + k} (omega arith))
          ∙ ap from {x = a + 1 + length (until (eqb (get_or p k 0)) t)} {y = a + suc (length (until (eqb (get_or p k 0)) t))} (omega arith)

  -- from the byte i on, the next byte k of p is at j
  pub sought : (a i j : ℕ) → a + k ≡ i → j ≡ i + length (until (eqb (get_or p k 0)) (drop i s)) → from a ≡ from (j - k)
  sought a i j h e = walk a (drop i s) (ap (λ (n : ℕ). drop n s) (sym h))
      ∙ ap from {x = a + length (until (eqb (get_or p k 0)) (drop i s))} {y = j - k} (omega arith)

-- and not past the end
pub sought_within : (p : ℕ → Bool) (s : List ℕ) (k i : ℕ) → k ≤ length s → i ≡ k + length (until p (drop k s)) → i ≤ length s
sought_within p s k i h e = let a = until_within p (drop k s) in let b = length-drop k s in omega arith
