-- Laws of what is seen: one byte more, an anchor, a block, an end, a later start.
use Rattle.std.specs.Prelude.{if◌then◌else◌, Option, None, Some}
use Prim.Native.Nat.{ℕ, zero, suc, ◌+◌, ◌-◌, ◌≤◌, ◌<◌}
use native.Mathlib.Nat.{add-zero}
use native.Mathlib.Omega.{arith}
use mathlib.Core.Bool.{Bool, true, false, ◌&&◌, ◌||◌, false≢true}
use mathlib.Core.List.{[], ◌∷◌}
use mathlib.Core.Path.{◌≡◌, refl, sym, ap, ◌∙◌}
use borrow.Author.Tests.{eqb-true, eq-eqb, ltb-true, ltb-false}
use lib.Dec.{eqb, ltb}
use lib.ListN.{length, take, drop, get_or, length-take}
use lib.Seq.{get_or-drop, take_all}
use Rattle.lexis.specs.Text.{Text, begins, after, Cut, nowhere, at, later, cut, place, some_of}
use Rattle.lexis.proofs.Seeking.{never, right, shifted, unshifted, hit, cut_within}
use Rattle.lexis.proofs.Passing.{one_later}
use Rattle.port.specs.Seen.{seen}

-- ── a text at the front of the first bytes ──

-- one byte more changes that only where the text ends with it
fronts : (p s : Text) (k : ℕ) → (length p ≡ suc k → begins p s ≡ false) → begins p (take (suc k) s) ≡ begins p (take k s)
fronts [] s k h = refl
fronts (c ∷ p) [] zero h = refl
fronts (c ∷ p) [] (suc k) h = refl
fronts (c ∷ []) (b ∷ s) zero h = h refl
fronts (c ∷ d ∷ p) (b ∷ s) zero h = never (eqb c b)
fronts (c ∷ p) (b ∷ s) (suc k) h = by (eqb c b) h (fronts p s k)
  where
    by : (d : Bool) → (suc (length p) ≡ suc (suc k) → d && begins p s ≡ false) →
        ((length p ≡ suc k → begins p s ≡ false) → begins p (take (suc k) s) ≡ begins p (take k s)) →
        d && begins p (take (suc k) s) ≡ d && begins p (take k s)
    by true h f = f (λ e. h (ap suc e))
    by false h f = refl

enough : (p s : Text) (n : ℕ) → length p ≤ n → begins p s ≡ true → begins p (take n s) ≡ true
enough [] s n h e = refl
enough (c ∷ p) [] n h e = absurd (false≢true e)
enough (c ∷ p) (b ∷ s) zero h e = let f : ⊥ = omega arith in absurd f
enough (c ∷ p) (b ∷ s) (suc n) h e = by (eqb c b) e (enough p s n (omega arith))
  where
    by : (d : Bool) → d && begins p s ≡ true → (begins p s ≡ true → begins p (take n s) ≡ true) → d && begins p (take n s) ≡ true
    by true e f = f e
    by false e f = e

more : (p s : Text) (k : ℕ) → begins p (take k s) ≡ true → begins p (take (suc k) s) ≡ true
more [] s k e = refl
more (c ∷ p) [] zero e = e
more (c ∷ p) [] (suc k) e = e
more (c ∷ p) (b ∷ s) zero e = absurd (false≢true e)
more (c ∷ p) (b ∷ s) (suc k) e = by (eqb c b) e (more p s k)
  where
    by : (d : Bool) → d && begins p (take k s) ≡ true → (begins p (take k s) ≡ true → begins p (take (suc k) s) ≡ true) → d && begins p (take (suc k) s) ≡ true
    by true e f = f e
    by false e f = e

byte : (p t : Text) (j : ℕ) → begins p t ≡ true → j < length p → get_or t j 0 ≡ get_or p j 0
byte [] t j e h = let f : ⊥ = omega arith in absurd f
byte (c ∷ p) [] j e h = absurd (false≢true e)
byte (c ∷ p) (b ∷ t) zero e h = by (eqb c b) (eqb-true c b) e
  where
    by : (d : Bool) → (d ≡ true → c ≡ b) → d && begins p t ≡ true → b ≡ c
    by true f e = sym (f refl)
    by false f e = absurd (false≢true e)
byte (c ∷ p) (b ∷ t) (suc j) e h = byte p t j (right (eqb c b) (begins p t) e) (omega arith)

refuted : (d : Bool) → (d ≡ true → ⊥) → d ≡ false
refuted true f = absurd (f refl)
refuted false f = refl

-- ── one byte more ──

-- the cut of a byte and a rest, by whether the text stands in front
abbrev by_front : Text → ℕ → Text → Bool → Option ℕ
by_front p b t d = place (if d then at [] (after p (b ∷ t)) else later b (cut p t))

ahead : (p : Text) (b : ℕ) (t u : Text) (d : Bool) → place (cut p t) ≡ place (cut p u) → by_front p b t d ≡ by_front p b u d
ahead p b t u true e = refl
ahead p b t u false e = one_later b (cut p t) ∙ ap (shifted 1) e ∙ sym (one_later b (cut p u))

-- nothing that ends with it: nothing changes
pub quiet : (p s : Text) (k : ℕ) → ((a : ℕ) → a + length p ≡ suc k → begins p (drop a s) ≡ false) → seen p (suc k) s ≡ seen p k s
quiet p [] zero h = refl
quiet p [] (suc k) h = refl
quiet [] (b ∷ s) zero h = refl
quiet (c ∷ p) (b ∷ s) zero h = ap (by_front (c ∷ p) b []) (fronts (c ∷ p) (b ∷ s) zero (λ e. h 0 (omega arith)))
quiet p (b ∷ s) (suc k) h =
    ap (by_front p b (take (suc k) s)) (fronts p (b ∷ s) (suc k) (λ e. h 0 (omega arith)))
    ∙ ahead p b (take (suc k) s) (take k s) (begins p (b ∷ take k s)) (quiet p s k (λ a e. h (suc a) (omega arith)))

-- the first that ends
pub first : (p s : Text) (k a : ℕ) → 0 < length p → seen p k s ≡ None → a + length p ≡ suc k → begins p (drop a s) ≡ true → seen p (suc k) s ≡ Some a
first p s k zero l n e h = unshifted (seen p (suc k) s) ∙ hit p (take (suc k) s) 0 (enough p s (suc k) (omega arith) h)
first [] [] k (suc a) l n e h = let f : ⊥ = omega arith in absurd f
first (c ∷ p) [] k (suc a) l n e h = absurd (false≢true h)
first p (b ∷ s) zero (suc a) l n e h = let f : ⊥ = omega arith in absurd f
first p (b ∷ s) (suc k) (suc a) l n e h =
    ap (by_front p b (take (suc k) s)) (fronts p (b ∷ s) (suc k) (λ g. let f : ⊥ = omega arith in absurd f))
    ∙ by (begins p (b ∷ take k s)) n (λ m. first p s k a l m (omega arith) h)
  where
    back : (c : Cut) → place (later b c) ≡ None → place c ≡ None
    back nowhere e = refl
    back (at u t) e = let z : ◌≡◌ {A = ℕ} 0 1 = cc in let f : ⊥ = omega arith in absurd f

    by : (d : Bool) → by_front p b (take k s) d ≡ None → (seen p k s ≡ None → seen p (suc k) s ≡ Some a) → by_front p b (take (suc k) s) d ≡ Some (suc a)
    by true n f = let z : ◌≡◌ {A = ℕ} 0 1 = cc in let f : ⊥ = omega arith in absurd f
    by false n f = one_later b (cut p (take (suc k) s)) ∙ ap (shifted 1) (f (back (cut p (take k s)) n)) ∙ ap Some (omega arith)

-- the first stays the first
pub kept : (p s : Text) (k i : ℕ) → 0 < length p → seen p k s ≡ Some i → seen p (suc k) s ≡ Some i
kept p [] zero i l e = e
kept p [] (suc k) i l e = e
kept [] (b ∷ s) zero i l e = let f : ⊥ = omega arith in absurd f
kept (c ∷ p) (b ∷ s) zero i l e = let z : ◌≡◌ {A = ℕ} 0 1 = cc in let f : ⊥ = omega arith in absurd f
kept p (b ∷ s) (suc k) i l e = by (begins p (b ∷ take k s)) refl e (kept p s k)
  where
    inner : (c : Cut) → place (later b c) ≡ Some i → place c ≡ Some (i - 1)
    inner nowhere e = let z : ◌≡◌ {A = ℕ} 0 1 = cc in let f : ⊥ = omega arith in absurd f
    inner (at u t) e = let n : suc (length u) ≡ i = cc in ap Some (omega arith)

    positive : (c : Cut) → place (later b c) ≡ Some i → 0 < i
    positive nowhere e = let z : ◌≡◌ {A = ℕ} 0 1 = cc in let f : ⊥ = omega arith in absurd f
    positive (at u t) e = let n : suc (length u) ≡ i = cc in omega arith

    by : (d : Bool) → begins p (b ∷ take k s) ≡ d → by_front p b (take k s) d ≡ Some i → ((j : ℕ) → 0 < length p → seen p k s ≡ Some j → seen p (suc k) s ≡ Some j)
        → by_front p b (take (suc k) s) (begins p (b ∷ take (suc k) s)) ≡ Some i
    by true g e f = ap (by_front p b (take (suc k) s)) (more p (b ∷ s) (suc k) g) ∙ e
    by false g e f =
        let q = inner (cut p (take k s)) e in
        let z = positive (cut p (take k s)) e in
        let w = cut_within p (take k s) (i - 1) q in
        let t = length-take k s in
        ap (by_front p b (take (suc k) s)) (fronts p (b ∷ s) (suc k) (λ x. let f : ⊥ = omega arith in absurd f) ∙ g)
        ∙ one_later b (cut p (take (suc k) s)) ∙ ap (shifted 1) (f (i - 1) l q) ∙ ap Some (omega arith)

-- what is first seen with the last byte ends there
pub fresh : (p s : Text) (k u : ℕ) → 0 < length p → seen p k s ≡ None → seen p (suc k) s ≡ Some u → u + length p ≡ suc k
fresh p s k u l n e = by (ltb k (length p - 1)) refl (begins p (drop (suc k - length p) s)) refl
  where
    no : None ≡ Some u → u + length p ≡ suc k
    no e = let z : ◌≡◌ {A = ℕ} 0 1 = cc in let f : ⊥ = omega arith in absurd f

    by : (d : Bool) → ltb k (length p - 1) ≡ d → (b : Bool) → begins p (drop (suc k - length p) s) ≡ b → u + length p ≡ suc k
    by true f b g = let h = ltb-true k (length p - 1) f in no (sym (quiet p s k (λ a x. let f : ⊥ = omega arith in absurd f) ∙ n) ∙ e)
    by false f true g =
        let h = ltb-false k (length p - 1) f in
        let x : Some (suc k - length p) ≡ Some u = sym (first p s k (suc k - length p) l n (omega arith) g) ∙ e in
        let y : suc k - length p ≡ u = cc in omega arith
    by false f false g = let h = ltb-false k (length p - 1) f in no (sym (quiet p s k (λ a x.
        let y : a ≡ suc k - length p = omega arith in ap (λ (z : ℕ). begins p (drop z s)) y ∙ g) ∙ n) ∙ e)

-- ── an anchor: the byte j of p, with m bytes of p behind it ──

module _ (p s : Text) (j m : ℕ) (l : j + suc m ≡ length p) where
  -- p ends m bytes behind the place i only where it begins j bytes before
  begun : (i a : ℕ) → a + length p ≡ suc (i + m) → a + j ≡ i
  begun i a e = omega arith

  on : (i : ℕ) → seen p (i + 1 + m) s ≡ seen p (suc (i + m)) s
  on i = ap (λ (k : ℕ). seen p k s) {x = i + 1 + m} {y = suc (i + m)} (omega arith)

  -- where another byte stands, nothing changes
  pub calm : (i : ℕ) → (get_or s i 0 ≡ get_or p j 0 → ⊥) → seen p (i + 1 + m) s ≡ seen p (i + m) s
  calm i n = on i ∙ quiet p s (i + m) (λ a e. refuted (begins p (drop a s)) (λ h.
      n (ap (λ (k : ℕ). get_or s k 0) (sym (begun i a e)) ∙ sym (get_or-drop a s j 0) ∙ byte p (drop a s) j h (omega arith))))

  -- before the byte j there is no room
  pub early : (i : ℕ) → i < j → seen p (i + 1 + m) s ≡ seen p (i + m) s
  early i h = on i ∙ quiet p s (i + m) (λ a e. let f : ⊥ = omega arith in absurd f)

  -- where it doesn't stand, nothing changes
  pub missed : (i : ℕ) → j ≤ i → begins p (drop (i - j) s) ≡ false → seen p (i + 1 + m) s ≡ seen p (i + m) s
  missed i h n = on i ∙ quiet p s (i + m) (λ a e.
      let x : a ≡ i - j = omega arith in ap (λ (k : ℕ). begins p (drop k s)) x ∙ n)

  -- where it stands, it is the first
  pub sighted : (i : ℕ) → j ≤ i → seen p (i + m) s ≡ None → begins p (drop (i - j) s) ≡ true → seen p (i + 1 + m) s ≡ Some (i - j)
  sighted i h n e = on i ∙ first p s (i + m) (i - j) (omega arith) n (omega arith) e

  pub stays : (i n : ℕ) → seen p (i + m) s ≡ Some n → seen p (i + 1 + m) s ≡ Some n
  stays i n e = on i ∙ kept p s (i + m) n (omega arith) e

-- ── a fence: a byte that p doesn't have ──

lacks : (x : ℕ) (p : Text) (j : ℕ) → some_of (eqb x) p ≡ false → j < length p → get_or p j 0 ≡ x → ⊥
lacks x [] j n h e = omega arith
lacks x (c ∷ p) zero n h e = by (eqb x c) (eq-eqb x c (sym e)) n
  where
    by : (d : Bool) → d ≡ true → d || some_of (eqb x) p ≡ false → ⊥
    by true a b = false≢true (sym b)
    by false a b = false≢true a
lacks x (c ∷ p) (suc j) n h e = lacks x p j (by (eqb x c) n) (omega arith) e
  where
    by : (d : Bool) → d || some_of (eqb x) p ≡ false → some_of (eqb x) p ≡ false
    by true b = absurd (false≢true (sym b))
    by false b = b

-- what ends up to |p| bytes behind the fence has ended before it
pub fenced : (x : ℕ) (p s : Text) (e k : ℕ) → some_of (eqb x) p ≡ false → get_or s e 0 ≡ x → k ≤ length p → seen p (e + k) s ≡ seen p e s
fenced x p s e zero n h l = ap (λ (k : ℕ). seen p k s) (add-zero e)
fenced x p s e (suc k) n h l = ap (λ (k : ℕ). seen p k s) {x = e + suc k} {y = suc (e + k)} (omega arith)
    ∙ quiet p s (e + k) (λ a g. refuted (begins p (drop a s)) (λ b.
    let r : a + (e - a) ≡ e = omega arith in
    lacks x p (e - a) n (omega arith) (sym (byte p (drop a s) (e - a) b (omega arith)) ∙ get_or-drop a s (e - a) 0 ∙ ap (λ (n : ℕ). get_or s n 0) r ∙ h)))
    ∙ fenced x p s e k n h (omega arith)

-- all is seen
pub whole : (p s : Text) (n : ℕ) → length s ≤ n → seen p n s ≡ place (cut p s)
whole p s n h = ap (λ (t : Text). place (cut p t)) (take_all n s h)
