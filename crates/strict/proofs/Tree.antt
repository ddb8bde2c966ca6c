-- A text against the words of a table, byte by byte: the words that are left after a byte, and where none is left.
use Prim.Native.Nat.{ℕ, zero, suc, ◌+◌, ◌≤◌, ◌<◌}
use native.Mathlib.Omega.{arith}
use mathlib.Core.Bool.{Bool, true, false, cond, ◌&&◌, ◌||◌}
use mathlib.Core.List.{List, [], ◌∷◌, ◌++◌}
use mathlib.Core.Option.{Option, none}
use mathlib.Core.Path.{◌≡◌, refl, subst, sym, ap, ◌∙◌}
use lib.Dec.{T, eqb, ltb, eqb→eq, eqb_refl, T_not}
use lib.ListN.{drop, length, get_or, drop_of_length-le}
use borrow.Author.Tests.{ne_eqb}
use Rattle.grammar.specs.Tests.{and_left, and_right, is_true, TNotEq}
use Rattle.grammar.specs.Piece.{Answer, got, stuck, member}
use Rattle.grammar.specs.Table.{Entry, ◌↝◌, rest_of, advance, or_done, done, settle, pick}
use Rattle.grammar.specs.Join.{after}
use Rattle.std.specs.Prelude.{Result, Ok, Err}
use Rattle.std.specs.Result.{IsErrAnd}
use Rattle.strict.specs.Cursor.{Told}
use Rattle.strict.specs.Words.{among, advances, both, differ}
use Rattle.strict.specs.declared.cursor.Read.{Read}
use Rattle.strict.specs.declared.cursor.Stuck.{Stuck}
use Rattle.lexis.proofs.Lists.{view}
use Rattle.strict.proofs.Chain as H

-- ── the byte at a place ──
pub byte : (s : List ℕ) (at : ℕ) → get_or s at 0 ≡ get_or (drop at s) 0 0
byte [] zero = refl
byte [] (suc n) = refl
byte (c ∷ s) zero = refl
byte (c ∷ s) (suc n) = byte s n

-- a byte that is not 0 stands within the text
ahead : (s : List ℕ) (at c : ℕ) → get_or s at 0 ≡ c → T (ltb 0 c) → at < length s
ahead [] zero c e h = absurd (subst (λ (z : ℕ). T (ltb 0 z)) (sym e) h)
ahead [] (suc n) c e h = absurd (subst (λ (z : ℕ). T (ltb 0 z)) (sym e) h)
ahead (x ∷ s) zero c e h = omega arith
ahead (x ∷ s) (suc n) c e h = let k = ahead s n c e h in omega arith

pub has_first : (v w : List ℕ) → T (differ v w) → 0 < length w
has_first [] w d = absurd d
has_first (x ∷ v) [] d = absurd d
has_first (x ∷ v) (y ∷ w) d = omega arith

-- so that the place after it does too
pub within : (s : List ℕ) (at : ℕ) {b c : ℕ} → b ≡ get_or s at 0 → b ≡ c → T (ltb 0 c) → at + 1 ≤ length s
within s at {b} {c} p q h = let g = ahead s at c (sym p ∙ q) h in omega arith

-- ── one byte on ──
abbrev pub left : {A : Type 0} → List (Entry A) → Bool
left [] = false
left (e ∷ es) = true

module _ {A : Type 0} where
  onto : (c : ℕ) (es : List (Entry A)) (x : List ℕ) → T (left (advance c es)) → among es (c ∷ x) ≡ among (advance c es) x
  unfolding among
  onto c es x h = by (advance c es) h
    where
      by : (q : List (Entry A)) → T (left q) → elim q [ [] ↦ settle (done es) (c ∷ x) | e ∷ fs ↦ pick x (e ∷ fs) ] ≡ pick x q
      by [] h = absurd h
      by (e ∷ fs) h = refl

module _ {A V : Type 0} {f : V → A} {r : Result (Read V) Stuck} {s : List ℕ} {at : ℕ} where
  -- where the byte b that stands here is c
  pub down : (es : List (Entry A)) {b c : ℕ} → b ≡ get_or s at 0 → b ≡ c → Told s (at + 1) (among (advance c es) (drop (at + 1) s)) f r → T (ltb 0 c && left (advance c es)) → Told s at (among es (drop at s)) f r
  down es {b} {c} p q t h =
      let k : get_or s at 0 ≡ c = sym p ∙ q in
      let g = ahead s at c k (and_left (ltb 0 c) (left (advance c es)) h) in
      let o = t.onward in
      record {
        same = ap (among es) (view s at g ∙ ap (λ (z : ℕ). z ∷ drop (at + 1) s) k) ∙ onto c es (drop (at + 1) s) (and_right (ltb 0 c) (left (advance c es)) h) ∙ t.same;
        inside = t.inside;
        onward = omega arith;
      }

-- ── no word goes on ──
abbrev first : List ℕ → List ℕ → Bool
first bs [] = false
first bs (x ∷ w) = member x bs

abbrev pub begin : {A : Type 0} → List ℕ → List (Entry A) → Bool
begin bs [] = true
begin bs (e ∷ es) = first bs e.word && begin bs es

abbrev pub Apart : ℕ → List ℕ → Type 0
Apart b [] = Unit {0}
Apart b (x ∷ xs) = (b ≡ x → ⊥) × Apart b xs

apart_member : (b x : ℕ) (bs : List ℕ) → Apart b bs → T (member x bs) → x ≡ b → ⊥
apart_member b x [] n m e = absurd m
apart_member b x (y ∷ bs) n m e = by (eqb x y) (eqb→eq x y) m (λ t. apart_member b x bs n.1 t e)
  where
    by : (k : Bool) → (T k → x ≡ y) → T (k || member x bs) → (T (member x bs) → ⊥) → ⊥
    by true f t g = n.0 (sym e ∙ f tt)
    by false f t g = g t

module _ {A : Type 0} where
  begin_done : (bs : List ℕ) (es : List (Entry A)) → T (begin bs es) → done es ≡ none
  begin_done bs [] h = refl
  begin_done bs (e ∷ es) h = by e.word (and_left (first bs e.word) (begin bs es) h) (begin_done bs es (and_right (first bs e.word) (begin bs es) h))
    where
      by : (w : List ℕ) → T (first bs w) → done es ≡ none → or_done e.value (done es) w ≡ none
      by [] f q = absurd f
      by (x ∷ w) f q = q

  begin_advance : (b : ℕ) (bs : List ℕ) (es : List (Entry A)) → Apart b bs → T (begin bs es) → advance b es ≡ []
  begin_advance b bs [] n h = refl
  begin_advance b bs (e ∷ es) n h = by e.word (and_left (first bs e.word) (begin bs es) h) (begin_advance b bs es n (and_right (first bs e.word) (begin bs es) h))
    where
      by : (w : List ℕ) → T (first bs w) → advance b es ≡ [] → rest_of b e.value w ++ advance b es ≡ []
      by [] f q = absurd f
      by (x ∷ w) f q = rw (ne_eqb x b (apart_member b x bs n f)) q

  halt : (t bs : List ℕ) (es : List (Entry A)) → Apart (get_or t 0 0) bs → T (begin bs es) → among es t ≡ stuck t
  unfolding among
  halt [] bs es n h = ap (λ (z : Option A). settle z []) (begin_done bs es h)
  halt (c ∷ t) bs es n h = λ i. step (begin_done bs es h i) (begin_advance c bs es n h i)
    where
      step : Option A → List (Entry A) → Answer A
      step o q = elim q [ [] ↦ settle o (c ∷ t) | e ∷ fs ↦ pick t (e ∷ fs) ]

  -- the words begin with the bytes bs, none of which stands here
  pub stop : {V : Type 0} {f : V → A} {s : List ℕ} {at : ℕ} (es : List (Entry A)) {b : ℕ} → b ≡ get_or s at 0 → (bs : List ℕ) → Apart b bs → at ≤ length s → T (begin bs es) →
      Told s at (among es (drop at s)) f (Err (record { at = at }))
  stop {s} {at} es e bs n k h = record { same = halt (drop at s) bs es (subst (λ (z : ℕ). Apart z bs) (e ∙ byte s at) n) h; inside = k; onward = omega arith }

  -- ── a whole word ──
  alone : (k : A) (t : List ℕ) → among (([] ↝ k) ∷ []) t ≡ got k t
  unfolding among
  alone k [] = refl
  alone k (c ∷ t) = refl

  pub full : {s : List ℕ} {at : ℕ} {k : A} → at ≤ length s → Told s at (among (([] ↝ k) ∷ []) (drop at s)) (λ v. v) (Ok (record { value = k; end = at }))
  full {s} {at} {k} h = record { same = alone k (drop at s); inside = h; onward = omega arith }

-- ── the words that begin with another byte ──
abbrev kept : {A : Type 0} → ℕ → A → List (Entry A) → List ℕ → List (Entry A)
kept b a r [] = ([] ↝ a) ∷ r
kept b a r (x ∷ w) = cond (eqb x b) r ((x ∷ w ↝ a) ∷ r)

abbrev pub others : {A : Type 0} → ℕ → List (Entry A) → List (Entry A)
others b [] = []
others b (e ∷ es) = kept b e.value (others b es) e.word

module _ {A : Type 0} where
  others_done : (b : ℕ) (es : List (Entry A)) → done (others b es) ≡ done es
  others_done b [] = refl
  others_done b (e ∷ es) = by e.word (others_done b es)
    where
      by : (w : List ℕ) → done (others b es) ≡ done es → done (kept b e.value (others b es) w) ≡ or_done e.value (done es) w
      by [] q = refl
      by (x ∷ w) q = on (eqb x b)
        where
          on : (k : Bool) → done (cond k (others b es) ((x ∷ w ↝ e.value) ∷ others b es)) ≡ done es
          on true = q
          on false = q

  others_advance : (b c : ℕ) → (c ≡ b → ⊥) → (es : List (Entry A)) → advance c (others b es) ≡ advance c es
  others_advance b c n [] = refl
  others_advance b c n (e ∷ es) = by e.word (others_advance b c n es)
    where
      by : (w : List ℕ) → advance c (others b es) ≡ advance c es → advance c (kept b e.value (others b es) w) ≡ rest_of c e.value w ++ advance c es
      by [] q = q
      by (x ∷ w) q = on (eqb x b) (eqb→eq x b)
        where
          on : (k : Bool) → (T k → x ≡ b) → advance c (cond k (others b es) ((x ∷ w ↝ e.value) ∷ others b es)) ≡ cond (eqb x c) ((w ↝ e.value) ∷ []) [] ++ advance c es
          on true f = rw (ne_eqb x c (λ z. n (sym z ∙ f tt))) q
          on false f = ap (λ (z : List (Entry A)). cond (eqb x c) ((w ↝ e.value) ∷ []) [] ++ z) q

  omits : (t : List ℕ) (b : ℕ) (es : List (Entry A)) → (get_or t 0 0 ≡ b → ⊥) → among es t ≡ among (others b es) t
  unfolding among
  omits [] b es n = ap (λ (z : Option A). settle z []) (sym (others_done b es))
  omits (c ∷ t) b es n = λ i. step (sym (others_done b es) i) (sym (others_advance b c n es) i)
    where
      step : Option A → List (Entry A) → Answer A
      step o q = elim q [ [] ↦ settle o (c ∷ t) | e ∷ fs ↦ pick t (e ∷ fs) ]

  pub omit : (s : List ℕ) (at b : ℕ) (es : List (Entry A)) → (get_or s at 0 ≡ b → ⊥) → among es (drop at s) ≡ among (others b es) (drop at s)
  omit s at b es n = omits (drop at s) b es (λ q. n (byte s at ∙ q))

module _ {A V : Type 0} {f : V → A} {r : Result (Read V) Stuck} {s : List ℕ} {at : ℕ} where
  -- where the byte b that stands here isn't c
  pub but : (es : List (Entry A)) {b c : ℕ} → b ≡ get_or s at 0 → (b ≡ c → ⊥) → Told s at (among (others c es) (drop at s)) f r → Told s at (among es (drop at s)) f r
  but es {b} {c} e n t = H.same_as (omit s at c es (λ q. n (e ∙ q))) t

-- ── a word at a place ──
-- the one word after its first byte, and at another byte
module _ {A : Type 0} where
  ends : (es : List (Entry A)) → done es ≡ none → among es [] ≡ stuck []
  unfolding among
  ends es e = ap (λ (z : Option A). settle z []) e

  go : (x : ℕ) (k : A) (u t : List ℕ) → pick (x ∷ t) ((x ∷ u ↝ k) ∷ []) ≡ pick t ((u ↝ k) ∷ [])
  go x k u t = rw (pick, is_true (eqb x x) (eqb_refl x))

  halted : (x c : ℕ) (k : A) (u t : List ℕ) → (x ≡ c → ⊥) → pick (c ∷ t) ((x ∷ u ↝ k) ∷ []) ≡ stuck (c ∷ t)
  halted x c k u t n = rw (pick, ne_eqb x c n)

  one_on : (x : ℕ) (k : A) (u t : List ℕ) → among ((x ∷ u ↝ k) ∷ []) (x ∷ t) ≡ among ((u ↝ k) ∷ []) t
  unfolding among
  one_on x k u t = go x k u t

  one_off : (x c : ℕ) (k : A) (u t : List ℕ) → (x ≡ c → ⊥) → among ((x ∷ u ↝ k) ∷ []) (c ∷ t) ≡ stuck (c ∷ t)
  unfolding among
  one_off x c k u t n = halted x c k u t n

  module _ (s w : List ℕ) (i j : ℕ) (k : A) where
    pub fit_on : j < length w → i < length s → get_or s i 0 ≡ get_or w j 0 → among ((drop j w ↝ k) ∷ []) (drop i s) ≡ among ((drop (j + 1) w ↝ k) ∷ []) (drop (i + 1) s)
    fit_on h g e = (λ n. among ((view w j h n ↝ k) ∷ []) ((view s i g ∙ ap (λ (z : ℕ). z ∷ drop (i + 1) s) e) n)) ∙ one_on (get_or w j 0) k (drop (j + 1) w) (drop (i + 1) s)

    pub fit_off : j < length w → i < length s → (get_or s i 0 ≡ get_or w j 0 → ⊥) → among ((drop j w ↝ k) ∷ []) (drop i s) ≡ stuck (drop i s)
    fit_off h g n = (λ m. among ((view w j h m ↝ k) ∷ []) (view s i g m)) ∙ one_off (get_or w j 0) (get_or s i 0) k (drop (j + 1) w) (drop (i + 1) s) (λ e. n (sym e)) ∙ ap stuck (sym (view s i g))

    pub fit_end : j < length w → length s ≤ i → among ((drop j w ↝ k) ∷ []) (drop i s) ≡ stuck (drop i s)
    fit_end h g = (λ m. among ((view w j h m ↝ k) ∷ []) (drop_of_length-le s g m)) ∙ ends ((get_or w j 0 ∷ drop (j + 1) w ↝ k) ∷ []) refl ∙ ap stuck (sym (drop_of_length-le s g))

    pub fit_done : length w ≤ j → among ((drop j w ↝ k) ∷ []) (drop i s) ≡ got k (drop i s)
    fit_done h = ap (λ (z : List ℕ). among ((z ↝ k) ∷ []) (drop i s)) (drop_of_length-le w h) ∙ alone k (drop i s)

-- ── all words begin alike ──
abbrev starts : {A : Type 0} → ℕ → List (Entry A) → Bool
starts x es = begin (x ∷ []) es && left (advance x es)

abbrev pub forced : {A : Type 0} → List ℕ → List (Entry A) → Bool
forced [] es = true
forced (x ∷ u) es = starts x es && forced u (advance x es)

-- after what they begin with, whose own value `j` is not looked at
self : {K : Type 0} (j : K) (x : ℕ) (u : List ℕ) → T (begin (x ∷ []) ((x ∷ u ↝ j) ∷ []))
self j x u = rw (is_true (eqb x x) (eqb_refl x)) tt

module _ {A K : Type 0} (j : K) where
  abbrev rest : List ℕ → List (Entry A) → K → List ℕ → Answer A
  rest u es k r = among (advances u es) r

  along : (u : List ℕ) (es : List (Entry A)) → T (forced u es) → (t : List ℕ) → among es t ≡ after (rest u es) (among ((u ↝ j) ∷ []) t)
  along [] es h t = sym (ap (after (rest [] es)) (alone j t))
  along (x ∷ u) es h [] = ends es (begin_done (x ∷ []) es (and_left (begin (x ∷ []) es) (left (advance x es)) (and_left (starts x es) (forced u (advance x es)) h)))
      ∙ sym (ap (after (rest (x ∷ u) es)) (ends ((x ∷ u ↝ j) ∷ []) refl))
  along (x ∷ u) es h (c ∷ t) = by (eqb x c) refl (along u (advance x es) (and_right (starts x es) (forced u (advance x es)) h) t)
    where
      same : T (starts x es)
      same = and_left (starts x es) (forced u (advance x es)) h

      by : (k : Bool) → eqb x c ≡ k → among (advance x es) t ≡ after (rest u (advance x es)) (among ((u ↝ j) ∷ []) t) → among es (c ∷ t) ≡ after (rest (x ∷ u) es) (among ((x ∷ u ↝ j) ∷ []) (c ∷ t))
      by true e ih = subst (λ (z : ℕ). among es (z ∷ t) ≡ after (rest (x ∷ u) es) (among ((x ∷ u ↝ j) ∷ []) (z ∷ t))) (eqb→eq x c (subst T (sym e) tt))
          (onto x es t (and_right (begin (x ∷ []) es) (left (advance x es)) same) ∙ ih ∙ ap (after (rest (x ∷ u) es)) (sym (one_on x j u t)))
      by false e ih =
          let n : c ≡ x → ⊥ = λ q. subst T e (subst (λ (z : ℕ). T (eqb x z)) (sym q) (eqb_refl x)) in
          halt (c ∷ t) (x ∷ []) es (n, tt) (and_left (begin (x ∷ []) es) (left (advance x es)) same)
          ∙ sym (ap (after (rest (x ∷ u) es)) (halt (c ∷ t) (x ∷ []) ((x ∷ u ↝ j) ∷ []) (n, tt) (self j x u)))

-- the bytes that all words begin with, and then the rest of them; or stuck in those bytes
module _ {A V K : Type 0} {f : V → A} {g : K → K} {s : List ℕ} {at : ℕ} (j : K) (u : List ℕ) (es : List (Entry A)) where
  pub via : {r : Result (Read V) Stuck} {d : Read K} → Told s at (among ((u ↝ j) ∷ []) (drop at s)) g (Ok d) → Told s d.end (among (advances u es) (drop d.end s)) f r → T (forced u es) → Told s at (among es (drop at s)) f r
  via t r h = H.same_as (along j u es h (drop at s)) (H.goes (rest j u es) t r)

  pub off : {r : Result (Read V) Stuck} {e : Stuck} → Told s at (among ((u ↝ j) ∷ []) (drop at s)) g (Err e) → IsErrAnd r (λ x. x ≡ e) → T (forced u es) → Told s at (among es (drop at s)) f r
  off t i h = H.same_as (along j u es h (drop at s)) (H.stops (rest j u es) t i)

-- ── one of two words ──
module _ {A V : Type 0} {f : V → A} {r : Result (Read V) Stuck} {s : List ℕ} {at : ℕ} (j k : A) where
  pub either_first : (v w : List ℕ) → T (differ v w) → {b : ℕ} → b ≡ get_or s at 0 → (b ≡ get_or w 0 0 → ⊥) → Told s at (among ((v ↝ j) ∷ []) (drop at s)) f r → Told s at (among ((v ↝ j) ∷ (w ↝ k) ∷ []) (drop at s)) f r
  either_first [] w d e n t = absurd d
  either_first (x ∷ v) [] d e n t = absurd d
  either_first (x ∷ v) (y ∷ w) d e n t = but _ e n (subst (λ (z : List (Entry A)). Told s at (among z (drop at s)) f r) (sym is) t)
    where
      is : others y ((x ∷ v ↝ j) ∷ (y ∷ w ↝ k) ∷ []) ≡ (x ∷ v ↝ j) ∷ []
      is = rw (TNotEq (eqb x y) d, is_true (eqb y y) (eqb_refl y))

  pub either_second : (v w : List ℕ) → T (differ v w) → {b : ℕ} → b ≡ get_or s at 0 → b ≡ get_or w 0 0 → Told s at (among ((w ↝ k) ∷ []) (drop at s)) f r → Told s at (among ((v ↝ j) ∷ (w ↝ k) ∷ []) (drop at s)) f r
  either_second [] w d e q t = absurd d
  either_second (x ∷ v) [] d e q t = absurd d
  either_second (x ∷ v) (y ∷ w) d e q t = but _ e (λ z. T_not (eqb x y) d (subst (λ (m : ℕ). T (eqb x m)) (sym z ∙ q) (eqb_refl x)))
      (subst (λ (z : List (Entry A)). Told s at (among z (drop at s)) f r) (sym is) t)
    where
      is : others x ((x ∷ v ↝ j) ∷ (y ∷ w ↝ k) ∷ []) ≡ (y ∷ w ↝ k) ∷ []
      is = rw (is_true (eqb x x) (eqb_refl x), ne_eqb y x (λ z. T_not (eqb x y) d (subst (λ (m : ℕ). T (eqb x m)) (sym z) (eqb_refl x))))

-- ── two words that begin alike ──
abbrev keep : {A : Type 0} → Bool → List ℕ → A → List (Entry A)
keep k u n = cond k ((u ↝ n) ∷ []) []

module _ {A K : Type 0} (m : K) (v : List ℕ) (j : A) (w : List ℕ) (l : A) where
  abbrev fork_read : K → List ℕ → Answer A
  fork_read k r = pick r ((v ↝ j) ∷ (w ↝ l) ∷ [])

  pair : (u t : List ℕ) → pick t (both u v j w l) ≡ after fork_read (pick t ((u ↝ m) ∷ []))
  pair [] [] = refl
  pair [] (c ∷ t) = refl
  pair (x ∷ u) [] = refl
  pair (x ∷ u) (c ∷ t) = by (eqb x c) (pair u t)
    where
      step : List (Entry A) → Answer A
      step q = elim q [ [] ↦ stuck (c ∷ t) | e ∷ fs ↦ pick t (e ∷ fs) ]

      begun : List (Entry K) → Answer K
      begun q = elim q [ [] ↦ stuck (c ∷ t) | e ∷ fs ↦ pick t (e ∷ fs) ]

      by : (k : Bool) → pick t (both u v j w l) ≡ after fork_read (pick t ((u ↝ m) ∷ [])) → step (keep k (u ++ v) j ++ (keep k (u ++ w) l ++ [])) ≡ after fork_read (begun (keep k u m ++ []))
      by true ih = ih
      by false ih = refl

module _ {A V K : Type 0} {f : V → A} {g : K → K} {s : List ℕ} {at : ℕ} {r : Result (Read V) Stuck} (m : K) (u v : List ℕ) (j : A) (w : List ℕ) (l : A) where
  pub two : {d : Read K} → Told s at (among ((u ↝ m) ∷ []) (drop at s)) g (Ok d) → Told s d.end (among ((v ↝ j) ∷ (w ↝ l) ∷ []) (drop d.end s)) f r → Told s at (among (both u v j w l) (drop at s)) f r
  unfolding among
  two t q = H.same_as (pair m v j w l u (drop at s)) (H.goes (fork_read m v j w l) t q)

  pub two_off : {e : Stuck} → Told s at (among ((u ↝ m) ∷ []) (drop at s)) g (Err e) → IsErrAnd r (λ x. x ≡ e) → Told s at (among (both u v j w l) (drop at s)) f r
  unfolding among
  two_off t i = H.same_as (pair m v j w l u (drop at s)) (H.stops (fork_read m v j w l) t i)
