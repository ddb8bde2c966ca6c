-- Two readers that walk together: stuck at the same place, or past the same text with values that belong together.
-- One law for each way in which readers are put together; lists with their end are `ended`.
use Prim.Native.Nat.{ℕ}
use mathlib.Core.List.{List}
use mathlib.Core.Path.{◌≡◌, refl, subst, sym, ap}
use lib.IntN.{ℤ}
use Rattle.grammar.specs.Piece.{Answer, got, stuck}
use Rattle.grammar.specs.Join.{mapped, after}
use Rattle.grammar.specs.Until.{Ended}
use Rattle.strict.specs.Lists.{Row, nothing, pushes}

pub data Same {A B : Type 0} (R : A → B → Type 0) : Answer A → Answer B → Type 0 where
  both : (a : A) (b : B) (r : List ℕ) → R a b → Same R (got a r) (got b r)
  neither : (r : List ℕ) → Same R (stuck r) (stuck r)

module _ {A B A' B' : Type 0} {R : A → B → Type 0} {S : A' → B' → Type 0} where
  -- one part after another
  pub along : (f : A → List ℕ → Answer A') (g : B → List ℕ → Answer B') {p : Answer A} {q : Answer B} → Same R p q →
      ((a : A) (b : B) (r : List ℕ) → R a b → Same S (f a r) (g b r)) → Same S (after f p) (after g q)
  along f g (both a b r h) k = k a b r h
  along f g (neither r) k = neither r

  -- other values
  pub convey : (f : A → A') (g : B → B') {p : Answer A} {q : Answer B} → Same R p q → ((a : A) (b : B) → R a b → S (f a) (g b)) → Same S (mapped f p) (mapped g q)
  convey f g (both a b r h) k = both (f a) (g b) r (k a b h)
  convey f g (neither r) k = neither r

pub onto : {A B B' : Type 0} {R : A → B → Type 0} {S : A → B' → Type 0} (g : B → B') {p : Answer A} {q : Answer B} → Same R p q → ((a : A) (b : B) → R a b → S a (g b)) → Same S p (mapped g q)
onto g (both a b r h) k = both a (g b) r (k a b h)
onto g (neither r) k = neither r

-- the first in the words of the other
pub told : {A B : Type 0} {R : A → B → Type 0} (f : A → B) {p : Answer A} {q : Answer B} → Same R p q → ((a : A) (b : B) → R a b → f a ≡ b) → mapped f p ≡ q
told f (both a b r h) k = ap (λ z. got z r) (k a b h)
told f (neither r) k = refl

-- the same answer
pub alike : {A : Type 0} (p q : Answer A) → p ≡ q → Same ◌≡◌ p q
alike {A = A} p q e = subst (λ (z : Answer A). Same ◌≡◌ z q) (sym e) (self q)
  where
    self : (q : Answer A) → Same ◌≡◌ q q
    self (got a r) = both a a r refl
    self (stuck r) = neither r

-- the first in the words of the second
abbrev pub Named : {A B : Type 0} → (B → A) → A → B → Type 0
Named f a b = a ≡ f b

pub label : {A B : Type 0} (f : B → A) (p : Answer A) (q : Answer B) → p ≡ mapped f q → Same (Named f) p q
label {A = A} {B = B} f p q e = subst (λ (z : Answer A). Same (Named f) z q) (sym e) (self q)
  where
    self : (q : Answer B) → Same (Named f) (mapped f q) q
    self (got b r) = both (f b) b r refl
    self (stuck r) = neither r

-- ── a list and what ends it ──
abbrev pub closing : {B : Type 0} → List ℤ → B → Ended ℤ B
closing zs b = record { items = zs; last = b }

abbrev pub close : {B : Type 0} → (List ℕ → Answer B) → List ℤ → List ℕ → Answer (Ended ℤ B)
close q zs x = mapped (closing zs) (q x)

module _ {B K D D' : Type 0} {S : B → K → Type 0} {U : D → D' → Type 0} (q : List ℕ → Answer B) (c : List ℕ → Answer K) (h : (x : List ℕ) → Same S (q x) (c x)) where
  -- and then more
  pub ended_then : (f : Ended ℤ B → List ℕ → Answer D) (g : Row ℤ → K → List ℕ → Answer D') →
      ((zs : List ℤ) (b : B) (k : K) (x : List ℕ) → S b k → Same U (f (closing zs b) x) (g (pushes nothing zs) k x)) →
      (p : Answer (List ℤ)) → Same U (after f (after (close q) p)) (after (λ l r. after (g l) (c r)) (mapped (pushes nothing) p))
  ended_then f g k (got zs r) = by (h r)
    where
      by : {a : Answer B} {b : Answer K} → Same S a b → Same U (after f (mapped (closing zs) a)) (after (g (pushes nothing zs)) b)
      by (both a b r i) = k zs a b r i
      by (neither r) = neither r
  ended_then f g k (stuck r) = neither r

module _ {B K D : Type 0} {S : B → K → Type 0} {U : Ended ℤ B → D → Type 0} (q : List ℕ → Answer B) (c : List ℕ → Answer K) (h : (x : List ℕ) → Same S (q x) (c x)) where
  pub ended : (g : Row ℤ → K → D) → ((zs : List ℤ) (b : B) (k : K) → S b k → U (closing zs b) (g (pushes nothing zs) k)) →
      (p : Answer (List ℤ)) → Same U (after (close q) p) (after (λ l r. mapped (g l) (c r)) (mapped (pushes nothing) p))
  ended g k (got zs r) = by (h r)
    where
      by : {a : Answer B} {b : Answer K} → Same S a b → Same U (mapped (closing zs) a) (mapped (g (pushes nothing zs)) b)
      by (both a b r i) = both (closing zs a) (g (pushes nothing zs) b) r (k zs a b i)
      by (neither r) = neither r
  ended g k (stuck r) = neither r
