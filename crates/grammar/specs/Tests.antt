-- Computed tests: both, one of two, each of a list, true and false.
use Rattle.std.specs.Prelude.{ℕ, zero, suc, Bool, true, false, ◌&&◌, ◌||◌, not, List, [], ◌∷◌, ◌++◌, ◌≡◌, refl, T}
use Rattle.meaning.specs.Strict.{nth}

abbrev pub every {ℓ} : {A : Type ℓ} → (A → Bool) → List A → Bool
every f [] = true
every f (x ∷ xs) = f x && every f xs

pub and_left : (a b : Bool) → T (a && b) → T a
and_left true b t = tt
and_left false b t = t

pub and_right : (a b : Bool) → T (a && b) → T b
and_right true b t = t
and_right false b t = absurd t

pub and_in : (a b : Bool) → T a → T b → T (a && b)
and_in true b h k = k
and_in false b h k = absurd h

pub or_left : (a b : Bool) → T a → T (a || b)
or_left true b h = tt
or_left false b h = absurd h

pub or_cases : {X : Type 0} (a b : Bool) → (T a → X) → (T b → X) → T (a || b) → X
or_cases true b f g h = f tt
or_cases false b f g h = g h

pub is_true : (k : Bool) → T k → k ≡ true
is_true true h = refl
is_true false h = absurd h

pub TNotEq : (k : Bool) → T (not k) → k ≡ false
TNotEq true h = absurd h
TNotEq false h = refl

-- ── of lists ──
module _ {A : Type 0} where
  pub every_mono : (f g : A → Bool) → ((a : A) → T (f a) → T (g a)) → (l : List A) → T (every f l) → T (every g l)
  every_mono f g i [] h = tt
  every_mono f g i (a ∷ l) h = and_in (g a) (every g l) (i a (and_left (f a) (every f l) h)) (every_mono f g i l (and_right (f a) (every f l) h))

  pub every-++ : (f : A → Bool) (k l : List A) → T (every f k) → T (every f l) → T (every f (k ++ l))
  every-++ f [] l h j = j
  every-++ f (a ∷ k) l h j = and_in (f a) (every f (k ++ l)) (and_left (f a) (every f k) h) (every-++ f k l (and_right (f a) (every f k) h) j)

  pub every_nth : (f : A → Bool) (a : A) → T (f a) → (l : List A) → T (every f l) → (i : ℕ) → T (f (nth a l i))
  every_nth f a n [] h i = n
  every_nth f a n (x ∷ l) h zero = and_left (f x) (every f l) h
  every_nth f a n (x ∷ l) h (suc i) = every_nth f a n l (and_right (f x) (every f l) h) i
