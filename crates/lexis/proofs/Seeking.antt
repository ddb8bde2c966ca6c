-- Laws of seeking: equality, prefixes, the first place of a text in a text, what stands before a byte.
use Rattle.std.specs.Prelude.{if◌then◌else◌, nat_eq, Option, None, Some}
use Rattle.std.specs.Cmp.Lexicographic.{pointwise}
use mathlib.Core.Path.{◌≡◌, refl, sym, ap, ◌∙◌}
use mathlib.Core.Bool.{Bool, true, false, ◌&&◌, false≢true}
use mathlib.Core.List.{List, [], ◌∷◌}
use Prim.Native.Nat.{ℕ, zero, suc, ◌+◌, ◌≤◌, ◌<◌}
use native.Mathlib.Nat.{zero-add, add-zero, suc-add}
use native.Mathlib.Omega.{arith}
use lib.Dec.{eqb}
use lib.ListN.{length, take, drop, get_or, drop_of_length-le}
use lib.Seq.{drop-nil}
use borrow.Author.Tests.{eq-eqb, ne_eqb, eqb-true, eqb-false}
use Rattle.lexis.specs.Text.{same, begins, after, Cut, nowhere, at, later, cut, found, place, until}
use Rattle.lexis.proofs.Lists.{view}

-- ── prefixes, one byte at a time ──

module _ (p s : List ℕ) (j k : ℕ) (h : j < length p) where
  pub ended : length s ≤ k → begins (drop j p) (drop k s) ≡ false
  ended l = rw (view p j h, drop_of_length-le s l)

  pub differs : k < length s → (get_or p j 0 ≡ get_or s k 0 → ⊥) → begins (drop j p) (drop k s) ≡ false
  differs l n = rw (view p j h, view s k l, ne_eqb (get_or p j 0) (get_or s k 0) n)

  pub agrees : k < length s → get_or p j 0 ≡ get_or s k 0 → begins (drop j p) (drop k s) ≡ begins (drop (j + 1) p) (drop (k + 1) s)
  agrees l e = rw (view p j h, view s k l, eq-eqb (get_or p j 0) (get_or s k 0) e)

pub all_passed : (p t : List ℕ) (j : ℕ) → length p ≤ j → begins (drop j p) t ≡ true
all_passed p t j l = rw (drop_of_length-le p l)

-- the library's test of a beginning
pub starts : (p s : List ℕ) → pointwise nat_eq p (take (length p) s) ≡ begins p s
starts [] s = refl
starts (c ∷ p) [] = refl
starts (c ∷ p) (b ∷ s) = ap (λ (d : Bool). nat_eq c b && d) (starts p s)

-- ── equality ──

pub turned : (a b : ℕ) → eqb a b ≡ eqb b a
turned a b = by (eqb a b) refl
  where
    by : (d : Bool) → eqb a b ≡ d → d ≡ eqb b a
    by true e = sym (eq-eqb b a (sym (eqb-true a b e)))
    by false e = sym (ne_eqb b a (λ f. eqb-false a b e (sym f)))

pub never : (d : Bool) → d && false ≡ false
never true = refl
never false = refl

pub unlike : (a b : List ℕ) → (length a ≡ length b → ⊥) → same a b ≡ false
unlike [] [] n = absurd (n refl)
unlike [] (y ∷ t) n = refl
unlike (x ∷ s) [] n = refl
unlike (x ∷ s) (y ∷ t) n = ap (λ (d : Bool). eqb x y && d) (unlike s t (λ e. n (ap suc e))) ∙ never (eqb x y)

pub alike : (a b : List ℕ) → length a ≡ length b → begins a b ≡ same a b
alike [] [] e = refl
alike [] (y ∷ t) e = let f : ⊥ = omega arith in absurd f
alike (x ∷ s) [] e = refl
alike (x ∷ s) (y ∷ t) e = ap (λ (d : Bool). eqb x y && d) (alike s t (omega arith))

-- ── the first place ──

-- a place in the rest from i on, as one in the whole
abbrev pub shifted : ℕ → Option ℕ → Option ℕ
shifted i None = None
shifted i (Some n) = Some (i + n)

pub unshifted : (o : Option ℕ) → o ≡ shifted 0 o
unshifted None = refl
unshifted (Some n) = ap Some (sym (zero-add n))

further : (b i : ℕ) (c : Cut) → shifted i (place (later b c)) ≡ shifted (i + 1) (place c)
further b i nowhere = refl
further b i (at u t) = ap Some (omega arith)

here : (p t : List ℕ) → begins p t ≡ true → place (cut p t) ≡ Some 0
here p [] e = rw e
here p (b ∷ t) e = rw e

module _ (p s : List ℕ) (i : ℕ) where
  pub hit : begins p (drop i s) ≡ true → shifted i (place (cut p (drop i s))) ≡ Some i
  hit e = ap (shifted i) (here p (drop i s) e) ∙ ap Some (add-zero i)

  pub miss : i < length s → begins p (drop i s) ≡ false
      → shifted i (place (cut p (drop i s))) ≡ shifted (i + 1) (place (cut p (drop (i + 1) s)))
  miss h e = rw (view s i h) (rw (rw (view s i h) at e) (further (get_or s i 0) i (cut p (drop (i + 1) s))))

  pub gone : length s ≤ i → begins p (drop i s) ≡ false → shifted i (place (cut p (drop i s))) ≡ None
  gone h e = rw (drop_of_length-le s h) (rw (rw (drop_of_length-le s h) at e))

pub nothing_sought : (p s : List ℕ) → length p ≡ 0 → Some 0 ≡ place (cut p s)
nothing_sought [] s z = sym (here [] s refl)
nothing_sought (c ∷ p) s z = let f : ⊥ = omega arith in absurd f

-- a place that is told is found, and none is not
pub told : (c : Cut) {n : ℕ} → place c ≡ Some n → found c ≡ true
told nowhere e = let z : ◌≡◌ {A = ℕ} 0 1 = cc in let f : ⊥ = omega arith in absurd f
told (at u t) e = refl

pub untold : (c : Cut) → place c ≡ None → found c ≡ false
untold nowhere e = refl
untold (at u t) e = let z : ◌≡◌ {A = ℕ} 0 1 = cc in let f : ⊥ = omega arith in absurd f

-- ── up to a byte ──

module _ (p : ℕ → Bool) (s : List ℕ) (i : ℕ) where
  pub until_step : i < length s → p (get_or s i 0) ≡ false → i + length (until p (drop i s)) ≡ (i + 1) + length (until p (drop (i + 1) s))
  until_step h e = rw (view s i h, e) (omega arith)

  pub until_stop : i < length s → p (get_or s i 0) ≡ true → i + length (until p (drop i s)) ≡ i
  until_stop h e = rw (view s i h, e) (omega arith)

  pub until_end : length s ≤ i → i + length (until p (drop i s)) ≡ i
  until_end h = rw (drop_of_length-le s h) (omega arith)

pub until_here : (p : ℕ → Bool) (s : List ℕ) (i : ℕ) → p (get_or s i 0) ≡ true → until p (drop i s) ≡ []
until_here p [] i e = rw (drop-nil i)
until_here p (b ∷ s) zero e = rw e
until_here p (b ∷ s) (suc i) e = until_here p s i e

-- what stands before is a beginning of the text
pub until_within : (p : ℕ → Bool) (s : List ℕ) → length (until p s) ≤ length s
until_within p [] = omega arith
until_within p (b ∷ s) = by (p b) (until_within p s)
  where
    by : (d : Bool) → length (until p s) ≤ length s → length (if d then [] else b ∷ until p s) ≤ suc (length s)
    by true h = omega arith
    by false h = omega arith

pub until_take : (p : ℕ → Bool) (s : List ℕ) → take (length (until p s)) s ≡ until p s
until_take p [] = refl
until_take p (b ∷ s) = by (p b) (until_take p s)
  where
    by : (d : Bool) → take (length (until p s)) s ≡ until p s → take (length (if d then [] else b ∷ until p s)) (b ∷ s) ≡ if d then [] else b ∷ until p s
    by true e = refl
    by false e = ap (λ (l : List ℕ). b ∷ l) e

-- ── for callers: a prefix and a first place, by the bytes taken and left ──

pub right : (x y : Bool) → x && y ≡ true → y ≡ true
right true y e = e
right false y e = absurd (false≢true e)

pub begins_within : (p s : List ℕ) → begins p s ≡ true → length p ≤ length s
begins_within [] s e = omega arith
begins_within (c ∷ p) [] e = absurd (false≢true e)
begins_within (c ∷ p) (b ∷ s) e = let h : length p ≤ length s = begins_within p s (right (eqb c b) (begins p s) e) in omega arith

-- a text that is longer than another stands nowhere in it
pub too_short : (p s : List ℕ) → length s < length p → begins p s ≡ false
too_short p s h = by (begins p s) (begins_within p s)
  where
    by : (d : Bool) → (d ≡ true → length p ≤ length s) → d ≡ false
    by true f = let g = f refl in let z : ⊥ = omega arith in absurd z
    by false f = refl

pub nowhere_short : (p s : List ℕ) → length s < length p → place (cut p s) ≡ None
nowhere_short p [] h = rw (too_short p [] h)
nowhere_short p (b ∷ s) h = rw (too_short p (b ∷ s) h) (by (cut p s) (nowhere_short p s (omega arith)))
  where
    by : (c : Cut) → place c ≡ None → place (later b c) ≡ None
    by nowhere e = refl
    by (at u t) e = let z : ◌≡◌ {A = ℕ} 0 1 = cc in let f : ⊥ = omega arith in absurd f

pub after_drop : (p s : List ℕ) → begins p s ≡ true → after p s ≡ drop (length p) s
after_drop [] s e = refl
after_drop (c ∷ p) [] e = refl
after_drop (c ∷ p) (b ∷ s) e = after_drop p s (right (eqb c b) (begins p s) e)

-- u stands before p in s, and t follows it
pub record Parted (p s u t : List ℕ) : Type 0 where
  pub front : u ≡ take (length u) s
  pub back : t ≡ drop (length u + length p) s
  pub room : length u + length p ≤ length s

abbrev pub Reach : List ℕ → List ℕ → Cut → Type 0
Reach p s nowhere = Unit {0}
Reach p s (at u t) = Parted p s u t

onward : (p s : List ℕ) (b : ℕ) (c : Cut) → Reach p s c → Reach p (b ∷ s) (later b c)
onward p s b nowhere r = tt
onward p s b (at u t) r =
    record {
      front = ap (λ (l : List ℕ). b ∷ l) r.front;
      back = rw suc-add r.back;
      room = omega (arith, r.room);
    }

pub reach : (p s : List ℕ) → Reach p s (cut p s)
reach p [] = by (begins p []) (begins_within p [])
  where
    by : (d : Bool) → (d ≡ true → length p ≤ 0) → Reach p [] (if d then at [] [] else nowhere)
    by true h = record { front = refl; back = sym (drop-nil (0 + length p)); room = omega (arith, h refl) }
    by false h = tt
reach p (b ∷ s) = by (begins p (b ∷ s)) (begins_within p (b ∷ s)) (after_drop p (b ∷ s)) (reach p s)
  where
    by : (d : Bool) → (d ≡ true → length p ≤ suc (length s)) → (d ≡ true → after p (b ∷ s) ≡ drop (length p) (b ∷ s)) → Reach p s (cut p s)
        → Reach p (b ∷ s) (if d then at [] (after p (b ∷ s)) else later b (cut p s))
    by true h g r = record { front = refl; back = rw zero-add (g refl); room = omega (arith, h refl) }
    by false h g r = onward p s b (cut p s) r

module _ (p s : List ℕ) (i : ℕ) where
  pub cut_at : place (cut p s) ≡ Some i → cut p s ≡ at (take i s) (drop (i + length p) s)
  cut_at e = by (cut p s) (reach p s) e
    where
      by : (c : Cut) → Reach p s c → place c ≡ Some i → c ≡ at (take i s) (drop (i + length p) s)
      by nowhere r e = let z : ◌≡◌ {A = ℕ} 0 1 = cc in let f : ⊥ = omega arith in absurd f
      by (at u t) r e =
          let k : length u ≡ i = cc in
          let f : u ≡ take i s = r.front ∙ ap (λ (n : ℕ). take n s) k in
          let g : t ≡ drop (i + length p) s = r.back ∙ ap (λ (n : ℕ). drop (n + length p) s) k in
          λ j. at (f j) (g j)

  pub cut_within : place (cut p s) ≡ Some i → i + length p ≤ length s
  cut_within e = by (cut p s) (reach p s) e
    where
      by : (c : Cut) → Reach p s c → place c ≡ Some i → i + length p ≤ length s
      by nowhere r e = let z : ◌≡◌ {A = ℕ} 0 1 = cc in let f : ⊥ = omega arith in absurd f
      by (at u t) r e = let k : length u ≡ i = cc in omega (arith, r.room)

pub cut_nowhere : (p s : List ℕ) → place (cut p s) ≡ None → cut p s ≡ nowhere
cut_nowhere p s e = by (cut p s) e
  where
    by : (c : Cut) → place c ≡ None → c ≡ nowhere
    by nowhere e = refl
    by (at u t) e = let z : ◌≡◌ {A = ℕ} 0 1 = cc in let f : ⊥ = omega arith in absurd f
