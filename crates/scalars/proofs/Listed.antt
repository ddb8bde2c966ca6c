-- A list of spellings, each with its scalar, as the code has it: one entry more is looked at, as in the definition.
use Rattle.std.proofs.Common.{◌≡◌, ℕ, zero, suc, ◌+◌, ◌<◌, true, false, List, [], ◌∷◌, length, drop, ap, ◌∙◌, slice_index_or}
use Rattle.std.specs.Prelude.{Some}
use native.Mathlib.Omega.{arith}
use Rattle.lexis.specs.Text.{Text, bytes, same}
use Rattle.scalars.specs.Names.{Name, named_in}
use Rattle.scalars.specs.declared.scalar.Scalar.{Scalar}

module _ {X : Type 0} (f : X → Text) (g : X → Scalar) where
  abbrev as_names : List X → List Name → Type 0
  as_names [] [] = Unit {0}
  as_names [] (n ∷ ns) = ⊥
  as_names (x ∷ xs) [] = ⊥
  as_names (x ∷ xs) (n ∷ ns) = (f x ≡ bytes n.spelling) × (g x ≡ n.scalar) × as_names xs ns

  -- the entries of the code are those of the definition
  pub record Listed (xs : List X) (ns : List Name) : Type 0 where
    pub each : as_names xs ns

  module _ (s : Text) where
    found : (xs : List X) (ns : List Name) (i : ℕ) (d : X) → as_names xs ns → i < length xs → same (f (slice_index_or xs i d)) s ≡ true →
        named_in (drop i ns) s ≡ Some (g (slice_index_or xs i d))
    found [] ns i d a h e = let q : ⊥ = omega arith in absurd q
    found (x ∷ xs) [] i d a h e = absurd a
    found (x ∷ xs) (n ∷ ns) zero d a h e = rw (← a.0, e, a.1)
    found (x ∷ xs) (n ∷ ns) (suc i) d a h e = found xs ns i d a.2 (omega arith) e

    passed : (xs : List X) (ns : List Name) (i : ℕ) (d : X) → as_names xs ns → i < length xs → same (f (slice_index_or xs i d)) s ≡ false →
        named_in (drop i ns) s ≡ named_in (drop (i + 1) ns) s
    passed [] ns i d a h e = let q : ⊥ = omega arith in absurd q
    passed (x ∷ xs) [] i d a h e = absurd a
    passed (x ∷ xs) (n ∷ ns) zero d a h e = rw (← a.0, e)
    passed (x ∷ xs) (n ∷ ns) (suc i) d a h e =
        passed xs ns i d a.2 (omega arith) e ∙ ap (λ (k : ℕ). named_in (drop k (n ∷ ns)) s) {x = suc (i + 1)} {y = suc i + 1} (omega arith)

    pub hit : {xs : List X} {ns : List Name} {i : ℕ} (d : X) → Listed xs ns → i < length xs → same (f (slice_index_or xs i d)) s ≡ true →
        named_in (drop i ns) s ≡ Some (g (slice_index_or xs i d))
    hit {xs} {ns} {i} d l h e = found xs ns i d l.each h e

    pub miss : {xs : List X} {ns : List Name} {i : ℕ} (d : X) → Listed xs ns → i < length xs → same (f (slice_index_or xs i d)) s ≡ false →
        named_in (drop i ns) s ≡ named_in (drop (i + 1) ns) s
    miss {xs} {ns} {i} d l h e = passed xs ns i d l.each h e
