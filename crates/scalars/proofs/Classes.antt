-- A match on a scalar with several kinds to an arm: what holds of each kind of the arm holds of the scalar.
use mathlib.Core.Path.{◌≡◌, refl, sym, ap, ◌∙◌}
use mathlib.Core.Logic.{inl, inr}
use mathlib.Core.List.{List, [], ◌∷◌, map}
use Prim.Native.Nat.{ℕ}
use lib.ListN.{get_or}
use denote.Enum.Declared.{tag_of}
use types.Run.{OneOf}
use Rattle.scalars.specs.contracts.scalar.Scalar.{the_type}
use Rattle.scalars.specs.declared.scalar.Scalar.{Scalar}
use Rattle.scalars.specs.declared.scalar.Scalar.TheVariants.{I1, I4, I8, I16, I32, I64, F16, BF16, F32, TF32, F64, F8E4M3FN, F8E5M2, F8E8M0FNU, F4E2M1FN, F8E5M3FNU}

abbrev tag : Scalar → ℕ
tag s = tag_of the_type s

abbrev all : List Scalar
all = I1 ∷ I4 ∷ I8 ∷ I16 ∷ I32 ∷ I64 ∷ F16 ∷ BF16 ∷ F32 ∷ TF32 ∷ F64 ∷ F8E4M3FN ∷ F8E5M2 ∷ F8E8M0FNU ∷ F4E2M1FN ∷ F8E5M3FNU ∷ []

module _ {A : Type 0} (f : Scalar → A) where
  by_tag : (s : Scalar) → f s ≡ get_or (map f all) (tag s) (f I1)
  by_tag I1 = refl
  by_tag I4 = refl
  by_tag I8 = refl
  by_tag I16 = refl
  by_tag I32 = refl
  by_tag I64 = refl
  by_tag F16 = refl
  by_tag BF16 = refl
  by_tag F32 = refl
  by_tag TF32 = refl
  by_tag F64 = refl
  by_tag F8E4M3FN = refl
  by_tag F8E5M2 = refl
  by_tag F8E8M0FNU = refl
  by_tag F4E2M1FN = refl
  by_tag F8E5M3FNU = refl

  alike : (s t : Scalar) → tag s ≡ tag t → f t ≡ f s
  alike s t e = by_tag t ∙ sym (ap (λ (k : ℕ). get_or (map f all) k (f I1)) e) ∙ sym (by_tag s)

  pub each : (v : A) (ts : List Scalar) (s : Scalar) → map f ts ≡ map (λ (t : Scalar). v) ts → OneOf (map tag ts) (tag s) → v ≡ f s
  each v [] s e h = absurd h
  each v (t ∷ []) s e h = let p : v ≡ f t = cc in p ∙ alike s t h
  each v (t ∷ u ∷ ts) s e (inl h) = let p : v ≡ f t = cc in p ∙ alike s t h
  each v (t ∷ u ∷ ts) s e (inr h) = let p : map f (u ∷ ts) ≡ map (λ (t : Scalar). v) (u ∷ ts) = cc in each v (u ∷ ts) s p h
