-- Laws of splitting at a byte x: the first part is what stands before the first x, and the rest is split in turn.
use Rattle.std.specs.Prelude.{if◌then◌else◌}
use mathlib.Core.Path.{◌≡◌, refl, ap}
use mathlib.Core.Bool.{Bool, true, false}
use mathlib.Core.List.{List, [], ◌∷◌}
use Prim.Native.Nat.{ℕ, suc, ◌+◌, ◌-◌, ◌≤◌, ◌<◌}
use native.Mathlib.Omega.{arith}
use lib.Dec.{eqb}
use lib.ListN.{length, take, drop, length-drop}
use Rattle.lexis.specs.Text.{Text, until, onto_first, split}
use Rattle.lexis.proofs.Lists.{rest}
use Rattle.lexis.proofs.Seeking.{until_within}

-- the parts behind the first
abbrev pub tail : List Text → List Text
tail [] = []
tail (e ∷ es) = es

module _ (x : ℕ) where
  pub split_more : (t : List ℕ) → length (until (eqb x) t) < length t → split x t ≡ until (eqb x) t ∷ split x (drop (suc (length (until (eqb x) t))) t)
  split_more [] h = let f : ⊥ = omega arith in absurd f
  split_more (b ∷ t) h = by (eqb x b) (split_more t) h
    where
      by : (d : Bool) → (length (until (eqb x) t) < length t → split x t ≡ until (eqb x) t ∷ split x (drop (suc (length (until (eqb x) t))) t))
          → length (if d then [] else b ∷ until (eqb x) t) < suc (length t)
          → if d then [] ∷ split x t else onto_first b (split x t) ≡ (if d then [] else b ∷ until (eqb x) t) ∷ split x (drop (length (if d then [] else b ∷ until (eqb x) t)) t)
      by true e k = refl
      by false e k = ap (onto_first b) (e (omega arith))

  pub split_last : (t : List ℕ) → length t ≤ length (until (eqb x) t) → split x t ≡ until (eqb x) t ∷ []
  split_last [] h = refl
  split_last (b ∷ t) h = by (eqb x b) (split_last t) h
    where
      by : (d : Bool) → (length t ≤ length (until (eqb x) t) → split x t ≡ until (eqb x) t ∷ [])
          → suc (length t) ≤ length (if d then [] else b ∷ until (eqb x) t)
          → if d then [] ∷ split x t else onto_first b (split x t) ≡ (if d then [] else b ∷ until (eqb x) t) ∷ []
      by true e k = let f : ⊥ = omega arith in absurd f
      by false e k = ap (onto_first b) (e (omega arith))

  pub split_some : (t : List ℕ) → split x t ≡ until (eqb x) t ∷ tail (split x t)
  split_some [] = refl
  split_some (b ∷ t) = by (eqb x b) (split_some t)
    where
      by : (d : Bool) → split x t ≡ until (eqb x) t ∷ tail (split x t)
          → if d then [] ∷ split x t else onto_first b (split x t) ≡ (if d then [] else b ∷ until (eqb x) t) ∷ tail (if d then [] ∷ split x t else onto_first b (split x t))
      by true e = refl
      by false e = rw e

  -- the first part by its length, and what is left behind the byte x after it
  module _ (t : List ℕ) (k : ℕ) where
    pub short : k ≡ length (until (eqb x) t) → k ≤ length t
    short e = rw e (until_within (eqb x) t)

    pub less : k < length t → length (take (length t - (k + 1)) (drop (k + 1) t)) < length t
    less h = rw (rest t (k + 1), length-drop) (omega arith)
