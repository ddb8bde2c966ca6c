-- A list in an array: one entry more, stored at its length, is the longer list; past the end storing changes nothing.
use Prim.Native.Nat.{ℕ, zero, suc}
use mathlib.Core.List.{List, [], ◌∷◌, ◌++◌}
use mathlib.Core.Path.{◌≡◌, refl, ap}
use lib.IntN.{ℤ}
use lib.ListN.{length, set}
use Rattle.meaning.specs.Found.{padded}

pub slot : (n : ℕ) (zs : List ℤ) (z : ℤ) → set (padded n zs) (length zs) z ≡ padded n (zs ++ z ∷ [])
slot zero zs z = refl
slot (suc n) [] z = refl
slot (suc n) (y ∷ ys) z = ap (λ (l : List ℤ). y ∷ l) (slot n ys z)
