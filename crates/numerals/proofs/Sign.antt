-- Signed numbers of any width, out of a magnitude: -1 - (n - 1), as the code has it, fits and is -n.
use mathlib.Core.Path.{◌≡◌, refl, ap, ◌∙◌}
use Prim.Native.Nat.{ℕ, zero, suc, ◌-◌, ◌^◌, ◌≤◌}
use native.Mathlib.Nat.{zero-add}
use native.Mathlib.Numerals.{sub-one}
use lib.IntN.{pos, negsuc, neg_ℤ, ◌-ℤ◌}
use mir.Syntax.{Width}
use mir.Val.{SFits, to_z, of_z, hbits}
use mir.ValLaws.{to_z_pos, to_z-of_z}

module _ (w : Width) where
  less : (m : ℕ) → negsuc 0 -ℤ pos m ≡ negsuc m
  less zero = refl
  less (suc m) = ap (λ (k : ℕ). negsuc (suc k)) (zero-add m)

  value : (n : ℕ) → ¬ (n ≡ 0) → n ≤ 2 ^ hbits w → negsuc 0 -ℤ to_z w (n - 1) ≡ neg_ℤ (pos n)
  value zero z h = absurd (z refl)
  value (suc m) z h = rw (sub-one, to_z_pos w m h) (less m)

  fits : (n : ℕ) → ¬ (n ≡ 0) → n ≤ 2 ^ hbits w → SFits w (neg_ℤ (pos n))
  fits zero z h = absurd (z refl)
  fits (suc m) z h = record { sfits = h }

  -- as the code has it
  pub minus_fits : (n : ℕ) → ¬ (n ≡ 0) → n ≤ 2 ^ hbits w → SFits w (negsuc 0 -ℤ to_z w (n - 1))
  minus_fits n z h = rw (value n z h) (fits n z h)

  pub minus_is : (n : ℕ) → ¬ (n ≡ 0) → n ≤ 2 ^ hbits w → to_z w (of_z w (negsuc 0 -ℤ to_z w (n - 1))) ≡ neg_ℤ (pos n)
  minus_is n z h = to_z-of_z w _ (minus_fits n z h) ∙ value n z h
