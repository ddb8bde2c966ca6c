-- Laws of signed numbers as the machine has them: a 32-bit number at 64 bits, and how far a number is from 0.
use mathlib.Core.Path.{◌≡◌, ap}
use mathlib.Core.Bool.{true, false}
use Prim.Native.Nat.{ℕ, suc, ◌+◌, ◌^◌, ◌≤◌, ◌<◌}
use native.Mathlib.Numerals.{add-one}
use native.Mathlib.Omega.{arith}
use borrow.Author.Tests.{ltb-true, le-ltb}
use lib.Dec.{T}
use lib.IntN.{ℤ, pos, negsuc, nat_abs, ◌-ℤ◌}
use lib.Signed.{lt_z, non_neg, mag}
use mir.Syntax.{w32, w64}
use mir.Val.{SFits, to_z, of_z}
use mir.ValLaws.{to_z-of_z}

pub wider : {z : ℤ} → SFits w32 z → SFits w64 z
wider f = record { sfits = omega arith }

pub wide : {z : ℤ} → SFits w32 z → to_z w64 (of_z w64 (to_z w32 (of_z w32 z))) ≡ z
wide f = rw (to_z-of_z w32 _ f, to_z-of_z w64 _ (wider f))

-- -1 - z of a negative z, with no special case for the smallest
pub flipped : (z : ℤ) → lt_z z (pos 0) ≡ true → negsuc 0 -ℤ z ≡ pos (mag z)
flipped (pos n) e = let h : n < 0 = ltb-true n 0 e in let f : ⊥ = omega arith in absurd f
flipped (negsuc n) e = rw (le-ltb (suc n) 1 (omega arith)) (ap pos (omega arith))

pub abs : (z : ℤ) → lt_z z (pos 0) ≡ true → mag z + 1 ≡ nat_abs z
abs (pos n) e = let h : n < 0 = ltb-true n 0 e in let f : ⊥ = omega arith in absurd f
abs (negsuc n) e = add-one n

pub nonneg : (z : ℤ) → lt_z z (pos 0) ≡ false → T (non_neg z)
nonneg (pos n) e = tt
nonneg (negsuc n) e = let f : ◌≡◌ {A = ℕ} 0 1 = cc in let g : ⊥ = omega arith in absurd g

pub in_u64 : (z : ℤ) → SFits w64 z → nat_abs z ≤ 2 ^ 63
in_u64 (pos n) f = omega arith
in_u64 (negsuc n) f = omega arith
