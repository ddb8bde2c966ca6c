-- An entry of an array of signed numbers that is a field of a struct is in their range: the array's own predicate says so of each.
use Prim.Native.Nat.{ℕ, zero, suc, ◌^◌, ◌<◌}
use mathlib.Core.List.{List, [], ◌∷◌}
use lib.Dec.{lit<}
use lib.IntN.{ℤ, pos}
use lib.ListN.{get_or}
use lib.Signed.{mag}
use mir.Syntax.{Width, w32, w64}
use mir.Val.{Val, hbits}
use denote.Array.{each}
use denote.Shadow.{shadow}
use denote.Signed.{SInt}

below : (w : Width) → 0 < 2 ^ hbits w → (xs : List ℤ) (us : List Val) (i : ℕ) → shadow (each ℤ (SInt w).own_val xs us) → mag (get_or xs i (pos 0)) < 2 ^ hbits w
below w z [] us i p = z
below w z (x ∷ xs) [] i p = absurd p
below w z (x ∷ xs) (u ∷ us) zero p = p.0.1
below w z (x ∷ xs) (u ∷ us) (suc i) p = below w z xs us i p.1

-- a field's predicate names the entries as they stand
pub within_64 : (xs : List ℤ) (us : List Val) (i : ℕ) → shadow (each ℤ (SInt w64).own_val xs us) → mag (get_or xs i (pos 0)) < 2 ^ 63
within_64 xs us i p = below w64 (lit< tt) xs us i p

pub within_32 : (xs : List ℤ) (us : List Val) (i : ℕ) → shadow (each ℤ (SInt w32).own_val xs us) → mag (get_or xs i (pos 0)) < 2 ^ 31
within_32 xs us i p = below w32 (lit< tt) xs us i p
