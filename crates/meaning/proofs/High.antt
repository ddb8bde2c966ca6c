-- The first byte of 128 or more, by how many bytes stand before it.
use Rattle.std.specs.Prelude.{if◌then◌else◌, None, Some}
use Prim.Native.Nat.{ℕ, suc, ◌+◌, ◌≤◌, ◌<◌}
use native.Mathlib.Omega.{arith}
use mathlib.Core.Bool.{Bool, true, false}
use mathlib.Core.List.{[], ◌∷◌}
use mathlib.Core.Path.{◌≡◌, refl, ap, ◌∙◌}
use borrow.Author.Tests.{le-ltb}
use lib.Dec.{leb}
use lib.ListN.{length}
use Rattle.lexis.specs.Text.{Text, outside, until}
use Rattle.meaning.specs.Ordinary.{high_from}

abbrev low : Text → ℕ
low s = length (until (leb 128) s)

-- no byte is below 0
pub low_is : (s : Text) → length (until (outside 0 127) s) ≡ low s
low_is s = ap length (by s)
  where
    by : (s : Text) → until (outside 0 127) s ≡ until (leb 128) s
    by [] = refl
    by (b ∷ s) = rw (le-ltb b 0 (omega arith), by s)

at_from : (k : ℕ) (s : Text) → low s < length s → high_from k s ≡ Some (k + low s)
at_from k [] h = let f : ⊥ = omega arith in absurd f
at_from k (b ∷ s) h = by (leb 128 b) h (at_from (suc k) s)
  where
    by : (c : Bool) → length (if c then [] else b ∷ until (leb 128) s) < suc (length s) → (low s < length s → high_from (suc k) s ≡ Some (suc k + low s)) →
        (if c then Some k else high_from (suc k) s) ≡ Some (k + length (if c then [] else b ∷ until (leb 128) s))
    by true g r = ap Some (omega arith)
    by false g r = r (omega arith) ∙ ap Some (omega arith)

none_from : (k : ℕ) (s : Text) → length s ≤ low s → high_from k s ≡ None
none_from k [] h = refl
none_from k (b ∷ s) h = by (leb 128 b) h (none_from (suc k) s)
  where
    by : (c : Bool) → suc (length s) ≤ length (if c then [] else b ∷ until (leb 128) s) → (length s ≤ low s → high_from (suc k) s ≡ None) → (if c then Some k else high_from (suc k) s) ≡ None
    by true g r = let f : ⊥ = omega arith in absurd f
    by false g r = r (omega arith)

pub high_at : (s : Text) (i : ℕ) → i ≡ low s → i < length s → high_from 0 s ≡ Some i
high_at s i e h = at_from 0 s (omega arith) ∙ ap Some (omega arith)

pub high_none : (s : Text) (i : ℕ) → i ≡ low s → length s ≤ i → high_from 0 s ≡ None
high_none s i e h = none_from 0 s (omega arith)
