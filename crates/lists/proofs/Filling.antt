-- Arrays filled from a list zs, over the capacity w: when i places are passed, the first i of zs stand there, and zeros past them.
use mathlib.Core.Path.{◌≡◌, refl, sym, ap, ◌∙◌}
use mathlib.Core.List.{List, [], ◌∷◌}
use Prim.Native.Nat.{ℕ, zero, suc, ◌+◌, ◌≤◌, ◌<◌, min}
use mathlib.Core.Bool.{Bool, true, false}
use borrow.Author.Tests.{leb-true, leb-false}
use lib.Dec.{leb}
use native.Mathlib.Nat.{not-suc-le-zero, le_of_suc-le-suc, add-zero}
use native.Mathlib.Numerals.{add-one}
use native.Mathlib.Omega.{arith}
use lib.IntN.{ℤ, pos}
use lib.ListN.{length, take, get_or, set}
use lib.Seq.{take-suc, take_all, length-take-le}
use Rattle.meaning.specs.Found.{padded, filled}
use Rattle.meaning.specs.Views.{count_up}
use Rattle.lists.specs.Laid.{Laid, laid}
use Rattle.lists.specs.Push.{filled_row}
use Rattle.lists.specs.declared.row.Row.{Row}
use Rattle.meaning.proofs.Slots.{slot}

-- ── the array ──

cut_off : (w : ℕ) (zs : List ℤ) → padded w (take w zs) ≡ padded w zs
cut_off zero zs = refl
cut_off (suc w) [] = refl
cut_off (suc w) (z ∷ zs) = ap (λ (l : List ℤ). z ∷ l) (cut_off w zs)

module _ (w : ℕ) (zs : List ℤ) where
  pub record Filled (vs : List ℤ) (i : ℕ) : Type 0 where
    pub low : i ≤ w
    pub is : vs ≡ padded w (take i zs)

  pub fresh : Filled (padded w []) 0
  fresh = record { low = omega arith; is = refl }

  module _ {vs vs' : List ℤ} {i : ℕ} (g : Filled vs i) (h : i < w) where
    pub store : {z : ℤ} → i < length zs → z ≡ get_or zs i (pos 0) → vs' ≡ set vs i z → Filled vs' (i + 1)
    store {z} k e q =
        let m : length (take i zs) ≡ i = length-take-le i zs (omega arith) in
        record {
          low = omega arith;
          is =
              q ∙ (λ j. set (g.is j) i (e j)) ∙ ap (λ (n : ℕ). set (padded w (take i zs)) n (get_or zs i (pos 0))) (sym m)
              ∙ slot w (take i zs) (get_or zs i (pos 0)) ∙ ap (padded w) (sym (take-suc zs i (pos 0) k) ∙ ap (λ (n : ℕ). take n zs) (sym (add-one i)));
        }

  -- all that there is room for has been stored
  pub whole : {vs : List ℤ} {i n : ℕ} {r : Row} → Filled vs i → min n w ≤ i → n ≡ length zs → r ≡ filled_row n
      → ◌≡◌ {A = Laid} (record { values = vs; row = r }) (laid w (filled zs))
  whole {i = i} g h m a =
      let v = g.is ∙ all i g.low (omega arith) in
      let l = a ∙ ap filled_row m in
      λ j. record { values = v j; row = l j }
    where
      all : (i : ℕ) → i ≤ w → min (length zs) w ≤ i → padded w (take i zs) ≡ padded w zs
      all i l h = by (leb (length zs) i) (leb-true (length zs) i) (leb-false (length zs) i)
        where
          by : (b : Bool) → (b ≡ true → length zs ≤ i) → (b ≡ false → i < length zs) → padded w (take i zs) ≡ padded w zs
          by true f g = ap (padded w) (take_all i zs (f refl))
          by false f g = let k = g refl in let e : i ≡ w = omega arith in ap (λ (j : ℕ). padded w (take j zs)) e ∙ cut_off w zs

-- ── counting up ──

pub length_up : (k n : ℕ) → length (count_up k n) ≡ n
length_up k zero = refl
length_up k (suc n) = ap suc (length_up (k + 1) n)

up_at : (k n i : ℕ) (d : ℤ) → i < n → get_or (count_up k n) i d ≡ pos (k + i)
up_at k zero i d h = absurd (not-suc-le-zero h)
up_at k (suc n) zero d h = ap pos (sym (add-zero k))
up_at k (suc n) (suc i) d h = up_at (k + 1) n i d (le_of_suc-le-suc h) ∙ ap pos (omega arith)

pub from_0 : (n i : ℕ) → i < n → pos i ≡ get_or (count_up 0 n) i (pos 0)
from_0 n i h = sym (up_at 0 n i (pos 0) h ∙ ap pos (omega arith))
