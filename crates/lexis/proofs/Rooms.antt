-- Laws of bytes that are laid at the front of a room, one after the other.
use mathlib.Core.Bool.{Bool, true, false}
use mathlib.Core.List.{[], ◌++◌, append-nil}
use mathlib.Core.Path.{◌≡◌, refl, sym, ap, ◌∙◌}
use Prim.Native.Nat.{ℕ, suc, ◌+◌, ◌≤◌, ◌<◌}
use native.Mathlib.Numerals.{add-one}
use native.Mathlib.Omega.{arith}
use borrow.Author.Tests.{leb-true, leb-false}
use lib.Dec.{leb}
use lib.ListN.{length, take, drop, get_or, set, length-set, drop_of_length-le}
use lib.Seq.{take_all, paste, paste-zero, paste-suc}
use Rattle.lexis.specs.Text.{Text}

-- the first i bytes of s stand at the front of the room d, which is t then
pub record Laid (d s t : Text) (i : ℕ) : Type 0 where
  pub same : t ≡ paste d 0 s i
  pub long : length t ≡ length d

pub begun : (d s : Text) → Laid d s d 0
begun d s = record { same = paste-zero d 0 s; long = refl }

pub laid_more : {d s t : Text} {i : ℕ} → Laid d s t i → i < length s → i < length d → Laid d s (set t i (get_or s i 0)) (i + 1)
laid_more {d} {s} {t} {i} p h k =
    let z : i ≡ 0 + i = omega arith in
    let n : suc i ≡ i + 1 = sym (add-one i) in record {
      same = ap (λ (l : Text). set l i (get_or s i 0)) p.same ∙ ap (λ (j : ℕ). set (paste d 0 s i) j (get_or s i 0)) z ∙ paste-suc d 0 s i 0 (omega arith) h ∙ ap (paste d 0 s) n;
      long = length-set t i (get_or s i 0) ∙ p.long;
    }

reached : {i n : ℕ} → i ≤ n → (i < n → ⊥) → i ≡ n
reached {i} {n} h f = by (leb n i) (leb-true n i) (leb-false n i)
  where
    by : (b : Bool) → (b ≡ true → n ≤ i) → (b ≡ false → i < n) → i ≡ n
    by true p q = let l = p refl in omega arith
    by false p q = absurd (f (q refl))

-- all of s is laid, or as much as the room holds
pub laid_all : {d s t : Text} {i : ℕ} → Laid d s t i → i ≤ length s → i ≤ length d → (i < length s → i < length d → ⊥) → t ≡ take (length d) s ++ drop (length s) d
laid_all {d} {s} {t} {i} p h k e = by (leb (length s) (length d)) (leb-true (length s) (length d)) (leb-false (length s) (length d))
  where
    z : 0 + i ≡ i
    z = omega arith

    told : t ≡ take i s ++ drop i d
    told = p.same ∙ ap (λ (j : ℕ). take i s ++ drop j d) z

    by : (b : Bool) → (b ≡ true → length s ≤ length d) → (b ≡ false → length d < length s) → t ≡ take (length d) s ++ drop (length s) d
    by true f g =
        let l = f refl in
        let n : i ≡ length s = reached h (λ x. e x (omega arith)) in
        told ∙ (λ j. take (n j) s ++ drop (n j) d) ∙ ap (λ (u : Text). u ++ drop (length s) d) (take_all (length s) s (omega arith) ∙ sym (take_all (length d) s l))
    by false f g =
        let l = g refl in
        let n : i ≡ length d = reached k (λ x. e (omega arith) x) in
        told ∙ (λ j. take (n j) s ++ drop (n j) d) ∙ ap (λ (u : Text). take (length d) s ++ u) (drop_of_length-le d (omega arith) ∙ sym (drop_of_length-le d (omega arith)))

-- what is just as long as the room fills it
pub laid_whole : (d s : Text) {t : Text} → t ≡ take (length d) s ++ drop (length s) d → length d ≡ length s → t ≡ s
laid_whole d s {t} p e = p ∙ (λ i. take_all (length d) s (omega arith) i ++ drop_of_length-le d {i = length s} (omega arith) i) ∙ append-nil s
