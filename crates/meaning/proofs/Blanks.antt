-- Laws of blank entries, over every width and capacity: the machine's test for zero is `is_zero`, and a list is clear by
-- its length first and then entry by entry.
use Rattle.std.specs.Prelude.{if◌then◌else◌}
use Prim.Native.Nat.{ℕ, zero, suc, ◌+◌, ◌-◌, ◌^◌, ◌≤◌, ◌<◌}
use native.Mathlib.Nat.{le_refl}
use native.Mathlib.Omega.{arith}
use native.Mathlib.Numerals.{add-one}
use mathlib.Core.Bool.{Bool, true, false, ◌&&◌}
use mathlib.Core.List.{List, [], ◌∷◌, map}
use mathlib.Core.Path.{◌≡◌, refl, sym, ap, subst, ◌∙◌}
use borrow.Author.Tests.{eq-eqb, ne_eqb, le-leb, lt-leb}
use lib.Dec.{T, eqb}
use lib.IntN.{ℤ, pos, negsuc}
use lib.ListN.{length, take, drop, get_or, length-drop, drop_of_length-le}
use lib.Signed.{mag}
use lib.Seq.{drop-cons, take_all}
use mir.Syntax.{Width, w64}
use mir.Val.{SFits, bits, of_z, to_z}
use mir.ValLaws.{to_z_pos, to_z-neg}
use Rattle.meaning.specs.Normal.{is_zero, all_zero, clear}

-- the bits of z are 0 exactly when z is: no negative number of w bits has them
pub zero_bits : (w : Width) (z : ℤ) → SFits w z → eqb (of_z w z) 0 ≡ is_zero z
zero_bits w (pos n) f = refl
zero_bits w (negsuc n) f = ne_eqb (2 ^ bits w - suc n) 0 (λ e. apart (sym (ap (to_z w) e) ∙ to_z-neg w n f.sfits))
  where
    apart : to_z w 0 ≡ negsuc n → ⊥
    apart e = subst (λ (z : ℤ). T (is_zero z)) (sym (to_z_pos w 0 (omega (arith, f.sfits))) ∙ e) tt

-- ── a list is clear ──

pub over : (cap : ℕ) (used : Bool) (n : ℕ) (l : List ℤ) → (if used then cap else 0) < n → clear cap used n l ≡ false
over cap used n l h = rw (lt-leb n (if used then cap else 0) h)

module _ {X : Type 0} (is : X → ℤ) where
  whole : (n : ℕ) (l : List X) → drop n (map is l) ≡ map is (drop n l)
  whole zero l = refl
  whole (suc n) [] = refl
  whole (suc n) (x ∷ l) = whole n l

  -- from the entries past the length on
  pub within : (cap : ℕ) (used : Bool) (n : ℕ) (l : List X) → n ≤ (if used then cap else 0)
      → clear cap used n (map is l) ≡ all_zero (map is (take (length l - n) (drop n l)))
  within cap used n l h = rw (le-leb n (if used then cap else 0) h) (ap all_zero (whole n l ∙ ap (map is) (sym (take_all (length l - n) (drop n l) (rw length-drop (le_refl (length l - n)))))))

  module _ (l : List X) (i : ℕ) where
    pub past : length l ≤ i → all_zero (map is (drop i l)) ≡ true
    past h = rw (drop_of_length-le l h)

    -- what the test of the entry i tells, widened to t
    module _ (d : X) (h : i < length l) {x : X} (e : x ≡ get_or l i d) {t : ℤ} (z : t ≡ is x) (f : mag t < 2 ^ 63) where
      entry : all_zero (map is (drop i l)) ≡ is_zero t && all_zero (map is (drop (i + 1) l))
      entry = rw (add-one, drop-cons l i d, z, e)

      pub not_zero : (of_z w64 t ≡ 0 → ⊥) → all_zero (map is (drop i l)) ≡ false
      not_zero n = entry ∙ ap (λ (b : Bool). b && all_zero (map is (drop (i + 1) l))) (sym (zero_bits w64 t (record { sfits = f })) ∙ ne_eqb _ _ n)

      pub one_more : of_z w64 t ≡ 0 → all_zero (map is (drop i l)) ≡ all_zero (map is (drop (i + 1) l))
      one_more n = entry ∙ ap (λ (b : Bool). b && all_zero (map is (drop (i + 1) l))) (sym (zero_bits w64 t (record { sfits = f })) ∙ eq-eqb _ _ n)
