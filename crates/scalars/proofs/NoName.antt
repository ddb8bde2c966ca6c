-- A text with a byte of 128 or more names no scalar: such a byte is never trimmed, and stands in no name (01, module 2).
use Prim.Native.Nat.{ℕ}
use native.Mathlib.Omega.{arith}
use mathlib.Core.Bool.{Bool, true, false, ◌&&◌, ◌||◌, false≢true}
use mathlib.Core.List.{List, [], ◌∷◌, map}
use Rattle.std.specs.Prelude.{None}
use mathlib.Core.Path.{◌≡◌, refl, sym, ap, ◌∙◌}
use borrow.Author.Tests.{eqb-true, leb-true, lt-leb}
use lib.Dec.{eqb, leb}
use Rattle.lexis.specs.Text.{Text, bytes, same, some_of, white, trim}
use Rattle.lexis.proofs.Seeking.{never}
use Rattle.lexis.proofs.Trimming.{trim_keeps}
use Rattle.scalars.specs.Names.{Name, names, named_in, scalar_name}

white_low : (b : ℕ) → white b ≡ true → leb 128 b ≡ false
white_low b e = by (leb 128 b) refl
  where
    by : (d : Bool) → leb 128 b ≡ d → d ≡ false
    by false h = refl
    by true h =
        let k = leb-true 128 b h in
        let u : leb b 13 ≡ false = lt-leb b 13 (omega arith) in
        let v : eqb b 32 ≡ true = rw (u, never (leb 9 b)) at e in
        let w = eqb-true b 32 v in
        let f : ⊥ = omega arith in absurd f

unlike_high : (a s : Text) → some_of (leb 128) a ≡ false → some_of (leb 128) s ≡ true → same a s ≡ false
unlike_high [] [] p q = absurd (false≢true q)
unlike_high [] (c ∷ s) p q = refl
unlike_high (b ∷ a) [] p q = refl
unlike_high (b ∷ a) (c ∷ s) p q = by (eqb b c) refl (unlike_high a s)
  where
    split : (h k m n : Bool) → h ≡ k → h || m ≡ false → k || n ≡ true → (m ≡ false → n ≡ true → same a s ≡ false) → same a s ≡ false
    split true k m n e u v r = absurd (false≢true (sym u))
    split false true m n e u v r = absurd (false≢true e)
    split false false m n e u v r = r u v

    by : (d : Bool) → eqb b c ≡ d → (some_of (leb 128) a ≡ false → some_of (leb 128) s ≡ true → same a s ≡ false) → d && same a s ≡ false
    by false e r = refl
    by true e r = split (leb 128 b) (leb 128 c) (some_of (leb 128) a) (some_of (leb 128) s) (ap (leb 128) (eqb-true b c e)) p q r

none_high : (ns : List Name) (s : Text) → map (λ (n : Name). some_of (leb 128) (bytes n.spelling)) ns ≡ map (λ (n : Name). false) ns
    → some_of (leb 128) s ≡ true → named_in ns s ≡ None
none_high [] s e h = refl
none_high (n ∷ ns) s e h =
    let a : some_of (leb 128) (bytes n.spelling) ≡ false = cc in
    let b : map (λ (n : Name). some_of (leb 128) (bytes n.spelling)) ns ≡ map (λ (n : Name). false) ns = cc in
    rw (unlike_high (bytes n.spelling) s a h) (none_high ns s b h)

pub high_no_name : (s : Text) → some_of (leb 128) s ≡ true → scalar_name s ≡ None
unfolding scalar_name
high_no_name s h = none_high names (trim s) refl (trim_keeps (leb 128) white_low s ∙ h)
