-- What the readers of digits and numerals do at a place of a text: the text is opened there, and the test settled.
use Prim.Native.Nat.{ℕ, ◌+◌, ◌-◌, ◌*◌, ◌/◌, ◌^◌, ◌≤◌, ◌<◌}
use native.Mathlib.Omega.{arith}
use native.Mathlib.Nat.{div-add-mod, mod-lt, zero-lt-suc}
use mathlib.Core.Bool.{Bool, true, false, ◌&&◌, ◌||◌}
use mathlib.Core.List.{List, ◌∷◌}
use mathlib.Core.Path.{◌≡◌, refl, sym, ap, ◌∙◌}
use lib.Dec.{T, eqb, leb, ltb, leb→le, le→leb, ltb→lt, lt→ltb, not_T}
use lib.ListN.{drop, length, get_or, drop_of_length-le}
use lib.IntN.{pos, negsuc}
use borrow.Author.Tests.{ne_eqb}
use Rattle.lexis.proofs.Lists.{view}
use Rattle.grammar.specs.Tests.{and_left, and_right, and_in, is_true, TNotEq}
use Rattle.numerals.specs.Numeral.{digit}
use Rattle.grammar.specs.Piece.{Answer, got, stuck, member}
use Rattle.grammar.specs.Number as N
use Rattle.grammar.proofs.Number as NP
use Rattle.grammar.proofs.Number.{in_nine, nine_in}
use Rattle.grammar.specs.Several.{figs?}
use Rattle.strict.specs.Cursor as C
use Rattle.grammar.specs.Join.{mapped}

-- ── digits ──
module _ (L n : ℕ) where
  abbrev goes : ℕ → List ℕ → Bool → Answer ℕ
  goes b t k = elim k [ true ↦ N.grow L (n * 10 + (b - 48)) t | false ↦ got n (b ∷ t) ]

  pub grow_end : (s : List ℕ) (i : ℕ) → length s ≤ i → N.grow L n (drop i s) ≡ got n (drop (length s) s)
  grow_end s i h = let k : length s ≤ length s = omega arith in rw (drop_of_length-le s h, drop_of_length-le s k)

  grow_off : (s : List ℕ) (i : ℕ) → i < length s → (T (digit (get_or s i 0) && ltb (n * 10 + (get_or s i 0 - 48)) L) → ⊥) → N.grow L n (drop i s) ≡ got n (drop i s)
  grow_off s i h k = rw (view s i h) (ap (goes (get_or s i 0) (drop (i + 1) s)) (TNotEq (digit (get_or s i 0) && ltb (n * 10 + (get_or s i 0 - 48)) L) (not_T (digit (get_or s i 0) && ltb (n * 10 + (get_or s i 0 - 48)) L) k)))

  pub grow_on : (s : List ℕ) (i : ℕ) → i < length s → 48 ≤ get_or s i 0 → get_or s i 0 ≤ 57 → n * 10 + (get_or s i 0 - 48) < L → N.grow L n (drop i s) ≡ N.grow L (n * 10 + (get_or s i 0 - 48)) (drop (i + 1) s)
  grow_on s i h a b k = rw (view s i h) (ap (goes (get_or s i 0) (drop (i + 1) s)) (is_true (digit (get_or s i 0) && ltb (n * 10 + (get_or s i 0 - 48)) L)
      (and_in (digit (get_or s i 0)) (ltb (n * 10 + (get_or s i 0 - 48)) L) (and_in (leb 48 (get_or s i 0)) (leb (get_or s i 0) 57) (le→leb 48 (get_or s i 0) a) (le→leb (get_or s i 0) 57 b)) (lt→ltb (n * 10 + (get_or s i 0 - 48)) L k))))

module _ (most n b : ℕ) where
  pub low : b < 48 → T (digit b && ltb (n * 10 + (b - 48)) (most + 1)) → ⊥
  low h t = let p = leb→le 48 b (and_left (leb 48 b) (leb b 57) (and_left (digit b) (ltb (n * 10 + (b - 48)) (most + 1)) t)) in omega arith

  pub high : 57 < b → T (digit b && ltb (n * 10 + (b - 48)) (most + 1)) → ⊥
  high h t = let p = leb→le b 57 (and_right (leb 48 b) (leb b 57) (and_left (digit b) (ltb (n * 10 + (b - 48)) (most + 1)) t)) in omega arith

  pub over : most / 10 < n → T (digit b && ltb (n * 10 + (b - 48)) (most + 1)) → ⊥
  over h t = let p = ltb→lt (n * 10 + (b - 48)) (most + 1) (and_right (digit b) (ltb (n * 10 + (b - 48)) (most + 1)) t) in
      let e = div-add-mod most 10 in let m = mod-lt most (zero-lt-suc 9) in omega arith

  pub past : n ≤ most / 10 → most - n * 10 < b - 48 → T (digit b && ltb (n * 10 + (b - 48)) (most + 1)) → ⊥
  past k h t = let p = ltb→lt (n * 10 + (b - 48)) (most + 1) (and_right (digit b) (ltb (n * 10 + (b - 48)) (most + 1)) t) in
      let e = div-add-mod most 10 in let m = mod-lt most (zero-lt-suc 9) in omega arith

  -- one digit more stays within the limit: any of them, or this one
  pub any_fits : n < most / 10 → b ≤ 57 → n * 10 + (b - 48) ≤ most
  any_fits k h = let e = div-add-mod most 10 in let m = mod-lt most (zero-lt-suc 9) in omega arith

  pub last_fits : n ≤ most / 10 → b - 48 ≤ most - n * 10 → n * 10 + (b - 48) ≤ most
  last_fits k h = let e = div-add-mod most 10 in let m = mod-lt most (zero-lt-suc 9) in omega arith

module _ (most n : ℕ) (s : List ℕ) (i : ℕ) (h : i < length s) where
  pub grow_low : get_or s i 0 < 48 → N.grow (most + 1) n (drop i s) ≡ got n (drop i s)
  grow_low k = grow_off (most + 1) n s i h (low most n (get_or s i 0) k)

  pub grow_high : 57 < get_or s i 0 → N.grow (most + 1) n (drop i s) ≡ got n (drop i s)
  grow_high k = grow_off (most + 1) n s i h (high most n (get_or s i 0) k)

  pub grow_over : most / 10 < n → N.grow (most + 1) n (drop i s) ≡ got n (drop i s)
  grow_over k = grow_off (most + 1) n s i h (over most n (get_or s i 0) k)

  pub grow_past : n ≤ most / 10 → most - n * 10 < get_or s i 0 - 48 → N.grow (most + 1) n (drop i s) ≡ got n (drop i s)
  grow_past k l = grow_off (most + 1) n s i h (past most n (get_or s i 0) k l)

-- ── a number from 1 on ──
module _ (most : ℕ) (s : List ℕ) (i : ℕ) where
  abbrev begins : ℕ → List ℕ → Bool → Answer ℕ
  begins c t k = elim k [ true ↦ N.grow (most + 1) (c - 48) t | false ↦ stuck (c ∷ t) ]

  pub mag_end : length s ≤ i → N.magnitude (most + 1) (drop i s) ≡ stuck (drop i s)
  mag_end h = rw (drop_of_length-le s h)

  mag_off : i < length s → (T (member (get_or s i 0) N.nine) → ⊥) → N.magnitude (most + 1) (drop i s) ≡ stuck (drop i s)
  mag_off h k = rw (view s i h) (ap (begins (get_or s i 0) (drop (i + 1) s)) (TNotEq (member (get_or s i 0) N.nine) (not_T (member (get_or s i 0) N.nine) k)))

  pub mag_low : i < length s → get_or s i 0 < 49 → N.magnitude (most + 1) (drop i s) ≡ stuck (drop i s)
  mag_low h k = mag_off h (λ t. let p = leb→le 49 (get_or s i 0) (and_left (leb 49 (get_or s i 0)) (leb (get_or s i 0) 57) (nine_in (get_or s i 0) t)) in omega arith)

  pub mag_high : i < length s → 57 < get_or s i 0 → N.magnitude (most + 1) (drop i s) ≡ stuck (drop i s)
  mag_high h k = mag_off h (λ t. let p = leb→le (get_or s i 0) 57 (and_right (leb 49 (get_or s i 0)) (leb (get_or s i 0) 57) (nine_in (get_or s i 0) t)) in omega arith)

  pub mag_on : i < length s → 49 ≤ get_or s i 0 → get_or s i 0 ≤ 57 → N.magnitude (most + 1) (drop i s) ≡ N.grow (most + 1) (get_or s i 0 - 48) (drop (i + 1) s)
  mag_on h a b = rw (view s i h) (ap (begins (get_or s i 0) (drop (i + 1) s)) (is_true (member (get_or s i 0) N.nine) (in_nine (get_or s i 0) a b)))

-- ── a numeral ──
module _ (s : List ℕ) (i : ℕ) where
  module _ (p q : ℕ) where
    pub num_end : length s ≤ i → C.numeral p q (drop i s) ≡ stuck (drop i s)
    num_end h = rw (drop_of_length-le s h)

    pub num_minus : i < length s → get_or s i 0 ≡ 45 → C.numeral p q (drop i s) ≡ mapped C.minus (N.magnitude q (drop (i + 1) s))
    num_minus h e = rw (view s i h, e)

    pub num_zero : i < length s → get_or s i 0 ≡ 48 → C.numeral p q (drop i s) ≡ got (pos 0) (drop (i + 1) s)
    num_zero h e = rw (view s i h, e)

    pub num_plain : i < length s → (get_or s i 0 ≡ 45 → ⊥) → (get_or s i 0 ≡ 48 → ⊥) → C.numeral p q (drop i s) ≡ mapped pos (N.magnitude p (drop i s))
    num_plain h e f = rw (view s i h, ne_eqb (get_or s i 0) 45 e, ne_eqb (get_or s i 0) 48 f)

  pub dim_end : length s ≤ i → C.dimension (drop i s) ≡ stuck (drop i s)
  dim_end h = rw (drop_of_length-le s h)

  pub dim_free : i < length s → get_or s i 0 ≡ 63 → C.dimension (drop i s) ≡ got (negsuc (2 ^ 63 - 1)) (drop (i + 1) s)
  dim_free h e = rw (view s i h, e)

  pub dim_plain : i < length s → (get_or s i 0 ≡ 63 → ⊥) → C.dimension (drop i s) ≡ C.numeral (2 ^ 63) (2 ^ 63) (drop i s)
  dim_plain h e = rw (view s i h, ne_eqb (get_or s i 0) 63 e)

  pub space_end : length s ≤ i → C.skip (drop i s) ≡ drop i s
  space_end h = rw (drop_of_length-le s h)

  pub space_on : i < length s → get_or s i 0 ≡ 32 → C.skip (drop i s) ≡ drop (i + 1) s
  space_on h e = rw (view s i h, e)

  pub space_off : i < length s → (get_or s i 0 ≡ 32 → ⊥) → C.skip (drop i s) ≡ drop i s
  space_off h e = rw (view s i h, ne_eqb 32 (get_or s i 0) (λ f. e (sym f)))

-- ── a byte that a dimension begins with ──
iff : (a b : Bool) → (T a → T b) → (T b → T a) → a ≡ b
iff true true f g = refl
iff true false f g = absurd (f tt)
iff false true f g = absurd (g tt)
iff false false f g = refl

apart : (p q r : Bool) → (p || q) || r ≡ p || (q || r)
apart true q r = refl
apart false q r = refl

abbrev between : ℕ → Bool
between b = ltb 47 b && ltb b 58

ten_is : (b : ℕ) → between b ≡ member b N.ten
ten_is b = iff (between b) (member b N.ten)
    (λ t. let p = ltb→lt 47 b (and_left (ltb 47 b) (ltb b 58) t) in let q = ltb→lt b 58 (and_right (ltb 47 b) (ltb b 58) t) in NP.in_ten b (and_in (leb 48 b) (leb b 57) (le→leb 48 b (omega arith)) (le→leb b 57 (omega arith))))
    (λ m. NP.member_every between N.ten b tt m)

pub figure_is : (b : ℕ) → (eqb b 63 || eqb b 45) || between b ≡ member b figs?
figure_is b = ap (λ (k : Bool). (eqb b 63 || eqb b 45) || k) (ten_is b) ∙ apart (eqb b 63) (eqb b 45) (member b N.ten)
