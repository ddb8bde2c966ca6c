-- How long the parts of a written text are at most, and the whole: 149 bytes and 78 for each entry of the capacity.
use Rattle.std.specs.Prelude.{if◌then◌else◌}
use Prim.Native.Nat.{ℕ, zero, suc, ◌+◌, ◌*◌, ◌^◌, ◌≤◌, ◌<◌, zero-le}
use native.Mathlib.Nat.{mul-suc, mul-le-mul_left}
use native.Mathlib.Omega.{arith}
use mathlib.Core.Bool.{Bool, true, false}
use mathlib.Core.List.{List, [], ◌∷◌}
use lib.Dec.{lit≤}
use lib.ListN.{length, length-append, take, get_or}
use lib.IntN.{ℤ, pos, negsuc}
use Rattle.std.specs.List.{flat_map}
use lib.Signed.{mag}
use Rattle.lexis.specs.Text.{Text, bytes}
use Rattle.scalars.specs.declared.scalar.Scalar.{Scalar}
use Rattle.scalars.specs.declared.scalar.Scalar.TheVariants.{I1, I4, I8, I16, I32, I64, F16, BF16, F32, TF32, F64, F8E4M3FN, F8E5M2, F8E8M0FNU, F4E2M1FN, F8E5M3FNU}
use Rattle.meaning.specs.declared.Record.{Record}
use Rattle.meaning.specs.declared.Padding.{Padding}
use Rattle.meaning.specs.declared.Kind.{Kind}
use Rattle.meaning.specs.declared.Kind.TheVariants as K
use Rattle.meaning.specs.declared.Padding.TheVariants.{Absent, Zero, NegZero, Nan, PosInf, NegInf}
use Rattle.meaning.specs.Decimal.{decimal, dim, dynamic, known}
use Rattle.meaning.specs.Strict.{mark}
use Rattle.meaning.specs.Written.{unknown, shape_in, tile_in, map_in, traversal_in}
use Rattle.writer.specs.Flat.{word_of, padding_text, entry, before_x, behind, parted, clause, shaped, strides_text, body_in, inner_in, lead_text, travel_text, map_text}
use Rattle.writer.specs.Flat.{sparse_text, pointer_text, element_text, text, text_as, Small}
use Rattle.writer.proofs.Digits.{short}

pub word_short : (e : Scalar) → length (word_of e) ≤ 9
word_short I1 = lit≤ tt
word_short I4 = lit≤ tt
word_short I8 = lit≤ tt
word_short I16 = lit≤ tt
word_short I32 = lit≤ tt
word_short I64 = lit≤ tt
word_short F16 = lit≤ tt
word_short BF16 = lit≤ tt
word_short F32 = lit≤ tt
word_short TF32 = lit≤ tt
word_short F64 = lit≤ tt
word_short F8E4M3FN = lit≤ tt
word_short F8E5M2 = lit≤ tt
word_short F8E8M0FNU = lit≤ tt
word_short F4E2M1FN = lit≤ tt
word_short F8E5M3FNU = lit≤ tt

pub pad_short : (p : Padding) → length (padding_text p) ≤ 24
pad_short Absent = lit≤ tt
pad_short Zero = lit≤ tt
pad_short NegZero = lit≤ tt
pad_short Nan = lit≤ tt
pad_short PosInf = lit≤ tt
pad_short NegInf = lit≤ tt

pub mark_short : (m : Bool) → length (mark m) ≤ 27
mark_short true = lit≤ tt
mark_short false = lit≤ tt

-- ── numbers ──
pub small_short : (z : ℤ) → mag z < 2 ^ 31 → length (decimal z) ≤ 11
small_short (pos n) h = omega (arith, short 9 n [] (omega arith))
small_short (negsuc n) h = omega (arith, short 9 (suc n) [] (omega arith))

pub number_short : (z : ℤ) → mag z < 2 ^ 63 → length (decimal z) ≤ 20
number_short (pos n) h = omega (arith, short 18 n [] (omega arith))
number_short (negsuc n) h = omega (arith, short 18 (suc n) [] (omega arith))

pub entry_short : (z : ℤ) → mag z < 2 ^ 63 → length (entry z) ≤ 20
entry_short z h = go (unknown z)
  where
    go : (b : Bool) → length (dim (if b then dynamic else known z)) ≤ 20
    go true = lit≤ tt
    go false = number_short z h

-- ── lists: the first n entries of an array ──
abbrev pub Below : ℕ → List ℤ → Type 0
Below k l = (i : ℕ) → mag (get_or l i (pos 0)) < 2 ^ k

flat_short : (g : ℤ → Text) (b m : ℕ) → ((z : ℤ) → mag z < 2 ^ b → length (g z) ≤ m) → (n : ℕ) (l : List ℤ) → Below b l → length (flat_map g (take n l)) ≤ m * n
flat_short g b m s zero l h = zero-le
flat_short g b m s (suc n) [] h = zero-le
flat_short g b m s (suc n) (z ∷ l) h =
    let e = mul-suc m n in
    let r = flat_short g b m s n l (λ i. h (suc i)) in
    simp length-append (omega (arith, s z (h 0)))

module _ (f : ℤ → Text) (b k : ℕ) (s : (z : ℤ) → mag z < 2 ^ b → length (f z) ≤ k) where
  -- with no entry there is nothing, and a capacity above zero has room for it
  parted_short : (v n cap : ℕ) (l : List ℤ) → n ≤ cap → 1 ≤ cap → Below b l → length (parted (v ∷ []) f (take n l)) + 1 ≤ (k + 1) * cap
  parted_short v zero cap l p q h = omega (arith, mul-le-mul_left (k + 1) q)
  parted_short v (suc n) cap [] p q h = omega (arith, mul-le-mul_left (k + 1) q)
  parted_short v (suc n) cap (z ∷ l) p q h =
      let e = mul-suc (k + 1) n in
      let r = flat_short (λ (z : ℤ). v ∷ f z) b (k + 1) (λ z p. omega (arith, s z p)) n l (λ i. h (suc i)) in
      let a = length-append (f z) (behind (v ∷ []) f (take n l)) in
      omega (arith, s z (h 0), mul-le-mul_left (k + 1) p)

strides_short : (n cap : ℕ) (l : List ℤ) → n ≤ cap → 1 ≤ cap → Below 63 l → length (strides_text (take n l)) ≤ 21 * cap + 11
unfolding clause strides_text
strides_short n cap l p q h = by (take n l) (parted_short entry 63 20 entry_short 44 n cap l p q h)
  where
    by : (k : List ℤ) → length (parted (44 ∷ []) entry k) + 1 ≤ 21 * cap → length (strides_text k) ≤ 21 * cap + 11
    by [] e = omega arith
    by (z ∷ k) e = simp length-append (omega (arith, length-append (entry z) (behind (44 ∷ []) entry k)))

clause_short : (head : Text) (v : ℕ) (tail : Text) (n cap : ℕ) (l : List ℤ) → n ≤ cap → 1 ≤ cap → Below 31 l → length (clause decimal head v (take n l) tail) + 1 ≤ 12 * cap + length head + length tail
unfolding clause
clause_short head v tail n cap l p q h = simp length-append (omega (arith, parted_short decimal 31 11 small_short v n cap l p q h))

shaped_short : (n : ℕ) (l : List ℤ) → Below 63 l → length (shaped (take n l)) ≤ 21 * n
unfolding shaped
shaped_short n l h = flat_short before_x 63 21 (λ z p. simp length-append (omega (arith, entry_short z p))) n l h

-- ── the record ──
pub record Ranged (r : Record) : Type 0 where
  pub shape : Below 63 r.shape
  pub strides : Below 63 r.strides
  pub tile : Below 31 r.tile
  pub map : Below 31 r.map
  pub traversal : Below 31 r.traversal
  pub sparse : mag r.sparse < 2 ^ 31

module _ (cap : ℕ) (one : 1 ≤ cap) (r : Record) (s : Small cap r) (g : Ranged r) where
  shape_short : length (shaped (shape_in r)) ≤ 21 * cap
  shape_short = omega (arith, shaped_short r.shape_len r.shape g.shape, mul-le-mul_left 21 s.shape)

  pub body_short : length (body_in r) ≤ 42 * cap + 47
  unfolding body_in
  body_short = simp length-append (omega (
    arith,
    shape_short,
    strides_short r.strides_len cap r.strides s.strides one g.strides,
    word_short r.element,
    mark_short r.attribute,
  ))

  inner_short : length (inner_in r) ≤ 42 * cap + 86
  unfolding inner_in
  inner_short = simp length-append (omega (arith, body_short, pad_short r.padding))

  lead_short : length (lead_text (tile_in r)) ≤ 12 * cap + 8
  lead_short = omega (arith, clause_short (bytes "tile=(") 120 (bytes "), ") r.tile_len cap r.tile s.tile one g.tile)

  travel_short : length (travel_text (traversal_in r)) ≤ 12 * cap + 21
  travel_short = omega (arith, clause_short (bytes "traversal_strides=[") 44 (bytes "], ") r.traversal_len cap r.traversal s.traversal one g.traversal)

  map_short : length (map_text (map_in r)) ≤ 12 * cap + 10
  map_short = omega (arith, clause_short (bytes "dim_map=[") 44 (bytes "]>") r.map_len cap r.map s.map one g.map)

  sparse_short : length (sparse_text r.sparse) ≤ 23
  unfolding sparse_text
  sparse_short = simp length-append (omega (arith, small_short r.sparse g.sparse))

  pointer_short : (e : Scalar) (m : Bool) → length (pointer_text e m) ≤ 52
  pointer_short e m = simp length-append (omega (arith, word_short e, mark_short m))

  element_short : (p : Bool) (e : Scalar) (m : Bool) → length (element_text p e m) ≤ 52
  element_short true e m = pointer_short e m
  element_short false e m = omega (arith, word_short e)

  text_short_as : (k : Kind) → length (text_as k r) ≤ 78 * cap + 149
  text_short_as K.Scalar = omega (arith, word_short r.element)
  text_short_as K.Pointer = omega (arith, pointer_short r.element r.attribute)
  text_short_as K.Tile = simp length-append (omega (arith, shape_short, element_short r.pointer r.element r.attribute))
  text_short_as K.TensorView = simp length-append (omega (arith, body_short))
  text_short_as K.Partition = simp length-append (omega (arith, lead_short, inner_short, map_short))
  text_short_as K.GatherScatter = simp length-append (omega (arith, lead_short, inner_short, sparse_short))
  text_short_as K.Strided = simp length-append (omega (arith, lead_short, travel_short, inner_short, map_short))
  text_short_as K.Token = omega arith

  -- at capacity 8: 773 bytes; at capacity 16: 1,397
  pub text_short : length (text r) ≤ 78 * cap + 149
  text_short = text_short_as r.kind
