-- A written text of a normal record at capacity cap has at most 78 * cap + 149 bytes, by the bounds of its parts; at 8 and at
-- 16 a record attains it, which the checker computes.
use Rattle.std.specs.Prelude.{if◌then◌else◌, Option, None, Some}
use Prim.Native.Nat.{ℕ, ◌+◌, ◌*◌, ◌≤◌}
use mathlib.Core.Bool.{Bool, true, false}
use mathlib.Core.List.{[], ◌∷◌, map}
use mathlib.Core.Path.{◌≡◌, refl, sym, subst}
use lib.Dec.{lit≤}
use lib.IntN.{pos, negsuc}
use lib.ListN.{length, replicate}
use Rattle.lexis.specs.Text.{Text}
use Rattle.scalars.specs.declared.scalar.Scalar.TheVariants.{F8E8M0FNU}
use Rattle.meaning.specs.declared.Kind.TheVariants as K
use Rattle.meaning.specs.declared.Padding.TheVariants.{NegZero}
use Rattle.meaning.specs.declared.Record.{Record}
use Rattle.meaning.specs.Normal.{lists_clear, rest_blank, normal}
use Rattle.meaning.specs.Written.{written}
use Rattle.writer.specs.Flat.{shown, text}
use Rattle.writer.proofs.Short.{Ranged, text_short}
use Rattle.writer.proofs.Same.{same}
use Rattle.writer.proofs.Answers.{Arrays, whole, small}
use Rattle.meaning.proofs.Whens.{When}

abbrev pub AtMost : ℕ → Text → Type 0
AtMost n t = length t ≤ n

pub longest : (cap : ℕ) (r : Record) → 1 ≤ cap → Arrays cap r → Ranged r → normal cap r ≡ true → When (AtMost (78 * cap + 149)) (written r)
longest cap r h a g n = by (shown r) (same r (whole cap r h a))
  where
    by : (b : Bool) → written r ≡ (if b then Some (text r) else None) → When (AtMost (78 * cap + 149)) (written r)
    by true e = subst (When (AtMost (78 * cap + 149))) (sym e) (text_short cap h r (small cap r n a) g)
    by false e = subst (When (AtMost (78 * cap + 149))) (sym e) tt

pub at_8 : (r : Record) → Arrays 8 r → Ranged r → normal 8 r ≡ true → When (AtMost 773) (written r)
at_8 r a g n = longest 8 r (lit≤ tt) a g n

-- every list is full of the longest numbers: 20 bytes each of 64 bits, 11 of 32
unfoldable pub full : ℕ → Record
full cap = record {
  kind = K.Strided;
  element = F8E8M0FNU;
  pointer = false;
  attribute = true;
  shape = replicate cap (negsuc 9223372036854775806);
  shape_len = cap;
  strides = replicate cap (negsuc 9223372036854775806);
  strides_len = cap;
  tile = replicate cap (negsuc 2147483647);
  tile_len = cap;
  map = replicate cap (negsuc 2147483647);
  map_len = cap;
  traversal = replicate cap (negsuc 2147483647);
  traversal_len = cap;
  sparse = pos 0;
  padding = NegZero;
}

abbrev size : Option Text → ℕ
size None = 0
size (Some t) = length t

pub attained : map (λ (cap : ℕ). size (written (full cap))) (8 ∷ 16 ∷ []) ≡ 773 ∷ 1397 ∷ []
unfolding full written
attained = refl

pub full_normal : map (λ (cap : ℕ). normal cap (full cap)) (8 ∷ 16 ∷ []) ≡ true ∷ true ∷ []
unfolding full lists_clear rest_blank normal
full_normal = refl
