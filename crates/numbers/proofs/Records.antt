-- Whether there is a record with these numbers.
use Rattle.std.specs.Prelude.{Option, None, Some, is_some}
use mathlib.Core.Bool.{Bool, ◌&&◌}
use mathlib.Core.Path.{◌≡◌, refl, sym, ◌∙◌}
use lib.Dec.{ltb}
use Rattle.scalars.specs.declared.scalar.Scalar.{Scalar}
use Rattle.meaning.specs.declared.Kind.{Kind}
use Rattle.meaning.specs.declared.Padding.{Padding}
use Rattle.meaning.specs.declared.Record.{Record}
use Rattle.meaning.specs.Written.{◌>>=◌}
use Rattle.numbers.specs.declared.TypetextRecord.{TypetextRecord}
use Rattle.numbers.specs.Numbers.{kinds, scalars, paddings, flags, kind_of, scalar_of, padding_of, flag_of, of_numbers}
use Rattle.numbers.proofs.Numbers.{within}

-- five answers together
abbrev pub Five : Type 0
Five = Kind → Scalar → Padding → Bool → Bool → Record

abbrev pub five : Five → Option Kind → Option Scalar → Option Padding → Option Bool → Option Bool → Option Record
five F k e p f m = k >>= λ k. e >>= λ e. p >>= λ p. f >>= λ f. m >>= λ m. Some (F k e p f m)

five_given : (F : Five) (k : Option Kind) (e : Option Scalar) (p : Option Padding) (f m : Option Bool)
    → is_some k && is_some e && is_some p && is_some f && is_some m ≡ is_some (five F k e p f m)
five_given F None e p f m = refl
five_given F (Some k) None p f m = refl
five_given F (Some k) (Some e) None f m = refl
five_given F (Some k) (Some e) (Some p) None m = refl
five_given F (Some k) (Some e) (Some p) (Some f) None = refl
five_given F (Some k) (Some e) (Some p) (Some f) (Some m) = refl

-- the record of five cases and what else is sent
abbrev pub built : TypetextRecord → Five
built n k e p f m = record {
  kind = k;
  element = e;
  pointer = f;
  attribute = m;
  shape = n.shape;
  shape_len = n.shape_len;
  strides = n.strides;
  strides_len = n.strides_len;
  tile = n.tile;
  tile_len = n.tile_len;
  map = n.map;
  map_len = n.map_len;
  traversal = n.traversal;
  traversal_len = n.traversal_len;
  sparse = n.sparse;
  padding = p;
}

-- there is one where each of the five is a case's number
pub known_is : (n : TypetextRecord) → ltb n.kind 8 && ltb n.element 16 && ltb n.padding 6 && ltb n.pointer 2 && ltb n.attribute 2 ≡ is_some (of_numbers n)
unfolding of_numbers
known_is n =
    sym (λ i. within kinds n.kind i && within scalars n.element i && within paddings n.padding i && within flags n.pointer i && within flags n.attribute i)
    ∙ five_given (built n) (kind_of n.kind) (scalar_of n.element) (padding_of n.padding) (flag_of n.pointer) (flag_of n.attribute)
