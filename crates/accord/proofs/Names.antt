-- Names: each spelling is read back, by one computed table; and the classes of their bytes.
use Prim.Native.Nat.{ℕ, zero, suc, ◌<◌}
use native.Mathlib.Nat.{not-suc-le-zero, le_of_suc-le-suc}
use mathlib.Core.Bool.{Bool}
use mathlib.Core.List.{List, [], ◌∷◌, map}
use Rattle.std.specs.Prelude.{Some}
use mathlib.Core.Path.{◌≡◌, refl}
use lib.Dec.{T, ltb→lt}
use lib.ListN.{length}
use Rattle.scalars.specs.Names.{scalar_name}
use Rattle.scalars.specs.declared.scalar.Scalar.{Scalar}
use Rattle.scalars.specs.declared.scalar.Scalar.TheVariants.{I1}
use Rattle.grammar.specs.Tests.{every, every_nth}
use Rattle.meaning.specs.Strict.{nth, words, scalars, Name, word, scalar_of}

pub table : {B : Type 0} (f : List ℕ → B) (g : Scalar → B) (ws : List (List ℕ)) (ss : List Scalar) → map f ws ≡ map g ss →
    (i : ℕ) → i < length ws → f (nth [] ws i) ≡ g (nth I1 ss i)
table f g [] ss e i h = absurd (not-suc-le-zero h)
table f g (w ∷ ws) [] e i h = cc
table f g (w ∷ ws) (s ∷ ss) e zero h = cc
table f g (w ∷ ws) (s ∷ ss) e (suc i) h = table f g ws ss (cc) i (le_of_suc-le-suc h)

pub name_word : (n : Name) → scalar_name (word n) ≡ Some (scalar_of n)
unfolding scalar_name
name_word n = table scalar_name Some words scalars refl n.index (ltb→lt n.index 22 n.within)

-- a test that each spelling passes, computed once
pub word_class : (C : ℕ → Bool) → T (every (every C) words) → (n : Name) → T (every C (word n))
word_class C h n = every_nth (every C) [] tt words h n.index
