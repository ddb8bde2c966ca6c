-- Worked examples of the definition, the document's among them.
use mathlib.Core.List.{[], ◌∷◌, ◌++◌}
use mathlib.Core.Path.{◌≡◌, refl}
use Rattle.lexis.specs.Text.{Text, bytes}
use Rattle.meaning.proofs.Open.{reading}
use Rattle.sheet.specs.declared.Counted.TheVariants.{Whole}
use Rattle.sheet.specs.Sheet.{rows, totals}

-- the document's two rows, the last without a line feed
abbrev sheet : Text
sheet = bytes "f32" ++ 10 ∷ bytes "tile<f32"

two : rows sheet ≡ bytes "f32" ∷ bytes "tile<f32" ∷ []
two = refl

-- with a line feed behind the last row it is the same two
closed : rows (sheet ++ 10 ∷ []) ≡ rows sheet
closed = refl

-- an empty row counts, and no bytes are no row
empty : (rows (10 ∷ 10 ∷ []) ≡ [] ∷ [] ∷ []) × (rows [] ≡ [])
empty = (refl, refl)

counts : totals 65536 8 1024 sheet ≡ record {
  answer = Whole;
  rows = 2;
  accepted = 1;
  refused_1 = 0;
  refused_2 = 0;
  refused_3 = 1;
  refused_4 = 0;
  a = 0;
  b = 0;
  c = 0;
  d = 0;
}
unfolding totals reading
counts = refl
