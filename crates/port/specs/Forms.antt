-- The forms with `!cuda_tile.` taken off: both spellings are read by one list (for private contracts).
use Rattle.std.specs.Prelude.{if◌then◌else◌, List, [], ◌∷◌, drop, Option, None, Some}
use Rattle.lexis.specs.Text.{Text, bytes, begins}
use Rattle.scalars.specs.Names.{scalar_name}
use Rattle.meaning.specs.Found.{Found, plain}
use Rattle.meaning.specs.Parts.{each, bracketed}
use Rattle.meaning.specs.Ordinary.{Form, forms}
use Rattle.meaning.specs.declared.Kind.TheVariants as K

unfoldable pub shorthand : List Form
shorthand = drop 6 forms

abbrev pub unprefixed : Text → Text
unprefixed s = if begins (bytes "!cuda_tile.") s then drop 11 s else s

abbrev pub bare : Text → Option Found
bare s = each (plain K.Scalar) (scalar_name s)

-- the first form that applies to t decides; where none does, d
abbrev pub first_of : List Form → Text → Option Found → Option Found
first_of [] t d = d
first_of (f ∷ fs) t d = elim (bracketed (bytes f.opens) t) [ Some u ↦ f.content u | None ↦ first_of fs t d ]
