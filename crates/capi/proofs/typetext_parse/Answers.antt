-- The reading in numbers is that of what the ordinary reader answers.
use mathlib.Core.Path.{ap, ◌∙◌}
use Rattle.numbers.specs.Numbers.{in_numbers}
use Rattle.capi.proofs.typetext_parse.Goals as goal

pub returns : goal.returns
returns c = c.in_numbers.ensures ∙ ap in_numbers c.parse.ensures
