-- `until` meets its contract: the place of the byte, sought from the front, is how many stand before it.
use native.Mathlib.Nat.{zero-add}
use mathlib.Core.Path.{◌∙◌}
use Rattle.lexis.proofs.text.until.Goals as goal

pub returns : goal.returns
returns g c = c.seek.ensures ∙ zero-add _
