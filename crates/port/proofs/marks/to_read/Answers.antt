-- `to_read` meets its contract: fewer bytes than the text has stand in the room; as many are the text itself.
use mathlib.Core.Path.{sym}
use borrow.Author.Rules.{rules}
use lib.Seq.{length-take-le}
use Rattle.port.proofs.Marking as L
use Rattle.port.proofs.marks.to_read.Goals as goal

pub slice_bounds-result-end : goal.slice_bounds-result-end
slice_bounds-result-end c = sym (length-take-le _ _ (c.requires.fits c.if-n-text.true))

pub returns-then-n-text : goal.returns-then-n-text
returns-then-n-text c = L.to_room c.requires c.if-n-text.true

pub returns-else-n-text : goal.returns-else-n-text
returns-else-n-text c = L.to_text c.requires (search rules)
