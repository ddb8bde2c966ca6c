-- `folded` meets its contract: `g` is hot, as `<` is.
use mathlib.Core.Bool.{◌&&◌}
use borrow.Author.Tests.{ne_eqb}
use lib.Dec.{leb}
use Rattle.port.proofs.Making.{or_false}
use Rattle.port.proofs.anchors.folded.Goals as goal

pub returns-then-b-eq103 : goal.returns-then-b-eq103
returns-then-b-eq103 c = rw c.if-b-eq103.true

pub returns-else-b-eq103 : goal.returns-else-b-eq103
returns-else-b-eq103 c = let b = c.args.b in rw (ne_eqb b 103 c.if-b-eq103.false) (or_false (leb 60 b && leb b 62))
