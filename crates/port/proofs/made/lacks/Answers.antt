-- `lacks` meets its contract: whether the clause stands, then whether it has an entry.
use Rattle.port.proofs.Making as L
use Rattle.port.proofs.made.lacks.Goals as goal

pub returns-then-r : goal.returns-then-r
returns-then-r c = rw c.if-r.true

pub returns-then-r-eq0 : goal.returns-then-r-eq0
returns-then-r-eq0 c = rw c.if-r.false (L.any_none _ c.if-r-eq0.true)

pub returns-else-r-eq0 : goal.returns-else-r-eq0
returns-else-r-eq0 c = rw c.if-r.false (L.any_some _ c.if-r-eq0.false)
