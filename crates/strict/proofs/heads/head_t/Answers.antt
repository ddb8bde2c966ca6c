-- `head_t` meets its contract: `tf32` by its second byte, else a kind.
use Rattle.strict.proofs.Tree as L
use Rattle.strict.proofs.heads.head_t.Goals as goal

pub returns-then-peek-eq102 : goal.returns-then-peek-eq102
returns-then-peek-eq102 c = L.down _ c.peek.ensures c.if-peek-eq102.true c.fit.ensures tt

pub returns : goal.returns
returns c = L.but _ c.peek.ensures c.if-peek-eq102.false (c.kind_t.ensures)
