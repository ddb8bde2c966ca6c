-- `mid_comma` meets its contract: the space tells.
use Rattle.strict.proofs.Tree as L
use Rattle.strict.proofs.middles.mid_comma.Goals as goal

pub returns-then-peek-eq32 : goal.returns-then-peek-eq32
returns-then-peek-eq32 c = L.down _ c.peek.ensures c.if-peek-eq32.true c.open_view.ensures tt

pub returns : goal.returns
returns c = L.but _ c.peek.ensures c.if-peek-eq32.false (c.open_view-2.ensures)
