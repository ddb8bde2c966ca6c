-- `open_view` meets its contract: a padding by its first byte, else a tensor view.
use Rattle.strict.proofs.Tree as L
use Rattle.strict.proofs.middles.open_view.Goals as goal

pub returns-then-peek-eq112 : goal.returns-then-peek-eq112
returns-then-peek-eq112 c = L.down _ c.peek.ensures c.if-peek-eq112.true c.fit.ensures tt

pub returns : goal.returns
returns c = L.but _ c.peek.ensures c.if-peek-eq112.false (c.open_tensor.ensures)
