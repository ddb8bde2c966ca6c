-- `open_tensor` meets its contract: the full spelling by its first byte, else one of two.
use Rattle.strict.proofs.Tree as L
use Rattle.strict.proofs.middles.open_tensor.Goals as goal

pub returns-then-peek-eq33 : goal.returns-then-peek-eq33
returns-then-peek-eq33 g c = L.down _ c.peek.ensures c.if-peek-eq33.true c.fit.ensures tt

pub returns-in_err-p : goal.returns-in_err-p
returns-in_err-p g c = L.but _ c.peek.ensures c.if-peek-eq33.false (L.off _ _ _ c.in_err-p.ensures c.from_residual.ensures.1 tt)

pub returns : goal.returns
returns g c = L.but _ c.peek.ensures c.if-peek-eq33.false (L.via _ _ _ c.in_ok-p.ensures c.fork.ensures tt)
