-- `pad_n` meets its contract: `nan` by its second byte, else one of two.
use Rattle.strict.proofs.Tree as L
use Rattle.strict.proofs.middles.pad_n.Goals as goal

pub returns-then-peek-eq97 : goal.returns-then-peek-eq97
returns-then-peek-eq97 c = L.down _ c.peek.ensures c.if-peek-eq97.true c.fit.ensures tt

pub returns-in_err-p : goal.returns-in_err-p
returns-in_err-p c = L.but _ c.peek.ensures c.if-peek-eq97.false (L.off _ _ _ c.in_err-p.ensures c.from_residual.ensures.1 tt)

pub returns : goal.returns
returns c = L.but _ c.peek.ensures c.if-peek-eq97.false (L.via _ _ _ c.in_ok-p.ensures c.fork.ensures tt)
