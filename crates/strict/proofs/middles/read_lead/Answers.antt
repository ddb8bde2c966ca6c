-- `read_lead` meets its contract: a comma, and the space tells.
use Rattle.strict.proofs.Tree as L
use Rattle.strict.proofs.middles.read_lead.Goals as goal

pub returns-in_err-c : goal.returns-in_err-c
returns-in_err-c c = L.off _ _ _ c.in_err-c.ensures c.from_residual.ensures.1 tt

pub returns-then-peek-eq32 : goal.returns-then-peek-eq32
returns-then-peek-eq32 c = L.via _ _ _ c.in_ok-c.ensures (L.down _ c.peek.ensures c.if-peek-eq32.true c.open_tensor.ensures tt) tt

pub returns : goal.returns
returns c = L.via _ _ _ c.in_ok-c.ensures (L.but _ c.peek.ensures c.if-peek-eq32.false c.open_tensor-2.ensures) tt
