-- `read_open` meets its contract: the end, or what follows a comma.
use Rattle.strict.proofs.Tree as L
use Rattle.strict.proofs.middles.read_open.Goals as goal

pub returns-then-peek-eq62 : goal.returns-then-peek-eq62
returns-then-peek-eq62 c = let k = c.if-peek-eq62.true in L.down _ c.peek.ensures k (L.full (L.within _ _ c.peek.ensures k tt)) tt

pub returns-in_err-c : goal.returns-in_err-c
returns-in_err-c c = L.but _ c.peek.ensures c.if-peek-eq62.false (L.off _ _ _ c.in_err-c.ensures c.from_residual.ensures.1 tt)

pub returns : goal.returns
returns c = L.but _ c.peek.ensures c.if-peek-eq62.false (L.via _ _ _ c.in_ok-c.ensures c.open_comma.ensures tt)
