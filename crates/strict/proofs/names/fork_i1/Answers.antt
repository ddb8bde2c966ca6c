-- `fork_i1` meets its contract: `i16`, or `i1` where no 6 stands.
use Rattle.strict.proofs.Tree as L
use Rattle.strict.proofs.names.fork_i1.Goals as goal

pub returns-then-peek-eq54 : goal.returns-then-peek-eq54
returns-then-peek-eq54 c = let k = c.if-peek-eq54.true in L.down _ c.peek.ensures k (L.full (L.within _ _ c.peek.ensures k tt)) tt

pub returns : goal.returns
returns c = L.but _ c.peek.ensures c.if-peek-eq54.false (L.full c.requires)
