-- `read_two` meets its contract: what both words begin with, then the rest of one of them.
use Rattle.strict.proofs.Tree as L
use Rattle.strict.proofs.words.read_two.Goals as goal

pub returns-in_err-p : goal.returns-in_err-p
returns-in_err-p c = let a = c.args in L.two_off _ a.lead.now a.v.now _ a.w.now _ c.in_err-p.ensures c.from_residual.ensures.1

pub returns : goal.returns
returns c = let a = c.args in L.two _ a.lead.now a.v.now _ a.w.now _ c.in_ok-p.ensures c.fork.ensures
