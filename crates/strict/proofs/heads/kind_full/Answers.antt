-- `kind_full` meets its contract: what all words go on with, then a kind.
use Rattle.strict.proofs.Tree as L
use Rattle.strict.proofs.heads.kind_full.Goals as goal

pub returns-in_err-p : goal.returns-in_err-p
returns-in_err-p c = L.off _ _ _ c.in_err-p.ensures c.from_residual.ensures.1 tt

pub returns : goal.returns
returns c = L.via _ _ _ c.in_ok-p.ensures c.kind.ensures tt
