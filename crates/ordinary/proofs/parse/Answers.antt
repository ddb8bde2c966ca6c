-- `parse` meets its contract: what the strict reader settles is the answer; what it leaves open the port reads.
use mathlib.Core.Path.{◌∙◌}
use Rattle.lexis.proofs.Lists.{rest}
use Rattle.ordinary.proofs.Asking as L
use Rattle.ordinary.proofs.parse.Goals as goal

pub returns-in-NotStrict : goal.returns-in-NotStrict
returns-in-NotStrict c = let s = c.args.text.now in let p = c.parse_strict-r in
    c.parse.ensures ∙ L.left_not_strict s _ (rest s 0) p.result p.ensures c.in-NotStrict.is

pub returns-in_default : goal.returns-in_default
returns-in_default c = let s = c.args.text.now in let p = c.parse_strict-r in
    L.settled s _ (rest s 0) p.result p.ensures c.in_default.not-NotStrict
