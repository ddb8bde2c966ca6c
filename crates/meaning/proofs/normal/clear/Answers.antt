-- A list is clear: the entry at the index decides, or is passed.
use Rattle.std.proofs.Common.{rules, sym, ◌∙◌}
use Rattle.meaning.proofs.Blanks as B
use Rattle.meaning.proofs.normal.clear.Goals as goal

pub returns-then-limit-n : goal.returns-then-limit-n
returns-then-limit-n g c = sym (B.over 8 c.args.used c.args.n _ (search rules))

pub loop-z-init : goal.loop-z-init
loop-z-init g c = B.within g.T.Integer.is 8 c.args.used c.args.n c.args.l.now (search rules)

pub returns-then-wide-ne0 : goal.returns-then-wide-ne0
returns-then-wide-ne0 g c = let l = c.loop-z in
    sym (l.invariant ∙ B.not_zero g.T.Integer.is _ l.z-index _ c.loop-z-test.true c.z-item.is c.wide.ensures c.wide.type_inv c.if-wide-ne0.true)

pub loop-z-preserved : goal.loop-z-preserved
loop-z-preserved g c = let l = c.loop-z in
    l.invariant ∙ B.one_more g.T.Integer.is _ l.z-index _ c.loop-z-test.true c.z-item.is c.wide.ensures c.wide.type_inv c.if-wide-ne0.false

pub returns : goal.returns
returns g c = let l = c.loop-z in sym (l.invariant ∙ B.past g.T.Integer.is _ l.z-index c.loop-z-test.false)
