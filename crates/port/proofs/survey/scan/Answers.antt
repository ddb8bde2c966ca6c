-- `scan` meets its contract: from anchor to anchor the match and the first places are kept.
use native.Mathlib.Omega.{arith}
use borrow.Author.Rules.{rules}
use Rattle.port.proofs.Keeping as L
use Rattle.port.proofs.survey.scan.Goals as goal

pub loop-i-init : goal.loop-i-init
loop-i-init c = L.begin c.none_yet-r.ensures c.seek-i.ensures

pub returns-then-d-eq0 : goal.returns-then-d-eq0
returns-then-d-eq0 c = L.matched c.loop-i.invariant (search rules) c.if-b-eq62.true c.if-d-eq0.true

pub sighted-r-requires : goal.sighted-r-requires
sighted-r-requires c = (search rules, c.loop-i.invariant.sights)

pub loop-i-smaller : goal.loop-i-smaller
loop-i-smaller c =
    let e = c.seek-i-in-loop-i.ensures in
    let h = c.loop-i-test.true in
    omega arith

pub loop-i-preserved : goal.loop-i-preserved
loop-i-preserved c = L.again c.loop-i.invariant (search rules) c.deepened-d.ensures
    c.sighted-r.ensures c.seek-i-in-loop-i.ensures

pub returns : goal.returns
returns c = L.unmatched c.loop-i.invariant (search rules)
