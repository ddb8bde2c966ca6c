-- `deepened` meets its contract.
use native.Mathlib.Omega.{arith}
use Rattle.port.proofs.Depth as L
use Rattle.port.proofs.survey.deepened.Goals as goal

pub returns-then-b-eq60 : goal.returns-then-b-eq60
returns-then-b-eq60 c = L.deeper _ _ c.if-b-eq60.true

pub overflow_sub-result : goal.overflow_sub-result
overflow_sub-result c = let n = c.requires.1 c.if-b-eq62.true in omega arith

pub returns-then-b-eq62 : goal.returns-then-b-eq62
returns-then-b-eq62 c = L.shallow _ _ c.if-b-eq62.true (c.requires.1 c.if-b-eq62.true)

pub returns : goal.returns
returns c = L.level _ _ c.if-b-eq60.false c.if-b-eq62.false
