-- `noted` meets its contract: few defaults add up.
use native.Mathlib.Omega.{arith}
use Rattle.port.specs.Carried.{rows_noted}
use Rattle.port.proofs.Making as L
use Rattle.port.proofs.made.noted.Goals as goal

pub overflow_add-result-4 : goal.overflow_add-result-4
unfolding rows_noted
overflow_add-result-4 c = let a = c.args in omega (arith, c.lacks.ensures, c.lacks-2.ensures, L.lacks_few a.strides, L.lacks_few a.map)

pub overflow_add-result-5 : goal.overflow_add-result-5
unfolding rows_noted
overflow_add-result-5 c = let a = c.args in omega (arith, c.lacks.ensures, c.lacks-2.ensures, c.lacks-3.ensures, L.lacks_few a.strides, L.lacks_few a.map, L.lacks_few a.traversal)

pub overflow_add-result-6 : goal.overflow_add-result-6
unfolding rows_noted
overflow_add-result-6 c = let a = c.args in omega (arith, c.lacks.ensures, c.lacks-2.ensures, c.lacks-3.ensures, c.lacks-4.ensures, L.lacks_few a.strides, L.lacks_few a.map, L.lacks_few a.traversal, L.lacks_few a.sparse)

pub returns : goal.returns
unfolding rows_noted
returns c = cc (c.lacks.ensures, c.lacks-2.ensures, c.lacks-3.ensures, c.lacks-4.ensures)
