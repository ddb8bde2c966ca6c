-- `read_name` meets its contract: each byte leaves the words that go on with it.
use Rattle.strict.proofs.Tree as L
use mathlib.Core.List.{[], ◌∷◌}
use native.Mathlib.Omega.{arith}
use Rattle.strict.proofs.names.read_name.Goals as goal

pub returns-in-98 : goal.returns-in-98
returns-in-98 c = L.down _ c.peek.ensures c.in-98.is c.fork.ensures tt

pub returns-in-102 : goal.returns-in-102
returns-in-102 c = L.down _ c.peek.ensures c.in-102.is c.name_f.ensures tt

pub returns-in-105 : goal.returns-in-105
returns-in-105 c = L.down _ c.peek.ensures c.in-105.is c.name_i.ensures tt

pub returns-in-116 : goal.returns-in-116
returns-in-116 c = L.down _ c.peek.ensures c.in-116.is c.fit.ensures tt

pub returns-in_default : goal.returns-in_default
returns-in_default c = L.stop _ c.peek.ensures (98 ∷ 102 ∷ 105 ∷ 116 ∷ []) ((λ e. omega arith), ((λ e. omega arith), ((λ e. omega arith), ((λ e. omega arith), tt)))) c.requires tt
