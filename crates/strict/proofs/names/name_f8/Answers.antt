-- `name_f8` meets its contract: each byte leaves the words that go on with it.
use Rattle.strict.proofs.Tree as L
use mathlib.Core.List.{[], ◌∷◌}
use native.Mathlib.Omega.{arith}
use Rattle.strict.proofs.names.name_f8.Goals as goal

pub returns-in-69 : goal.returns-in-69
returns-in-69 c = L.down _ c.peek.ensures c.in-69.is c.name_f8_by.ensures tt

pub returns-in-101 : goal.returns-in-101
returns-in-101 c = L.down _ c.peek.ensures c.in-101.is c.name_f8_by-in-101.ensures tt

pub returns-in_default : goal.returns-in_default
returns-in_default c = L.stop _ c.peek.ensures (69 ∷ 101 ∷ []) ((λ e. omega arith), ((λ e. omega arith), tt)) c.requires tt
