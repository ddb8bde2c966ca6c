-- `kind_t` meets its contract: each byte leaves the words that go on with it.
use Rattle.strict.proofs.Tree as L
use mathlib.Core.List.{[], ◌∷◌}
use native.Mathlib.Omega.{arith}
use Rattle.strict.proofs.heads.kind_t.Goals as goal

pub returns-in-101 : goal.returns-in-101
returns-in-101 c = L.down _ c.peek.ensures c.in-101.is c.fit.ensures tt

pub returns-in-105 : goal.returns-in-105
returns-in-105 c = L.down _ c.peek.ensures c.in-105.is c.fit-in-105.ensures tt

pub returns-in-111 : goal.returns-in-111
returns-in-111 c = L.down _ c.peek.ensures c.in-111.is c.fit-in-111.ensures tt

pub returns-in_default : goal.returns-in_default
returns-in_default c = L.stop _ c.peek.ensures (101 ∷ 105 ∷ 111 ∷ []) ((λ e. omega arith), ((λ e. omega arith), ((λ e. omega arith), tt))) c.requires tt
