-- `kind` meets its contract: each byte leaves the words that go on with it.
use Rattle.strict.proofs.Tree as L
use mathlib.Core.List.{[], ◌∷◌}
use native.Mathlib.Omega.{arith}
use Rattle.strict.proofs.heads.kind.Goals as goal

pub returns-in-103 : goal.returns-in-103
returns-in-103 c = L.down _ c.peek.ensures c.in-103.is c.fit.ensures tt

pub returns-in-112 : goal.returns-in-112
returns-in-112 c = L.down _ c.peek.ensures c.in-112.is c.fork.ensures tt

pub returns-in-115 : goal.returns-in-115
returns-in-115 c = L.down _ c.peek.ensures c.in-115.is c.fit-in-115.ensures tt

pub returns-in-116 : goal.returns-in-116
returns-in-116 c = L.down _ c.peek.ensures c.in-116.is c.kind_t.ensures tt

pub returns-in_default : goal.returns-in_default
returns-in_default c = L.stop _ c.peek.ensures (103 ∷ 112 ∷ 115 ∷ 116 ∷ []) ((λ e. omega arith), ((λ e. omega arith), ((λ e. omega arith), ((λ e. omega arith), tt)))) c.requires tt
