-- `read_pad` meets its contract: each byte leaves the words that go on with it.
use Rattle.strict.proofs.Tree as L
use mathlib.Core.List.{[], ◌∷◌}
use native.Mathlib.Omega.{arith}
use Rattle.strict.proofs.middles.read_pad.Goals as goal

pub returns-in-110 : goal.returns-in-110
returns-in-110 c = L.down _ c.peek.ensures c.in-110.is c.pad_n.ensures tt

pub returns-in-112 : goal.returns-in-112
returns-in-112 c = L.down _ c.peek.ensures c.in-112.is c.fit.ensures tt

pub returns-in-122 : goal.returns-in-122
returns-in-122 c = L.down _ c.peek.ensures c.in-122.is c.fit-in-122.ensures tt

pub returns-in_default : goal.returns-in_default
returns-in_default c = L.stop _ c.peek.ensures (110 ∷ 112 ∷ 122 ∷ []) ((λ e. omega arith), ((λ e. omega arith), ((λ e. omega arith), tt))) c.requires tt
