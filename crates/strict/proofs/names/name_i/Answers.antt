-- `name_i` meets its contract: each byte leaves the words that go on with it.
use Rattle.strict.proofs.Tree as L
use mathlib.Core.List.{[], ◌∷◌}
use native.Mathlib.Omega.{arith}
use Rattle.strict.proofs.names.name_i.Goals as goal

pub returns-in-49 : goal.returns-in-49
returns-in-49 c = L.down _ c.peek.ensures c.in-49.is c.fork_i1.ensures tt

pub returns-in-52 : goal.returns-in-52
returns-in-52 c = let k = c.in-52.is in L.down _ c.peek.ensures k (L.full (L.within _ _ c.peek.ensures k tt)) tt

pub returns-in-56 : goal.returns-in-56
returns-in-56 c = let k = c.in-56.is in L.down _ c.peek.ensures k (L.full (L.within _ _ c.peek.ensures k tt)) tt

pub returns-in-51 : goal.returns-in-51
returns-in-51 c = L.down _ c.peek.ensures c.in-51.is c.fit.ensures tt

pub returns-in-54 : goal.returns-in-54
returns-in-54 c = L.down _ c.peek.ensures c.in-54.is c.fit-in-54.ensures tt

pub returns-in_default : goal.returns-in_default
returns-in_default c = L.stop _ c.peek.ensures (49 ∷ 52 ∷ 56 ∷ 51 ∷ 54 ∷ []) ((λ e. omega arith), ((λ e. omega arith), ((λ e. omega arith), ((λ e. omega arith), ((λ e. omega arith), tt))))) c.requires tt
