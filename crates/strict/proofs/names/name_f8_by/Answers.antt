-- `name_f8_by` meets its contract: each byte leaves the words that go on with it.
use Rattle.strict.proofs.Tree as L
use mathlib.Core.List.{[], ◌∷◌}
use native.Mathlib.Omega.{arith}
use Rattle.strict.proofs.names.name_f8_by.Goals as goal

pub returns-in-52 : goal.returns-in-52
returns-in-52 c = L.down _ c.peek.ensures c.in-52.is c.fit.ensures tt

pub returns-in_err-p-in-53 : goal.returns-in_err-p-in-53
returns-in_err-p-in-53 c = L.down _ c.peek.ensures c.in-53.is (L.two_off _ _ _ _ _ _ c.in_err-p-in-53.ensures c.from_residual.ensures.1) tt

pub returns-in_ok-p-in-53 : goal.returns-in_ok-p-in-53
returns-in_ok-p-in-53 c = L.down _ c.peek.ensures c.in-53.is (L.two _ _ _ _ _ _ c.in_ok-p-in-53.ensures c.fork.ensures) tt

pub returns-in-56 : goal.returns-in-56
returns-in-56 c = L.down _ c.peek.ensures c.in-56.is c.fit-in-56.ensures tt

pub returns-in_default : goal.returns-in_default
returns-in_default c = L.stop _ c.peek.ensures (52 ∷ 53 ∷ 56 ∷ []) ((λ e. omega arith), ((λ e. omega arith), ((λ e. omega arith), tt))) c.requires.at_in_bounds tt
