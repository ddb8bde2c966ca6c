-- `read_core_name` meets its contract: a pointer by its first byte, else a name.
use Rattle.strict.proofs.Tree as L
use native.Mathlib.Omega.{arith}
use Rattle.strict.proofs.Chain as H
use Rattle.strict.specs.Inner.{names}
use Rattle.strict.proofs.Picking.{among_label}
use Rattle.std.specs.Prelude.{Some}
use mathlib.Core.Path.{refl}
use Rattle.strict.proofs.names.read_core_name.Goals as goal

pub returns-in-33 : goal.returns-in-33
returns-in-33 c = L.down _ c.peek.ensures c.in-33.is c.fit.ensures tt

pub returns-in-112 : goal.returns-in-112
returns-in-112 c = L.down _ c.peek.ensures c.in-112.is c.fit-in-112.ensures tt

pub returns-in_err-n-in_default : goal.returns-in_err-n-in_default
returns-in_err-n-in_default c = L.but _ {c = 33} c.peek.ensures (λ e. omega arith) (L.but _ {c = 112} c.peek.ensures (λ e. omega arith) (H.same_as (among_label Some names _) (H.halts _ c.in_err-n-in_default.ensures c.from_residual.ensures.1)))

pub returns-in_ok-n-in_default : goal.returns-in_ok-n-in_default
returns-in_ok-n-in_default c = L.but _ {c = 33} c.peek.ensures (λ e. omega arith) (L.but _ {c = 112} c.peek.ensures (λ e. omega arith) (H.same_as (among_label Some names _) (H.ends _ c.in_ok-n-in_default.ensures refl)))
