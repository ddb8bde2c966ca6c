-- `read_head` meets its contract: each byte leaves the words that go on with it.
use Rattle.strict.proofs.Tree as L
use mathlib.Core.Path.{sym, ◌∙◌}
use native.Mathlib.Omega.{arith}
use Rattle.strict.proofs.Chain as H
use Rattle.strict.specs.Heads.{heads, kinds}
use Rattle.strict.specs.Inner.{named}
use Rattle.lexis.specs.Text.{bytes}
use Rattle.strict.proofs.Picking.{among_label}
use Rattle.strict.specs.declared.heads.Head.TheVariants.{Scalar}
use mathlib.Core.Path.{refl}
use Rattle.strict.proofs.heads.read_head.Goals as goal

pub returns-in-33 : goal.returns-in-33
returns-in-33 c = L.down _ c.peek.ensures c.in-33.is c.kind_full.ensures tt

pub returns-in-98 : goal.returns-in-98
returns-in-98 c = L.down _ c.peek.ensures c.in-98.is c.fork.ensures tt

pub returns-in_err-n-in-102 : goal.returns-in_err-n-in-102
returns-in_err-n-in-102 c = L.down _ c.peek.ensures c.in-102.is (H.same_as (among_label Scalar (named (bytes "f")) _) (H.halts _ c.in_err-n-in-102.ensures c.from_residual.ensures.1)) tt

pub returns-in_ok-n-in-102 : goal.returns-in_ok-n-in-102
returns-in_ok-n-in-102 c = L.down _ c.peek.ensures c.in-102.is (H.same_as (among_label Scalar (named (bytes "f")) _) (H.ends _ c.in_ok-n-in-102.ensures refl)) tt

pub returns-in_err-n-in-105 : goal.returns-in_err-n-in-105
returns-in_err-n-in-105 c = L.down _ c.peek.ensures c.in-105.is (H.same_as (among_label Scalar (named (bytes "i")) _) (H.halts _ c.in_err-n-in-105.ensures c.from_residual-in_err-n-in-105.ensures.1)) tt

pub returns-in_ok-n-in-105 : goal.returns-in_ok-n-in-105
returns-in_ok-n-in-105 c = L.down _ c.peek.ensures c.in-105.is (H.same_as (among_label Scalar (named (bytes "i")) _) (H.ends _ c.in_ok-n-in-105.ensures refl)) tt

pub returns-in-116 : goal.returns-in-116
returns-in-116 c = L.down _ c.peek.ensures c.in-116.is c.head_t.ensures tt

pub returns-in_default : goal.returns-in_default
returns-in_default c = let a = c.args in record { same = L.omit a.s.now 0 98 heads (λ e. omega arith) ∙ L.omit a.s.now 0 102 (L.others 98 heads) (λ e. omega arith) ∙ L.omit a.s.now 0 105 (L.others 102 (L.others 98 heads)) (λ e. omega arith) ∙ L.omit a.s.now 0 116 (L.others 105 (L.others 102 (L.others 98 heads))) (λ e. omega arith) ∙ L.omit a.s.now 0 33 (L.others 116 (L.others 105 (L.others 102 (L.others 98 heads)))) (λ e. omega arith) ∙ sym (L.omit a.s.now 0 116 kinds (λ e. omega arith)) ∙ c.kind.ensures.same; inside = c.kind.ensures.inside; onward = c.kind.ensures.onward }
