-- `plain_from` meets its contract: the first behind `tile=(` is the first from `behind` on, where it stands there; else it is sought.
use mathlib.Core.Path.{sym, ap, ◌∙◌}
use borrow.Author.Rules.{rules}
use Rattle.lexis.specs.Text.{Text, bytes, cut, place}
use Rattle.port.proofs.Placing as L
use Rattle.lexis.proofs.Lists.{rest}
use Rattle.port.proofs.inner.plain_from.Goals as goal

pub returns : goal.returns
returns c = let a = c.args in c.find_by.ensures ∙ ap (λ (u : Text). place (cut (bytes "tensor_view<") u)) (rest a.inner.now a.behind)

pub returns-then-inner-b : goal.returns-then-inner-b
returns-then-inner-b c = let q = c.requires in sym (L.none_behind q.0 q.1 _ q.2 (search rules))

pub returns-then-behind-x : goal.returns-then-behind-x
returns-then-behind-x c = let q = c.requires in sym (L.first_behind q.0 q.1 _ q.2 (search rules) (search rules))
