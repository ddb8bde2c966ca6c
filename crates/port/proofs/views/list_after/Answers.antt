-- `list_after` meets its contract: the prefix was sighted, then the `]` behind it is found.
use mathlib.Core.Path.{sym, ◌∙◌, refl}
use native.Mathlib.Omega.{arith}
use borrow.Author.Rules.{rules}
use Rattle.port.proofs.Clauses as L
use Rattle.port.proofs.Placing as P
use Rattle.port.proofs.views.list_after.Goals as goal

pub returns-then-inner-at : goal.returns-then-inner-at
returns-then-inner-at c = L.list_absent c.args.prefix.now c.args.inner.now (P.unplaced_at c.requires c.if-inner-at.true)

pub overflow_add-rest : goal.overflow_add-rest
overflow_add-rest c = omega (arith, P.fits c.requires (search rules))

pub slice_bounds-rest-count : goal.slice_bounds-rest-count
slice_bounds-rest-count c = omega (arith, P.fits c.requires (search rules))

pub slice_bounds-rest-start : goal.slice_bounds-rest-start
slice_bounds-rest-start c = omega (arith, P.fits c.requires (search rules))

pub slice_bounds-result-end : goal.slice_bounds-result-end
slice_bounds-result-end c = L.closed_fits c.args.prefix.now c.args.inner.now _ (P.placed_at c.requires (search rules)) _ (sym c.find.ensures ∙ c.in-Some.is)

pub returns-in-Some : goal.returns-in-Some
returns-in-Some c = L.list_closed c.args.prefix.now c.args.inner.now _ (P.placed_at c.requires (search rules)) _ (sym c.find.ensures ∙ c.in-Some.is) refl

pub returns-in-None : goal.returns-in-None
returns-in-None c = L.list_unclosed c.args.prefix.now c.args.inner.now _ (P.placed_at c.requires (search rules)) (sym c.find.ensures ∙ c.in-None.is)
