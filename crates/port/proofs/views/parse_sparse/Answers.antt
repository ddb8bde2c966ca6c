-- `parse_sparse` meets its contract: what stands up to the first of the two bytes is one entry.
use mathlib.Core.Path.{refl}
use native.Mathlib.Omega.{arith}
use borrow.Author.Rules.{rules}
use lib.Dec.{eqb}
use Rattle.port.proofs.Clauses as L
use Rattle.port.proofs.Placing as P
use Rattle.port.proofs.views.parse_sparse.Goals as goal

pub returns-then-inner-at : goal.returns-then-inner-at
returns-then-inner-at c = L.sparse_absent c.args.inner.now (P.unplaced_at c.requires c.if-inner-at.true) c.zero.ensures

pub overflow_add-t : goal.overflow_add-t
overflow_add-t c = omega (arith, P.fits c.requires (search rules))

pub slice_bounds-t-count : goal.slice_bounds-t-count
slice_bounds-t-count c = omega (arith, P.fits c.requires (search rules))

pub slice_bounds-t-start : goal.slice_bounds-t-start
slice_bounds-t-start c = omega (arith, P.fits c.requires (search rules))

pub slice_bounds-u-end : goal.slice_bounds-u-end
slice_bounds-u-end c = L.until_part (eqb 44) _ c.until-k.ensures

pub slice_bounds-parse_one-end : goal.slice_bounds-parse_one-end
slice_bounds-parse_one-end c = L.until_part (eqb 62) _ c.until-n.ensures

pub returns : goal.returns
returns c = L.sparse_read c.args.inner.now _ (P.placed_at c.requires (search rules)) _ refl _ _ c.until-k.ensures c.until-n.ensures c.parse_one.ensures
