-- `parse_view_tile_shape` meets its contract: `tile=(` was sighted, then the `)` behind it is found.
use Rattle.std.proofs.Common.{rules, arith, sym, ◌∙◌}
use Rattle.lexis.specs.Text.{bytes}
use Rattle.port.proofs.Clauses as L
use Rattle.port.proofs.Placing as P
use Rattle.port.proofs.Sights as S
use Rattle.port.proofs.views.parse_view_tile_shape.Goals as goal

pub returns-then-inner-at : goal.returns-then-inner-at
returns-then-inner-at c = S.tile_absent c.args.inner.now c.args.at (P.unplaced_at c.requires c.if-inner-at.true)

pub overflow_add-start : goal.overflow_add-start
overflow_add-start c = omega (arith, P.fits c.requires (search rules))

pub slice_bounds-find-count : goal.slice_bounds-find-count
slice_bounds-find-count c = omega (arith, P.fits c.requires (search rules))

pub slice_bounds-find-start : goal.slice_bounds-find-start
slice_bounds-find-start c = omega (arith, P.fits c.requires (search rules))

pub returns-in_err-end : goal.returns-in_err-end
returns-in_err-end c = S.tile_unclosed c.args.inner.now _ (P.placed_at c.requires (search rules)) (sym c.find.ensures ∙ c.in_err-end.was) (search rules)

pub overflow_add-end : goal.overflow_add-end
overflow_add-end c = omega (arith, L.next_within (bytes "tile=(") c.args.inner.now _ (P.placed_at c.requires (search rules)) (bytes ")") _ (sym c.find.ensures ∙ c.in_ok-end.was))

pub slice_bounds-tile_entries-end : goal.slice_bounds-tile_entries-end
slice_bounds-tile_entries-end c = omega (arith, L.next_within (bytes "tile=(") c.args.inner.now _ (P.placed_at c.requires (search rules)) (bytes ")") _ (sym c.find.ensures ∙ c.in_ok-end.was))

pub slice_bounds-tile_entries-count : goal.slice_bounds-tile_entries-count
slice_bounds-tile_entries-count c = omega (arith, L.next_within (bytes "tile=(") c.args.inner.now _ (P.placed_at c.requires (search rules)) (bytes ")") _ (sym c.find.ensures ∙ c.in_ok-end.was))

pub overflow_add-result : goal.overflow_add-result
overflow_add-result c = omega (arith, L.next_within (bytes "tile=(") c.args.inner.now _ (P.placed_at c.requires (search rules)) (bytes ")") _ (sym c.find.ensures ∙ c.in_ok-end.was))

pub returns : goal.returns
returns c = S.tile_closed c.args.inner.now _ (P.placed_at c.requires (search rules)) _ (sym c.find.ensures ∙ c.in_ok-end.was) _ c.tile_entries.ensures
