-- `parse_tile` meets its contract: by the first `ptr<` that was sighted.
use mathlib.Core.Path.{sym, ap, ◌∙◌}
use native.Mathlib.Omega.{arith}
use borrow.Author.Rules.{rules}
use lib.Seq.{length-take-le}
use Rattle.port.specs.Carried.{answered}
use Rattle.port.proofs.Placing as P
use Rattle.port.proofs.Tiling as L
use Rattle.port.proofs.tile.parse_tile.Goals as goal

pub slice_bounds-pointer_tile-end : goal.slice_bounds-pointer_tile-end
slice_bounds-pointer_tile-end c = sym (length-take-le _ _ (omega (arith, P.fits c.requires.ptr c.if-i-inner.true)))

pub overflow_add-i : goal.overflow_add-i
overflow_add-i c = omega (arith, P.fits c.requires.ptr c.if-i-inner.true)

pub slice_bounds-pointer_tile-count : goal.slice_bounds-pointer_tile-count
slice_bounds-pointer_tile-count c = omega (arith, P.fits c.requires.ptr c.if-i-inner.true)

pub slice_bounds-pointer_tile-start : goal.slice_bounds-pointer_tile-start
slice_bounds-pointer_tile-start c = omega (arith, P.fits c.requires.ptr c.if-i-inner.true)

pub returns-then-i-inner : goal.returns-then-i-inner
returns-then-i-inner c = c.pointer_tile.ensures ∙ ap (answered c.args.marked) (L.tile_at c.args.inner.now _ (P.placed c.requires.ptr c.if-i-inner.true))

pub returns : goal.returns
returns c = c.scalar_tile.ensures ∙ ap (answered c.args.marked) (L.tile_nowhere c.args.inner.now (P.unplaced c.requires.ptr (search rules)))
