-- Each part in turn, the last one too.
use borrow.Author.Rules.{rules}
use mathlib.Core.Path.{sym}
use Prim.Native.Nat.{◌+◌}
use lib.Dec.{eqb}
use lib.Seq.{length-take-le}
use Rattle.lexis.proofs.Lists.{rest}
use Rattle.lexis.proofs.Splitting as S
use Rattle.meaning.specs.Tile.{dimension}
use Rattle.lists.proofs.Bounds.{part_within}
use Rattle.lists.proofs.ByNumeral as E
use Rattle.lists.proofs.Laying as L
use Rattle.lists.proofs.list.parse_dims.Goals as goal

pub loop-t-init : goal.loop-t-init
loop-t-init c = L.begun 8 _ _ c.none-l.ensures

pub slice_bounds-dim_of-end : goal.slice_bounds-dim_of-end
slice_bounds-dim_of-end c = sym (length-take-le _ _ (part_within c.args.x c.loop-t.t.now c.parse_part-p.ensures.0))

pub dim_of-requires : goal.dim_of-requires
dim_of-requires c = E.part_says 64 (eqb c.args.x) c.loop-t.t.now c.parse_part-p.ensures.0 (E.as_it_is _ c.parse_part-p.ensures.1)

pub returns-then-t-k : goal.returns-then-t-k
returns-then-t-k c = let a = c.args in
    L.end 8 a.x dimension c.loop-t.invariant c.parse_part-p.ensures.0 c.dim_of.ensures c.push.ensures (search rules)

pub loop-t-smaller : goal.loop-t-smaller
loop-t-smaller c = S.less c.args.x c.loop-t.t.now c.parse_part-p.result.len (search rules)

pub loop-t-preserved : goal.loop-t-preserved
loop-t-preserved c = let a = c.args in
    L.step 8 a.x dimension c.loop-t.invariant c.parse_part-p.ensures.0 c.dim_of.ensures c.push.ensures
    (rest c.loop-t.t.now (c.parse_part-p.result.len + 1)) (search rules)
