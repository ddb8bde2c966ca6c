-- Each part in turn but the last, which is left.
use borrow.Author.Rules.{rules}
use mathlib.Core.Path.{sym}
use Prim.Native.Nat.{◌+◌}
use lib.Dec.{eqb}
use lib.Seq.{length-take-le}
use Rattle.lexis.proofs.Lists.{rest}
use Rattle.lexis.proofs.Splitting as S
use Rattle.meaning.specs.Tile.{dimension}
use Rattle.lists.proofs.Bounds.{part_within}
use Rattle.lists.proofs.ByNumeral as E
use Rattle.lists.proofs.Laying as L
use Rattle.lists.proofs.list.before_last.Goals as goal

pub loop-rest-init : goal.loop-rest-init
loop-rest-init c = L.begun 8 _ _ c.none-dims.ensures

pub returns-then-rest-k : goal.returns-then-rest-k
returns-then-rest-k c = let l = c.loop-rest in let x = c.args.x in
    let h = L.last_is 8 x dimension l.rest.now c.parse_part-p.ensures.0 (search rules) in
    record { dims = L.dims_front 8 x dimension l.invariant h; part = L.part_last 8 x dimension l.invariant h }

pub slice_bounds-dim_of-end : goal.slice_bounds-dim_of-end
slice_bounds-dim_of-end c = sym (length-take-le _ _ (part_within c.args.x c.loop-rest.rest.now c.parse_part-p.ensures.0))

pub dim_of-requires : goal.dim_of-requires
dim_of-requires c = E.part_says 64 (eqb c.args.x) c.loop-rest.rest.now c.parse_part-p.ensures.0 (E.as_it_is _ c.parse_part-p.ensures.1)

pub loop-rest-smaller : goal.loop-rest-smaller
loop-rest-smaller c = S.less c.args.x c.loop-rest.rest.now c.parse_part-p.result.len (search rules)

pub loop-rest-preserved : goal.loop-rest-preserved
loop-rest-preserved c = let a = c.args in
    L.step 8 a.x dimension c.loop-rest.invariant c.parse_part-p.ensures.0 c.dim_of.ensures c.push.ensures
    (rest c.loop-rest.rest.now (c.parse_part-p.result.len + 1)) (search rules)
