-- As for dimensions, with the reader of 32-bit entries; the loop sees the default by its bits.
use borrow.Author.Rules.{rules}
use mathlib.Core.Path.{refl, ap, ◌∙◌}
use Prim.Native.Nat.{◌+◌}
use lib.IntN.{ℤ}
use lib.Dec.{eqb}
use lib.ListN.{take}
use mir.Syntax.{w32}
use mir.Val.{to_z, of_z}
use Rattle.lexis.specs.Text.{split}
use Rattle.lexis.proofs.Lists.{rest}
use Rattle.lexis.proofs.Splitting as S
use Rattle.meaning.specs.Views.{small}
use Rattle.lists.specs.Laid.{laid, smalls}
use Rattle.lists.proofs.ByNumeral as E
use Rattle.lists.proofs.Laying as L
use Rattle.lists.proofs.list.parse_smalls.Goals as goal

pub loop-t-init : goal.loop-t-init
loop-t-init c = L.begun 8 _ _ c.none-l.ensures

pub returns-then-t-k : goal.returns-then-t-k
returns-then-t-k c = let a = c.args in
    L.end 8 a.x (small (to_z w32 (of_z w32 a.default))) c.loop-t.invariant c.parse_part-p.ensures.0 (c.small_of.ensures ∙ E.number32 _ (take c.parse_part-p.result.len c.loop-t.t.now) refl (E.part_says 32 (eqb a.x) c.loop-t.t.now c.parse_part-p.ensures.0 (E.as_it_is _ c.parse_part-p.ensures.1))) c.push.ensures (search rules)
    ∙ ap (λ (d : ℤ). laid 8 (smalls d (split a.x a.s.now))) (search rules)

pub loop-t-smaller : goal.loop-t-smaller
loop-t-smaller c = let a = c.args in
    S.less a.x c.loop-t.t.now c.parse_part-p.result.len (search rules)

pub loop-t-preserved : goal.loop-t-preserved
loop-t-preserved c = let a = c.args in
    L.step 8 a.x (small (to_z w32 (of_z w32 a.default))) c.loop-t.invariant c.parse_part-p.ensures.0 (c.small_of.ensures ∙ E.number32 _ (take c.parse_part-p.result.len c.loop-t.t.now) refl (E.part_says 32 (eqb a.x) c.loop-t.t.now c.parse_part-p.ensures.0 (E.as_it_is _ c.parse_part-p.ensures.1))) c.push.ensures
    (rest c.loop-t.t.now (c.parse_part-p.result.len + 1)) (search rules)
