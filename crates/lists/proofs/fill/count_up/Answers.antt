-- The numbers from 0 stand before the place i, and the next is stored there.
use Rattle.std.proofs.Common.{rules, ◌≡◌, sym, ◌∙◌, length}
use mir.Syntax.{w32}
use mir.ValLaws.{to_z_pos}
use Rattle.meaning.specs.Views.{count_up}
use Rattle.lists.proofs.Filling as F
use Rattle.lists.proofs.fill.count_up.Goals as goal

pub loop-i-init : goal.loop-i-init
loop-i-init c = F.fresh 8 _

pub loop-i-preserved : goal.loop-i-preserved
loop-i-preserved c = let n = c.args.n in let l = c.loop-i in let m : length (count_up 0 n) ≡ n = F.length_up 0 n in
    F.store 8 (count_up 0 n) l.invariant (search rules) (rw m (search rules)) (to_z_pos w32 l.i (search rules) ∙ F.from_0 n l.i (search rules)) (search rules)

pub returns : goal.returns
returns c = let n = c.args.n in
    F.whole 8 (count_up 0 n) c.loop-i.invariant (search rules) (sym (F.length_up 0 n)) c.filled_in.ensures
