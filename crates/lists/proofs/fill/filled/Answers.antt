-- `v` stands before the place i, and is stored there once more.
use Rattle.std.proofs.Common.{rules, ◌≡◌, sym, subst, length, replicate, pos, List, ℤ}
use lib.ListN.{length-replicate, get_or-replicate}
use Rattle.lists.proofs.Filling as F
use Rattle.lists.proofs.fill.filled.Goals as goal

pub loop-i-init : goal.loop-i-init
loop-i-init g c = let z = g.A.Entry.Integer.is c.args.v in
    subst (λ (vs : List ℤ). F.Filled 8 (replicate c.args.n z) vs 0) (sym c.none-values.ensures) (F.fresh 8 (replicate c.args.n z))

pub loop-i-preserved : goal.loop-i-preserved
loop-i-preserved g c = let n = c.args.n in let l = c.loop-i in let z = g.A.Entry.Integer.is c.args.v in
    let m : length (replicate n z) ≡ n = length-replicate n z in
    F.store 8 (replicate n z) l.invariant (search rules) (rw m (search rules)) (sym (get_or-replicate n l.i z (pos 0) (search rules))) c.put.ensures

pub returns : goal.returns
returns g c = let n = c.args.n in let z = g.A.Entry.Integer.is c.args.v in
    F.whole 8 (replicate n z) c.loop-i.invariant (search rules) (sym (length-replicate n z)) c.filled_in.ensures
