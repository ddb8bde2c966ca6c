-- `read_sparse` meets its contract: its word, a numeral, the end.
use Rattle.strict.proofs.Chain as H
use borrow.Author.Rules.{rules}
use mathlib.Core.Path.{sym, ap}
use Rattle.strict.specs.Views.{sparse_part, sparse_tail}
use mir.Syntax.{w32}
use mir.Val.{to_z, of_z}
use mathlib.Core.Path.{◌≡◌}
use lib.ListN.{drop}
use Rattle.strict.proofs.view.read_sparse.Goals as goal

pub returns-in_err-k : goal.returns-in_err-k
unfolding sparse_part
returns-in_err-k c = H.stops _ c.in_err-k.ensures c.from_residual.ensures.1

pub returns-in_err-n : goal.returns-in_err-n
unfolding sparse_part
returns-in_err-n c = H.goes _ c.in_ok-k.ensures (H.stops _ c.in_err-n.ensures c.from_residual-in_err-n.ensures.1)

pub returns : goal.returns
unfolding sparse_part
returns c = H.goes _ c.in_ok-k.ensures (H.goes _ c.in_ok-n.ensures (let n = c.in_ok-n.n in let z : to_z w32 (of_z w32 n.value) ≡ n.value = search rules in H.same_as (ap (λ v. sparse_tail v (drop n.end c.args.s.now)) (sym z)) c.fit.ensures))
