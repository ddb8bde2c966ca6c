-- `grow` meets its contract, by the laws of Numbers.
use Rattle.strict.proofs.Numbers as L
use lib.ListN.{get_or}
use Prim.Native.Nat.{◌≤◌, ◌-◌, ◌+◌, ◌*◌}
use native.Mathlib.Omega.{arith}
use mathlib.Core.Path.{◌∙◌}
use borrow.Author.Rules.{rules}
use Rattle.strict.proofs.number.grow.Goals as goal
use Rattle.strict.proofs.number.grow.Goals.{then-most-n+else-most-n-2+else-most-n-3, else-most-n}

pub returns-then-b-lt48 : goal.returns-then-b-lt48
returns-then-b-lt48 c = let l = c.loop-i in record { told = record { same = l.invariant.3 ∙ L.grow_low _ l.n _ l.i (search rules) (search rules); inside = search rules; onward = search rules }; below = search rules }

pub returns-then-b-gt57 : goal.returns-then-b-gt57
returns-then-b-gt57 c = let l = c.loop-i in record { told = record { same = l.invariant.3 ∙ L.grow_high _ l.n _ l.i (search rules) (search rules); inside = search rules; onward = search rules }; below = search rules }

pub returns-then-most-n-2 : goal.returns-then-most-n-2
returns-then-most-n-2 c = let l = c.loop-i in record { told = record { same = l.invariant.3 ∙ L.grow_over _ l.n _ l.i (search rules) (search rules); inside = search rules; onward = search rules }; below = search rules }

pub returns-then-most-n-3 : goal.returns-then-most-n-3
returns-then-most-n-3 c = let l = c.loop-i in record { told = record { same = l.invariant.3 ∙ L.grow_past _ l.n _ l.i (search rules) (search rules) (search rules); inside = search rules; onward = search rules }; below = search rules }

pub overflow_mul-n-in-loop-i : goal.overflow_mul-n-in-loop-i
overflow_mul-n-in-loop-i c = let l = c.loop-i in let h : l.n * 10 + (get_or c.args.s.now l.i 0 - 48) ≤ c.args.most = elim c.if-most-n.branch [ then-most-n+else-most-n-2+else-most-n-3 w ↦ L.last_fits _ _ _ w.if-most-n-2.false w.if-most-n-3.false | else-most-n w ↦ L.any_fits _ _ _ w.if-most-n.false c.if-b-gt57.false ] in search rules

pub overflow_add-n : goal.overflow_add-n
overflow_add-n c = let l = c.loop-i in let h : l.n * 10 + (get_or c.args.s.now l.i 0 - 48) ≤ c.args.most = elim c.if-most-n.branch [ then-most-n+else-most-n-2+else-most-n-3 w ↦ L.last_fits _ _ _ w.if-most-n-2.false w.if-most-n-3.false | else-most-n w ↦ L.any_fits _ _ _ w.if-most-n.false c.if-b-gt57.false ] in search rules

pub loop-i-preserved : goal.loop-i-preserved
loop-i-preserved c = let l = c.loop-i in let h : l.n * 10 + (get_or c.args.s.now l.i 0 - 48) ≤ c.args.most = elim c.if-most-n.branch [ then-most-n+else-most-n-2+else-most-n-3 w ↦ L.last_fits _ _ _ w.if-most-n-2.false w.if-most-n-3.false | else-most-n w ↦ L.any_fits _ _ _ w.if-most-n.false c.if-b-gt57.false ] in (search rules, search rules, h, l.invariant.3 ∙ L.grow_on _ l.n _ l.i (search rules) (search rules) (search rules) (omega arith))

pub returns : goal.returns
returns c = let l = c.loop-i in record { told = record { same = l.invariant.3 ∙ L.grow_end _ l.n _ l.i (search rules); inside = search rules; onward = search rules }; below = search rules }
