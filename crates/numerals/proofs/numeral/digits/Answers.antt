-- `digits` meets its contract: the answer is that for the rest of the digits, after those that wrote n; over the limit there is none.
use Rattle.std.proofs.Common.{rules, sym, ◌∙◌}
use Rattle.numerals.proofs.Numbers as L
use Rattle.numerals.proofs.numeral.digits.Goals as goal

pub returns-in_err-checked_mul : goal.returns-in_err-checked_mul
returns-in_err-checked_mul c = let l = c.loop-b in
    (search rules) ∙ sym (l.invariant.2 ∙ L.over c.args.most c.args.text.now l.b-index l.n (search rules) (search rules) (search rules) (search rules))

pub returns-in_err-n : goal.returns-in_err-n
returns-in_err-n c = let l = c.loop-b in
    (search rules) ∙ sym (l.invariant.2 ∙ L.over c.args.most c.args.text.now l.b-index l.n (search rules) (search rules) (search rules) (search rules))

pub returns-then-most-n : goal.returns-then-most-n
returns-then-most-n c = let l = c.loop-b in
    sym (l.invariant.2 ∙ L.over c.args.most c.args.text.now l.b-index l.n (search rules) (search rules) (search rules) (search rules))
