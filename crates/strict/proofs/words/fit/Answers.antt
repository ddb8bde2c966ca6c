-- `fit` meets its contract: what is left of the word against what is left of the text.
use Rattle.strict.proofs.Tree as L
use mathlib.Core.Path.{◌∙◌}
use borrow.Author.Rules.{rules}
use Rattle.strict.proofs.words.fit.Goals as goal
use Rattle.strict.proofs.words.fit.Goals.{then-s-i-via-then-s-i, then-s-i-via-else-s-i+then-s-i-2}

pub returns-then-s-i : goal.returns-then-s-i
returns-then-s-i g c = let a = c.args in let l = c.loop-b in record {
  same = l.invariant.2 ∙ elim c.then-s-i.branch [
    | then-s-i-via-then-s-i w ↦ L.fit_end a.s.now a.w.now l.i l.b-index a.value (search rules) w.if-s-i.true
    | then-s-i-via-else-s-i+then-s-i-2 w ↦ L.fit_off a.s.now a.w.now l.i l.b-index a.value (search rules) w.if-s-i.false w.if-s-i-2.true
  ];
  inside = search rules;
  onward = search rules;
}

pub loop-b-preserved : goal.loop-b-preserved
loop-b-preserved g c = let a = c.args in let l = c.loop-b in (search rules, search rules, l.invariant.2 ∙ L.fit_on a.s.now a.w.now l.i l.b-index a.value (search rules) (search rules) c.if-s-i-2.false)

pub returns : goal.returns
returns g c = let a = c.args in let l = c.loop-b in record { same = l.invariant.2 ∙ L.fit_done a.s.now a.w.now l.i l.b-index a.value (search rules); inside = search rules; onward = search rules }
