-- `trim_end_matches` meets its contract: the last byte decides.
use Rattle.std.proofs.Common.{rules, sym, ◌∙◌, ap}
use Rattle.lexis.specs.Text.{less_trailing}
use Rattle.lexis.proofs.Trimming as L
use Rattle.lexis.proofs.text.trim_end_matches.Goals as goal

pub loop-last-preserved : goal.loop-last-preserved
loop-last-preserved g c = let p = g.P.Pattern.matches c.args.p in let s = c.in-Some in
    c.loop-last.invariant ∙ ap (less_trailing p) s.ensures.cases.0 ∙ L.last_goes p s.before.now s.last.now (search rules)

pub returns-then-not-matches : goal.returns-then-not-matches
returns-then-not-matches g c = let p = g.P.Pattern.matches c.args.p in let s = c.in-Some in
    sym (c.loop-last.invariant ∙ ap (less_trailing p) s.ensures.cases.0 ∙ L.last_stays p s.before.now s.last.now (search rules) ∙ sym s.ensures.cases.0)
