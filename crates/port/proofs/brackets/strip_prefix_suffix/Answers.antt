-- `strip_prefix_suffix` meets its contract: behind the prefix stands the content, and it was scanned.
use Rattle.std.proofs.Common.{arith, rules, sym, ◌∙◌, refl}
use lib.Seq.{length-take-le}
use Rattle.lexis.proofs.Seeking.{begins_within}
use Rattle.port.proofs.Contents as L
use Rattle.port.proofs.brackets.strip_prefix_suffix.Goals as goal

pub slice_bounds-t-count : goal.slice_bounds-t-count
slice_bounds-t-count c = let a = c.args in omega (arith, begins_within a.prefix.now a.s.now (sym c.begins.ensures ∙ c.if-not-begins.false))

pub slice_bounds-t-start : goal.slice_bounds-t-start
slice_bounds-t-start c = let a = c.args in omega (arith, begins_within a.prefix.now a.s.now (sym c.begins.ensures ∙ c.if-not-begins.false))

pub returns-then-not-begins : goal.returns-then-not-begins
returns-then-not-begins c = let a = c.args in L.foreign_form a.prefix.now a.s.now (sym c.begins.ensures ∙ c.if-not-begins.true)

pub returns-in_err-n : goal.returns-in_err-n
returns-in_err-n c = let a = c.args in L.unscanned_form a.prefix.now a.s.now (sym c.begins.ensures ∙ c.if-not-begins.false) c.survey_content-r.ensures c.in_err-n.was (search rules)

pub slice_bounds-result-end : goal.slice_bounds-result-end
slice_bounds-result-end c = let a = c.args in sym (length-take-le _ _ (L.scanned_within a.prefix.now a.s.now (sym c.begins.ensures ∙ c.if-not-begins.false) c.survey_content-r.ensures c.in_ok-n.was))

pub returns : goal.returns
returns c = let a = c.args in L.scanned_form a.prefix.now a.s.now (sym c.begins.ensures ∙ c.if-not-begins.false) c.survey_content-r.ensures c.in_ok-n.was refl refl
