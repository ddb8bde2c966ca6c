-- `survey_content` meets its contract: without a match, a final `>` ends the content, and no keyword has one.
use borrow.Author.Rules.{rules}
use Rattle.port.proofs.Contents as L
use Rattle.port.proofs.survey.survey_content.Goals as goal

pub returns-in-Some : goal.returns-in-Some
returns-in-Some c = L.by_match c.scan-r.ensures c.in-Some.is

pub returns-then-n-eq0 : goal.returns-then-n-eq0
returns-then-n-eq0 c = L.by_nothing c.scan-r.ensures c.in_default.is c.if-n-eq0.true

pub returns-then-s-n-eq62 : goal.returns-then-s-n-eq62
returns-then-s-n-eq62 c = L.by_final c.scan-r.ensures c.in_default.is (search rules) c.if-s-n-eq62.true

pub returns : goal.returns
returns c = L.by_other c.scan-r.ensures c.in_default.is (search rules) c.if-s-n-eq62.false
