-- `first_high` meets its contract: the bytes before the first high one are its place.
use mathlib.Core.Path.{sym, ◌∙◌}
use borrow.Author.Rules.{rules}
use Rattle.meaning.proofs.High as L
use Rattle.meaning.proofs.refused.first_high.Goals as goal

pub returns-then-i-text : goal.returns-then-i-text
returns-then-i-text c = sym (L.high_at c.args.text.now _ (c.until-i.ensures ∙ L.low_is c.args.text.now) (search rules))

pub returns-else-i-text : goal.returns-else-i-text
returns-else-i-text c = sym (L.high_none c.args.text.now _ (c.until-i.ensures ∙ L.low_is c.args.text.now) (search rules))
