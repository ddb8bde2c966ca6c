-- `find` meets its contract: nothing stands at 0, and anything else is sought by its first byte.
use Rattle.lexis.proofs.Seeking as L
use borrow.Author.Rules.{rules}
use Rattle.lexis.proofs.text.find.Goals as goal

pub returns-then-is_empty : goal.returns-then-is_empty
returns-then-is_empty c = let a = c.args in L.nothing_sought a.what.now a.text.now (search rules)
