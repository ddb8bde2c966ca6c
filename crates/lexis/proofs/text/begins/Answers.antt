-- `begins` meets its contract: the library compares what stands in front, where the text is long enough.
use Rattle.std.proofs.Common.{rules, sym, ◌∙◌, length}
use borrow.Author.Tests.{lt-leb}
use Rattle.lexis.proofs.Seeking.{starts, too_short}
use Rattle.lexis.proofs.text.begins.Goals as goal

pub returns-then-what-text : goal.returns-then-what-text
returns-then-what-text c = c.eq.ensures ∙ starts c.args.what.now c.args.text.now

pub returns-else-what-text : goal.returns-else-what-text
returns-else-what-text c = let s = c.args.text.now in let p = c.args.what.now in lt-leb (length p) (length s) (search rules) ∙ sym (too_short p s (search rules))
