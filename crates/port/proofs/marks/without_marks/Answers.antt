-- `without_marks` meets its contract: the marks are removed where there is one; else the text is as it should be.
use mathlib.Core.Path.{sym, ◌∙◌}
use borrow.Author.Rules.{rules}
use Rattle.port.proofs.Marking as L
use Rattle.port.proofs.marks.without_marks.Goals as goal

pub returns-then-text-lt27 : goal.returns-then-text-lt27
returns-then-text-lt27 c = let a = c.args in L.unwritten a.text.now _ (L.too_short a.text.now c.if-text-lt27.true)

pub remove-requires : goal.remove-requires
remove-requires c = (search rules, sym c.find_mark.ensures ∙ c.in-Some.is)

pub returns-in-Some : goal.returns-in-Some
returns-in-Some c = let a = c.args in L.rewritten a.text.now c.remove.ensures.0 c.remove.ensures.1

pub returns-in-None : goal.returns-in-None
returns-in-None c = let a = c.args in L.unwritten a.text.now _ (sym c.find_mark.ensures ∙ c.in-None.is)
