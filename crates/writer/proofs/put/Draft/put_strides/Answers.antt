-- By whether there are any.
use Rattle.std.proofs.Common.{sym, ◌∙◌, rules}
use Rattle.writer.proofs.Entries.{no_strides, some_strides}
use Rattle.writer.proofs.put.Draft.put_strides.Goals as goal

pub put_clause-requires : goal.put_clause-requires
put_clause-requires c = rw (← some_strides c.strides-l.result.now (sym c.is_empty.ensures ∙ c.if-not-is_empty.true), c.strides-l.ensures) c.requires

pub returns-then-not-is_empty : goal.returns-then-not-is_empty
returns-then-not-is_empty c =
    rw (← c.strides-l.ensures, some_strides c.strides-l.result.now (sym c.is_empty.ensures ∙ c.if-not-is_empty.true)) c.put_clause.ensures

pub returns-else-not-is_empty : goal.returns-else-not-is_empty
returns-else-not-is_empty c =
    rw (← c.strides-l.ensures, no_strides c.strides-l.result.now (sym c.is_empty.ensures ∙ c.if-not-is_empty.false)) (search rules)
