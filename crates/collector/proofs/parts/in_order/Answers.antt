-- `in_order` meets its contract: the tests in the definition's order, of which the last is asked for where the others leave it open.
use mathlib.Core.Path.{ap, ◌∙◌}
use borrow.Author.Rules.{rules}
use native.Mathlib.Omega.{arith}
use Rattle.lexis.proofs.Lists.{rest}
use Rattle.collector.specs.Collecting.{zeros}
use Rattle.collector.proofs.Order as L
use Rattle.collector.proofs.parts.in_order.Goals as goal

pub returns-then-bytes-ne-SIZE : goal.returns-then-bytes-ne-SIZE
returns-then-bytes-ne-SIZE c = let a = c.args in L.no_room 1024 a.bytes.now a.len a.over c.if-bytes-ne-SIZE.true

pub returns-then-len-gt-SIZE : goal.returns-then-len-gt-SIZE
returns-then-len-gt-SIZE c = let a = c.args in L.too_many 1024 a.bytes.now a.len a.over (search rules)

pub returns-then-over-len : goal.returns-then-over-len
returns-then-over-len c = let a = c.args in L.with_number 1024 a.bytes.now a.len a.over c.if-over-len.true

pub returns : goal.returns
returns c = let a = c.args in
    c.all_zero.ensures ∙ ap zeros (rest a.bytes.now a.len)
    ∙ L.by_room 1024 a.bytes.now a.len a.over (omega arith) (search rules) c.if-over-len.false
