-- `end_parts` meets its contract: the order test decides between the definition's two answers.
use mathlib.Core.Path.{sym, ◌∙◌}
use Rattle.collector.specs.Parts.{of_parts}
use Rattle.collector.proofs.Order as L
use Rattle.collector.proofs.parts.end_parts.Goals as goal

pub returns-then-not-in_order : goal.returns-then-not-in_order
returns-then-not-in_order c = let a = c.args in
    L.end_refused 8 1024 (of_parts a.bytes.now a.len.now a.over.now) (sym c.in_order.ensures ∙ c.if-not-in_order.true) c.refuse.ensures

pub returns : goal.returns
returns c = let a = c.args in let y = sym c.in_order.ensures ∙ c.if-not-in_order.false in
    L.end_answered 8 1024 (of_parts a.bytes.now a.len.now a.over.now) y c.read-r.ensures
    (L.emptied 1024 (L.cleared 1024 a.bytes.now (L.ordered 1024 a.bytes.now a.len.now a.over.now y).full (c.fill.ensures.after (λ z h. h))))
