-- `totals` meets its contract: each turn counts the first row to come, and at the end none is to come.
use borrow.Author.Rules.{rules}
use Rattle.sheet.proofs.Summing as L
use Rattle.sheet.proofs.totals.Goals as goal

pub loop-c-init : goal.loop-c-init
loop-c-init c = L.begins _ c.answer.ensures c.none-t.ensures (search rules) (search rules)

pub slice_bounds-parse-count : goal.slice_bounds-parse-count
slice_bounds-parse-count c = let r = L.row _ c.loop-c.invariant c.in-Some.ensures.steps in search rules

pub slice_bounds-parse-start : goal.slice_bounds-parse-start
slice_bounds-parse-start c = let r = L.row _ c.loop-c.invariant c.in-Some.ensures.steps in search rules

pub slice_bounds-parse-end : goal.slice_bounds-parse-end
slice_bounds-parse-end c = let r = L.row _ c.loop-c.invariant c.in-Some.ensures.steps in search rules

pub count-requires : goal.count-requires
count-requires c = L.room _ c.loop-c.invariant c.in-Some.ensures.steps c.parse.ensures

pub loop-c-preserved : goal.loop-c-preserved
loop-c-preserved c = L.again _ c.loop-c.invariant c.in-Some.ensures.steps c.parse.ensures c.count.ensures

pub returns : goal.returns
returns c = L.done _ c.loop-c.invariant c.in-None.ensures.steps
