-- `feed_parts` meets its contract: the order test decides between the definition's two answers. Over-full the parts stay; past the
-- limit only zeros are left; within it the piece stands behind what was held.
use borrow.Author.Rules.{rules}
use native.Mathlib.Omega.{arith}
use Prim.Native.Nat.{◌+◌, ◌-◌, ◌≤◌}
use mathlib.Core.Path.{◌≡◌, sym, ◌∙◌}
use lib.ListN.{length, take, drop, length-drop}
use lib.Seq.{length-take-le}
use Rattle.lexis.proofs.Rooms.{laid_whole}
use Rattle.collector.specs.Parts.{of_parts}
use Rattle.collector.proofs.Order as L
use Rattle.collector.proofs.parts.feed_parts.Goals as goal

pub returns-then-not-in_order : goal.returns-then-not-in_order
returns-then-not-in_order c = let a = c.args in
    L.feed_refused 8 1024 (of_parts a.bytes.now a.len.now a.over.now) a.piece.now (sym c.in_order.ensures ∙ c.if-not-in_order.true)

pub returns-then-over : goal.returns-then-over
returns-then-over c = let a = c.args in let y = sym c.in_order.ensures ∙ c.if-not-in_order.false in
    L.feed_taken 8 1024 (of_parts a.bytes.now a.len.now a.over.now) a.piece.now y (L.stays 1024 a.bytes.now a.len.now a.over.now a.piece.now y c.if-over.true)

pub overflow_sub-len : goal.overflow_sub-len
overflow_sub-len c = let a = c.args in (L.ordered 1024 a.bytes.now a.len.now a.over.now (sym c.in_order.ensures ∙ c.if-not-in_order.false)).bound

pub returns-then-len-piece : goal.returns-then-len-piece
returns-then-len-piece c = let a = c.args in let y = sym c.in_order.ensures ∙ c.if-not-in_order.false in
    L.feed_taken 8 1024 (of_parts a.bytes.now a.len.now a.over.now) a.piece.now y
    (L.passes 1024 a.bytes.now a.len.now a.over.now a.piece.now y c.fill.new.self c.if-over.false (search rules)
    (L.cleared 1024 a.bytes.now (L.ordered 1024 a.bytes.now a.len.now a.over.now y).full (c.fill.ensures.after (λ z h. h))))

pub slice_bounds-lay-end : goal.slice_bounds-lay-end
slice_bounds-lay-end c =
    let a = c.args in
    let o = L.ordered 1024 a.bytes.now a.len.now a.over.now (sym c.in_order.ensures ∙ c.if-not-in_order.false) in
    let h = o.bound in
    let k = o.full in
    let fits : a.len.now + length a.piece.now ≤ length a.bytes.now = omega arith in
    search rules

pub returns : goal.returns
returns c = let a = c.args in let y = sym c.in_order.ensures ∙ c.if-not-in_order.false in
    let n = a.len.now in let p = a.piece.now in let b = a.bytes.now in
    let o = L.ordered 1024 b n a.over.now y in
    let h = o.bound in
    let k = o.full in
    let d : length (drop n b) ≡ length b - n = length-drop n b in
    let m : length (take (n + length p - n) (drop n b)) ≡ length p = length-take-le (n + length p - n) (drop n b) (omega arith) ∙ omega arith in
    L.feed_taken 8 1024 (of_parts b n a.over.now) p y
    (L.joins 1024 b n a.over.now p y _ c.if-over.false (search rules) (L.placed b p c.lay.new.room n (laid_whole _ _ c.lay.ensures m)))
