-- `remove` meets its contract: what stands before the first mark is copied; what is removed from t goes behind the n bytes that stand there.
use mathlib.Core.List.{List}
use mathlib.Core.Path.{sym, ap, ◌∙◌}
use Prim.Native.Nat.{ℕ}
use native.Mathlib.Omega.{arith}
use borrow.Author.Rules.{rules}
use lib.ListN.{length-take}
use lib.Seq.{length-take-le}
use Rattle.meaning.specs.Parts.{remove}
use Rattle.port.proofs.Removal as L
use Rattle.port.proofs.marks.remove.Goals as goal

pub slice_bounds-copy-end : goal.slice_bounds-copy-end
slice_bounds-copy-end c = sym (length-take-le _ _ (omega (arith, L.first_within c.args.text.now c.requires.1)))

pub copy-n-requires : goal.copy-n-requires
copy-n-requires c = omega (arith, L.first_within c.args.text.now c.requires.1, length-take c.args.first c.args.text.now)

pub overflow_add-t : goal.overflow_add-t
overflow_add-t c = omega (arith, L.first_within c.args.text.now c.requires.1)

pub slice_bounds-t-count : goal.slice_bounds-t-count
slice_bounds-t-count c = omega (arith, L.first_within c.args.text.now c.requires.1)

pub slice_bounds-t-start : goal.slice_bounds-t-start
slice_bounds-t-start c = omega (arith, L.first_within c.args.text.now c.requires.1)

pub loop-i-init : goal.loop-i-init
loop-i-init c = (search rules, L.less_left _ _ (search rules) (search rules) (L.all_left L.sought c.args.text.now c.args.room.now c.requires.0) _ (L.first_sought c.args.text.now c.requires.1) c.copy-n.ensures)

pub slice_bounds-copy-end-in-Some : goal.slice_bounds-copy-end-in-Some
slice_bounds-copy-end-in-Some c = let t = c.loop-i.t.now in
    sym (length-take-le _ _ (omega (arith, L.seen_within t c.find_mark.ensures c.in-Some.is)))

pub overflow_add-t-in-Some : goal.overflow_add-t-in-Some
overflow_add-t-in-Some c = let t = c.loop-i.t.now in omega (arith, L.seen_within t c.find_mark.ensures c.in-Some.is)

pub slice_bounds-t-count-in-Some : goal.slice_bounds-t-count-in-Some
slice_bounds-t-count-in-Some c = let t = c.loop-i.t.now in omega (arith, L.seen_within t c.find_mark.ensures c.in-Some.is)

pub slice_bounds-t-start-in-Some : goal.slice_bounds-t-start-in-Some
slice_bounds-t-start-in-Some c = let t = c.loop-i.t.now in omega (arith, L.seen_within t c.find_mark.ensures c.in-Some.is)

pub loop-i-preserved : goal.loop-i-preserved
loop-i-preserved c = let l = c.loop-i in (
  search rules,
  L.less_left _ _ (search rules) (search rules) l.invariant.1 _ (L.seen l.t.now c.find_mark.ensures c.in-Some.is) c.copy-n-in-Some.ensures,
)

pub returns-in-None : goal.returns-in-None
returns-in-None c = let l = c.loop-i in let w = L.none_left _ _ (search rules) (search rules) l.invariant.1 (L.unseen l.t.now c.find_mark.ensures c.in-None.is) c.copy.ensures in
    (w.0, w.1 ∙ ap (λ (m : List ℕ). remove m c.args.text.now) (sym L.mark_is))

pub loop-i-smaller : goal.loop-i-smaller
loop-i-smaller c = let t = c.loop-i.t.now in
    L.shorter L.sought t c.in-Some.i (search rules) (L.seen t c.find_mark.ensures c.in-Some.is)
