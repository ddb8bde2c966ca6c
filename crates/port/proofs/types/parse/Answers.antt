-- `parse` meets its contract: its length, then what is read of it: here, or on from the room where a mark was found.
use native.Mathlib.Omega.{arith}
use mathlib.Core.Bool.{true}
use mathlib.Core.Path.{sym, ap, ◌∙◌}
use borrow.Author.Rules.{rules}
use lib.ListN.{length}
use Rattle.lexis.specs.Text.{Text}
use Rattle.lexis.proofs.Trimming.{trim_within}
use Rattle.meaning.specs.Parts.{each}
use Prim.Native.Nat.{suc}
use Rattle.port.specs.Carried.{carried, answered}
use Rattle.port.specs.Passes.{reads_on}
use Rattle.port.proofs.Marking as L
use Rattle.port.proofs.types.parse.Goals as goal

pub returns-then-text-gt1024 : goal.returns-then-text-gt1024
returns-then-text-gt1024 c = L.over_long c.args.text.now c.if-text-gt1024.true c.refuse.ensures

pub without_marks-m-requires : goal.without_marks-m-requires
without_marks-m-requires c = let a = c.args in omega (arith, ap length c.trim-s.ensures, trim_within a.text.now)

pub to_read-t-requires : goal.to_read-t-requires
to_read-t-requires c = c.without_marks-m.ensures

pub returns-then-t-s : goal.returns-then-t-s
returns-then-t-s c = let s = c.args.text.now in
    L.unmarked_answer s _ _ c.trim-s.ensures c.to_read-t.ensures c.if-t-s.true (search rules) c.parse_unmarked.ensures

pub read_on-requires : goal.read_on-requires
read_on-requires c = let a = c.args in let r = c.without_marks-m.ensures in
    let k = L.shorter a.text.now _ _ c.trim-s.ensures c.to_read-t.ensures c.if-t-s.false in
    let n = r.left in let m = ap length c.to_read-t.ensures in (omega arith, omega arith)

pub returns : goal.returns
returns c = let s = c.args.text.now in let e = c.to_read-t.ensures in let g = c.without_marks-m in
    L.marked_answer s _ _ c.trim-s.ensures e c.if-t-s.false g.result (let k = ap length e in let l = g.ensures.left in omega arith) (search rules)
    (c.read_on.ensures ∙ ap (λ (x : Text). answered true (each (carried 8) (reads_on (suc g.result) x))) (sym (L.on_room g.ensures e c.if-t-s.false)))
