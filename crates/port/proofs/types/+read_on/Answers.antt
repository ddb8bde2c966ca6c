-- `read_on` meets its contract, by how many bytes it reads: where no mark is left they are read; else the room holds fewer.
use Prim.Native.Nat.{suc}
use native.Mathlib.Omega.{arith}
use mathlib.Core.Bool.{true}
use Rattle.std.specs.Prelude.{Option}
use mathlib.Core.Path.{sym, ap, ◌∙◌}
use borrow.Author.Rules.{rules}
use lib.ListN.{length, take, length-take}
use lib.Seq.{length-take-le}
use Rattle.lexis.specs.Text.{Text}
use Rattle.lexis.proofs.Trimming.{trim_within}
use Rattle.meaning.specs.Found.{Found}
use Rattle.meaning.specs.Parts.{each}
use Rattle.port.specs.Carried.{carried, answered}
use Rattle.port.specs.Passes.{reads_on}
use Rattle.port.proofs.Marking as L
use Rattle.port.proofs.types.+read_on.Goals as goal

pub slice_bounds-trim-end-2 : goal.slice_bounds-trim-end-2
slice_bounds-trim-end-2 t c = sym (length-take-le c.args.n c.args.a.now (search rules))

pub without_marks-m-requires : goal.without_marks-m-requires
without_marks-m-requires t c = let s = take c.args.n c.args.a.now in
    omega (arith, ap length c.trim-s.ensures, trim_within s, length-take c.args.n c.args.a.now, c.requires.1)

pub to_read-t-requires : goal.to_read-t-requires
to_read-t-requires t c = c.without_marks-m.ensures

pub returns-then-t-was : goal.returns-then-t-was
returns-then-t-was t c = let s = take c.args.n c.args.a.now in
    c.parse_unmarked.ensures ∙ ap (λ (o : Option Found). answered true (each (carried 8) o)) (L.read_here s _ _ c.trim-s.ensures c.to_read-t.ensures c.if-t-was.true c.args.n)

pub read_on-requires : goal.read_on-requires
read_on-requires t c = let r = c.without_marks-m.ensures in
    let k = L.shorter (take c.args.n c.args.a.now) _ _ c.trim-s.ensures c.to_read-t.ensures c.if-t-was.false in
    let n = r.left in let m = ap length c.to_read-t.ensures in let l = length-take c.args.n c.args.a.now in
    (omega (arith, c.requires.0), (omega (arith, c.requires.1), omega (arith, c.requires.1)))

pub returns : goal.returns
returns t c = let s = take c.args.n c.args.a.now in let e = c.to_read-t.ensures in let h = c.if-t-was.false in let g = c.without_marks-m.ensures in
    c.read_on.ensures ∙ ap (λ (x : Text). answered true (each (carried 8) (reads_on (suc c.without_marks-m.result) x))) (sym (L.on_room g e h))
    ∙ ap (λ (o : Option Found). answered true (each (carried 8) o)) (L.read_next s _ _ c.trim-s.ensures e h c.args.n c.without_marks-m.result (rw length-take (omega arith)) (let k = ap length e in let l = g.left in omega arith))
