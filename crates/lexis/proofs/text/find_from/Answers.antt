-- `find_from` meets its contract: the place in the whole text is i - k more than that in its rest from there on.
-- From a place where the text doesn't stand to the next where its byte k does, nothing is passed over.
use Rattle.lexis.proofs.Seeking as L
use Rattle.lexis.proofs.Passing as P
use Rattle.lexis.proofs.Lists.{rest}
use Rattle.lexis.specs.Text.{begins, cut, place}
use lib.ListN.{drop, length-drop}
use Prim.Native.Nat.{◌-◌, ◌+◌}
use native.Mathlib.Nat.{zero-add}
use native.Mathlib.Omega.{arith}
use mathlib.Core.Path.{sym, ap, ◌∙◌}
use borrow.Author.Rules.{rules}
use Rattle.lexis.proofs.text.find_from.Goals as goal

pub loop-i-init : goal.loop-i-init
loop-i-init c =
    let a = c.args in
    let e = c.seek-i.ensures in (
      omega arith,
      L.unshifted (place (cut a.what.now a.text.now))
          ∙ P.sought a.what.now a.text.now a.k c.requires 0 a.k _ (zero-add a.k) e,
    )

pub returns-then-begins : goal.returns-then-begins
returns-then-begins c = let l = c.loop-i in let a = c.args in
    sym (l.invariant.1 ∙ L.hit a.what.now a.text.now (l.i - a.k) (ap (begins a.what.now) (sym (rest a.text.now (l.i - a.k))) ∙ sym c.begins.ensures ∙ c.if-begins.true))

pub loop-i-smaller : goal.loop-i-smaller
loop-i-smaller c =
    let e = c.seek-i-in-loop-i.ensures in
    let h = c.loop-i-test.true in
    omega arith

pub loop-i-preserved : goal.loop-i-preserved
loop-i-preserved c =
    let l = c.loop-i in
    let a = c.args in
    let h = c.requires in
    let e = c.seek-i-in-loop-i.ensures in
    let k = l.invariant.0 in (
      omega arith,
      l.invariant.1 ∙ L.miss a.what.now a.text.now (l.i - a.k) (search rules)
          (ap (begins a.what.now) (sym (rest a.text.now (l.i - a.k))) ∙ sym c.begins.ensures ∙ c.if-begins.false)
          ∙ P.sought a.what.now a.text.now a.k h (l.i - a.k + 1) (l.i + 1) _ (omega arith) e,
    )

pub returns : goal.returns
returns c =
    let l = c.loop-i in
    let a = c.args in
    let h = c.requires in
    let g = c.loop-i-test.false in
    let k = l.invariant.0 in
    let d = length-drop (l.i - a.k) a.text.now in
    sym (l.invariant.1 ∙ ap (L.shifted (l.i - a.k)) (L.nowhere_short a.what.now (drop (l.i - a.k) a.text.now) (omega arith)))
