-- `find_mark` meets its contract: the place in the whole text is `from` more than that in its rest from there on.
-- Each turn passes the first `>` behind a `#`, unless the first mark ends there.
use mathlib.Core.Path.{sym, ap, ◌∙◌}
use native.Mathlib.Omega.{arith}
use borrow.Author.Rules.{rules}
use Rattle.lexis.specs.Text.{cut, place}
use Rattle.lexis.proofs.Seeking.{unshifted}
use Rattle.port.proofs.Removal.{sought, mark_is}
use Rattle.port.proofs.Spotting as L
use Rattle.port.proofs.marks.find_mark.Goals as goal
use Rattle.port.proofs.marks.find_mark.Goals.{then-from-e+else-begins, else-from-e}

pub loop-from-init : goal.loop-from-init
loop-from-init c = let s = c.args.text.now in (search rules, ap (λ m. place (cut m s)) mark_is ∙ unshifted (place (cut sought s)))

pub returns-then-text-h : goal.returns-then-text-h
returns-then-text-h c = let l = c.loop-from in
    sym (l.invariant.1 ∙ L.no_hash _ l.from l.invariant.0 c.seek-h.ensures (search rules))

pub returns-then-text-e : goal.returns-then-text-e
returns-then-text-e c = let l = c.loop-from in
    sym (l.invariant.1 ∙ L.no_end _ l.from l.invariant.0 c.seek-h.ensures c.seek-e.ensures (search rules))

pub returns-then-begins : goal.returns-then-begins
returns-then-begins c = let l = c.loop-from in
    sym (l.invariant.1 ∙ L.ends_here _ l.from l.invariant.0 c.seek-h.ensures c.seek-e.ensures (search rules) (search rules) (sym c.if-begins.true ∙ c.begins.ensures))

pub loop-from-preserved : goal.loop-from-preserved
loop-from-preserved c = let l = c.loop-from in (
  search rules,
  l.invariant.1 ∙ L.onward _ l.from l.invariant.0 c.seek-h.ensures c.seek-e.ensures (search rules)
      (λ k. elim c.if-from-e.branch [ then-from-e+else-begins w ↦ sym w.if-begins.false ∙ w.begins.ensures | else-from-e w ↦ let f : ⊥ = omega arith in absurd f ]),
)
