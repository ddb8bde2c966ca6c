-- `parse_strict` meets its contract: its length, then what was read where it is accepted, or its first high byte, or what was read.
use mathlib.Core.Path.{sym, ap, ◌∙◌}
use borrow.Author.Rules.{rules}
use Rattle.strict.proofs.BridgeWhole.{whole_is}
use Rattle.meaning.specs.Refusals.{number}
use Rattle.meaning.specs.declared.Refusal.TheVariants.{Accepted}
use Rattle.strict.proofs.Judging as L
use Rattle.strict.proofs.answer.parse_strict.Goals as goal

pub returns-then-text-gt-LIMIT : goal.returns-then-text-gt-LIMIT
returns-then-text-gt-LIMIT c = let s = c.args.text.now in L.strictly s (L.too_long s c.if-text-gt-LIMIT.true c.refuse.ensures)

pub returns-then-eq : goal.returns-then-eq
returns-then-eq c = let s = c.args.text.now in
    L.strictly s (L.taken_on s whole_is (search rules) (ap number {y = Accepted} (search rules)) c.judge-r.ensures)

pub returns-in-Some : goal.returns-in-Some
returns-in-Some c = let s = c.args.text.now in
    L.strictly s (L.high_at s _ (search rules) (sym c.first_high.ensures ∙ c.in-Some.is) c.refuse-in-Some.ensures)

pub returns-in-None : goal.returns-in-None
returns-in-None c = let s = c.args.text.now in
    L.strictly s (L.read_on s whole_is (search rules) (sym c.first_high.ensures ∙ c.in-None.is) c.judge-r.ensures)
