-- `parse_part` meets its contract: white bytes stand in front; then a byte that begins no numeral, a minus and digits, or digits.
-- Any other part is sought and read.
use Rattle.std.proofs.Common.{rules, ℕ, sym, subst, ◌∙◌, ◌+◌, drop}
use Rattle.numerals.specs.Parts.{Ran}
use Rattle.numerals.proofs.Walking as L
use Rattle.numerals.proofs.part.parse_part.Goals as goal

pub returns-then-b-gt57 : goal.returns-then-b-gt57
returns-then-b-gt57 g c = let a = c.args in
    (c.until.ensures, L.no_numeral (L.quiet a.x (sym c.apart.ensures ∙ c.if-not-apart.false)) a.text.now c.leading-i.ensures g.T.Integer.bits (search rules) (search rules))

pub signed-requires : goal.signed-requires
signed-requires g c = let a = c.args in let i = c.leading-i.result + 1 in let t = drop i a.text.now in
    let w = subst (Ran a.x t i _) c.in-Some.is (subst (λ (m : ℕ). Ran a.x t i m c.run.result) c.MOST.ensures c.run.ensures) in
    L.said_most a.x _ _ c.in-Some.p.value w.1

pub returns-in-Some : goal.returns-in-Some
returns-in-Some g c = let a = c.args in let i = c.leading-i.result + 1 in let t = drop i a.text.now in
    let f = L.quiet a.x (sym c.apart.ensures ∙ c.if-not-apart.false) in
    let w = subst (Ran a.x t i _) c.in-Some.is (subst (λ (m : ℕ). Ran a.x t i m c.run.result) c.MOST.ensures c.run.ensures) in (
      c.signed.ensures.len ∙ L.minus_len f a.text.now c.leading-i.ensures (search rules) w.0,
      c.signed.ensures.value ∙ L.minus_said a.x f a.text.now c.leading-i.ensures g.T.Integer.bits _ g.met.T.Integer.range (search rules) c.in-Some.p.value w.1,
    )

pub signed-requires-in-Some-run : goal.signed-requires-in-Some-run
signed-requires-in-Some-run g c = let a = c.args in let i = c.leading-i.result in let t = drop i a.text.now in
    let w = subst (Ran a.x t i _) c.in-Some-run.is (subst (λ (m : ℕ). Ran a.x t i m c.run-2.result) c.MOST-2.ensures c.run-2.ensures) in
    L.said_most a.x _ _ c.in-Some-run.p.value w.1

pub returns-in-Some-run : goal.returns-in-Some-run
returns-in-Some-run g c = let a = c.args in let i = c.leading-i.result in let t = drop i a.text.now in
    let f = L.quiet a.x (sym c.apart.ensures ∙ c.if-not-apart.false) in
    let w = subst (Ran a.x t i _) c.in-Some-run.is (subst (λ (m : ℕ). Ran a.x t i m c.run-2.result) c.MOST-2.ensures c.run-2.ensures) in (
      c.signed-in-Some-run.ensures.len ∙ L.plus_len f a.text.now c.leading-i.ensures w.0,
      c.signed-in-Some-run.ensures.value ∙ L.plus_said a.x f a.text.now c.leading-i.ensures g.T.Integer.bits _ g.met.T.Integer.range c.in-Some-run.p.value w.1,
    )
