-- `seek` meets its contract: the bytes up to i are passed, by blocks without a hit; and none is left where the last block has no hit.
use Rattle.std.proofs.Common.{rules, arith, sym, ◌∙◌, ap, ◌+◌, ◌-◌, ◌≡◌, ℕ, length, take, drop}
use Rattle.lexis.specs.Text.{some_of}
use Rattle.lexis.proofs.Passing as L
use Rattle.lexis.proofs.blocks.seek.Goals as goal

pub returns-then-not-among : goal.returns-then-not-among
returns-then-not-among g c =
    let l = c.loop-i in
    let t = c.args.text.now in
    let p = g.P.Pattern.matches c.args.p in
    let e : 16 ≡ length t - (length t - 16) = omega arith in
    sym (l.invariant ∙ L.none_left p t l.i 16 (search rules) (search rules) (search rules)
    (ap (λ (n : ℕ). some_of p (take n (drop (length t - 16) t))) e ∙ sym c.among.ensures ∙ c.if-not-among.true))

pub overflow_add-result : goal.overflow_add-result
overflow_add-result g c = let t = c.args.text.now in omega (arith, L.rest_within (g.P.Pattern.matches c.args.p) t c.loop-i.i)

pub loop-i-preserved : goal.loop-i-preserved
loop-i-preserved g c =
    let i = c.loop-i.i in
    let t = c.args.text.now in
    let p = g.P.Pattern.matches c.args.p in
    let e : 16 ≡ i + 16 - i = omega arith in
    c.loop-i.invariant ∙ L.passed p t i 16 (search rules)
    (ap (λ (n : ℕ). some_of p (take n (drop i t))) e ∙ sym c.among-in-loop-i.ensures ∙ c.if-among.false)
