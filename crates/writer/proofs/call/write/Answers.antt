-- Each test leads to its answer. The draft has room for the text of a normal record, by the bound on texts.
use Rattle.std.proofs.Common.{sym, ◌∙◌, arith, rules}
use lib.Dec.{lit≤}
use Rattle.writer.proofs.Ranges.{within_64, within_32}
use Rattle.writer.proofs.Short.{Ranged, text_short}
use Rattle.writer.proofs.Answers as A
use Rattle.writer.proofs.call.write.Goals as goal

pub returns-then-not-is_normal : goal.returns-then-not-is_normal
returns-then-not-is_normal c =
    rw c.refused.ensures (A.not_normal 8 c.args.r _ (sym c.is_normal.ensures ∙ c.if-not-is_normal.true))

pub returns-then-not-has_text : goal.returns-then-not-has_text
returns-then-not-has_text c =
    let r = c.args.r in
    let q : A.Arrays 8 r = omega arith in
    let n = sym c.is_normal.ensures ∙ c.if-not-is_normal.false in
    rw c.refused-then-not-has_text.ensures (A.no_text 8 r (A.whole 8 r (lit≤ tt) q) _ n (sym c.has_text.ensures ∙ c.if-not-has_text.true))

pub invariant_of-laid : goal.invariant_of-laid
invariant_of-laid c =
    let r = c.args.r in
    let q : A.Arrays 8 r = omega arith in
    record { small = A.small 8 r (sym c.is_normal.ensures ∙ c.if-not-is_normal.false) q }

pub laid-requires : goal.laid-requires
laid-requires c =
    let r = c.args.r in
    let q : A.Arrays 8 r = omega arith in
    let g : Ranged r = search (rules, within_64, within_32) in
    let n = sym c.is_normal.ensures ∙ c.if-not-is_normal.false in
    omega (arith, text_short 8 (lit≤ tt) r (A.small 8 r n q) g)

pub returns : goal.returns
returns c =
    let r = c.args.r in
    let q : A.Arrays 8 r = omega arith in
    let n = sym c.is_normal.ensures ∙ c.if-not-is_normal.false in
    c.laid.ensures ∙ A.text_laid 8 r (A.whole 8 r (lit≤ tt) q) _ n (sym c.has_text.ensures ∙ c.if-not-has_text.false)
