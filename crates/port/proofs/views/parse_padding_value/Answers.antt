-- `parse_padding_value` meets its contract: a name that does not occur leaves what is asked for after it, and the first that occurs decides.
-- In each answer `s` is the text, and l1, l2 .. say what is still asked for, where the first names do not occur.
use mathlib.Core.Path.{◌≡◌, sym, ap, ◌∙◌}
use borrow.Author.Rules.{rules}
use Rattle.lexis.specs.Text.{found}
use Rattle.meaning.specs.Views as W
use Rattle.port.proofs.Clauses as L
use Rattle.port.proofs.Placing as P
use Rattle.port.proofs.views.parse_padding_value.Goals as goal

pub returns-then-inner-at : goal.returns-then-inner-at
returns-then-inner-at c = sym (L.asked c.args.inner.now ∙ rw (ap found (P.unplaced c.requires c.if-inner-at.true)))

pub returns-then-contains : goal.returns-then-contains
returns-then-contains c =
    let s = c.args.inner.now in
    let l1 : W.padding s ≡ L.asks_neg_zero s = L.asked s ∙ rw (ap found (P.placed c.requires (search rules))) in
    sym (l1 ∙ rw (sym c.contains.ensures ∙ c.if-contains.true))

pub returns-then-contains-2 : goal.returns-then-contains-2
returns-then-contains-2 c =
    let s = c.args.inner.now in
    let l1 : W.padding s ≡ L.asks_neg_zero s = L.asked s ∙ rw (ap found (P.placed c.requires (search rules))) in
    let l2 : W.padding s ≡ L.asks_zero s = l1 ∙ rw (sym c.contains.ensures ∙ c.if-contains.false) in
    sym (l2 ∙ rw (sym c.contains-2.ensures ∙ c.if-contains-2.true))

pub returns-then-contains-3 : goal.returns-then-contains-3
returns-then-contains-3 c =
    let s = c.args.inner.now in
    let l1 : W.padding s ≡ L.asks_neg_zero s = L.asked s ∙ rw (ap found (P.placed c.requires (search rules))) in
    let l2 : W.padding s ≡ L.asks_zero s = l1 ∙ rw (sym c.contains.ensures ∙ c.if-contains.false) in
    let l3 : W.padding s ≡ L.asks_nan s = l2 ∙ rw (sym c.contains-2.ensures ∙ c.if-contains-2.false) in
    sym (l3 ∙ rw (sym c.contains-3.ensures ∙ c.if-contains-3.true))

pub returns-then-contains-4 : goal.returns-then-contains-4
returns-then-contains-4 c =
    let s = c.args.inner.now in
    let l1 : W.padding s ≡ L.asks_neg_zero s = L.asked s ∙ rw (ap found (P.placed c.requires (search rules))) in
    let l2 : W.padding s ≡ L.asks_zero s = l1 ∙ rw (sym c.contains.ensures ∙ c.if-contains.false) in
    let l3 : W.padding s ≡ L.asks_nan s = l2 ∙ rw (sym c.contains-2.ensures ∙ c.if-contains-2.false) in
    let l4 : W.padding s ≡ L.asks_pos_inf s = l3 ∙ rw (sym c.contains-3.ensures ∙ c.if-contains-3.false) in
    sym (l4 ∙ rw (sym c.contains-4.ensures ∙ c.if-contains-4.true))

pub returns-then-contains-5 : goal.returns-then-contains-5
returns-then-contains-5 c =
    let s = c.args.inner.now in
    let l1 : W.padding s ≡ L.asks_neg_zero s = L.asked s ∙ rw (ap found (P.placed c.requires (search rules))) in
    let l2 : W.padding s ≡ L.asks_zero s = l1 ∙ rw (sym c.contains.ensures ∙ c.if-contains.false) in
    let l3 : W.padding s ≡ L.asks_nan s = l2 ∙ rw (sym c.contains-2.ensures ∙ c.if-contains-2.false) in
    let l4 : W.padding s ≡ L.asks_pos_inf s = l3 ∙ rw (sym c.contains-3.ensures ∙ c.if-contains-3.false) in
    let l5 : W.padding s ≡ L.asks_neg_inf s = l4 ∙ rw (sym c.contains-4.ensures ∙ c.if-contains-4.false) in
    sym (l5 ∙ rw (sym c.contains-5.ensures ∙ c.if-contains-5.true))

pub returns : goal.returns
returns c =
    let s = c.args.inner.now in
    let l1 : W.padding s ≡ L.asks_neg_zero s = L.asked s ∙ rw (ap found (P.placed c.requires (search rules))) in
    let l2 : W.padding s ≡ L.asks_zero s = l1 ∙ rw (sym c.contains.ensures ∙ c.if-contains.false) in
    let l3 : W.padding s ≡ L.asks_nan s = l2 ∙ rw (sym c.contains-2.ensures ∙ c.if-contains-2.false) in
    let l4 : W.padding s ≡ L.asks_pos_inf s = l3 ∙ rw (sym c.contains-3.ensures ∙ c.if-contains-3.false) in
    let l5 : W.padding s ≡ L.asks_neg_inf s = l4 ∙ rw (sym c.contains-4.ensures ∙ c.if-contains-4.false) in
    sym (l5 ∙ rw (sym c.contains-5.ensures ∙ c.if-contains-5.false))
