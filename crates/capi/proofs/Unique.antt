-- Each call's contract leaves one answer: two answers that meet what the check generated from it are equal; of the writer,
-- the answer and the room at exit, of the collector the answer and the block at exit.
use mathlib.Core.Path.{◌≡◌, refl, sym, ap, ◌∙◌}
use seplogic.Ra.Ura.{Ura}
use base.Logic.{SProp}
use prog.Memory.{Memory}
use prog.Routine.{Routine}
use types.Logic.{Logic}
use contract.Lifetimes.{Lfts}
use contract.Monad.{Fun, fact}
use borrow.Fn.World.{ArgsD, ResD}
use denote.Triple.Clauses.{AtExit}
use Rattle.lexis.proofs.Unique.{One}
use Rattle.writer.proofs.Unique.{Alike}
use Rattle.grammar.proofs.Answer.{one_answer}
use Rattle.numbers.specs.Numbers.{in_numbers}
use Rattle.capi.specs.Abi.{outcome, write_numbers}
use Prim.Native.Nat.{ℕ}
use Rattle.lexis.specs.Text.{Text}
use Rattle.numbers.specs.declared.TypetextReading.{TypetextReading}
use Rattle.capi.proofs.collect.typetext_feed.Reads as typetext-feed
use Rattle.capi.proofs.collect.typetext_end.Reads as typetext-end
use Rattle.capi.proofs.count.typetext_next_row.Reads as typetext-next-row
use Rattle.capi.proofs.count.typetext_totals.Reads as typetext-totals
use Rattle.capi.proofs.typetext_parse.Reads as typetext-parse
use Rattle.capi.proofs.typetext_parse_strict.Reads as typetext-parse-strict
use Rattle.capi.specs.contracts.write.typetext_write as typetext-write

pub typetext_parse_one : One typetext-parse.Post
typetext_parse_one κs a x y s t p q = p ∙ sym q

pub typetext_parse_strict_one : One typetext-parse-strict.Post
typetext_parse_strict_one κs a x y s t p q = p.numbers ∙ ap in_numbers (one_answer 8 1024 a.0.now p.reading q.reading p.strictly q.strictly) ∙ sym q.numbers

pub typetext_totals_one : One typetext-totals.Post
typetext_totals_one κs a x y s t p q = p ∙ sym q

pub typetext_next_row_one : One typetext-next-row.Post
typetext_next_row_one κs a x y s t p q = p ∙ sym q

-- of the call that is lent a record and a room: the clause that the check generates is this fact
abbrev pub Wrote : (κs : Lfts 2) → ArgsD typetext-write.signature κs → ResD typetext-write.signature κs → AtExit typetext-write.ended κs → Type 0
Wrote κs a w s = outcome w s.1.0.now ≡ write_numbers a.0.now a.1.0.now

pub typetext_write_says : {M : Type 1} {𝓤 : Ura M} (𝓛 : Logic 𝓤) (mem : Memory → SProp 𝓤) (run : Routine → Fun 𝓤) (κs : Lfts 2) (a : ArgsD typetext-write.signature κs) (w : ResD typetext-write.signature κs) (s : AtExit typetext-write.ended κs)
    → (typetext-write.clauses 𝓛 mem run κs a).ensures tt w s ≡ fact 𝓤 (Wrote κs a w s)
typetext_write_says 𝓛 mem run κs a w s = refl

pub typetext_write_one : Alike Wrote (λ κs w s. outcome w s.1.0.now)
typetext_write_one κs a x y s t p q = p ∙ sym q

pub typetext_feed_one : Alike {A = ℕ × Text} typetext-feed.Post (λ κs r s. (r, s.0.now))
typetext_feed_one κs a x y s t p q = λ i. ((p.0 ∙ sym q.0) i, (p.1 ∙ sym q.1) i)

pub typetext_end_one : Alike {A = TypetextReading × Text} typetext-end.Post (λ κs r s. (r, s.0.now))
typetext_end_one κs a x y s t p q = λ i. ((p.0 ∙ sym q.0) i, (p.1 ∙ sym q.1) i)
