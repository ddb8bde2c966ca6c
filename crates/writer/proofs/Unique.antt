-- The contract of `write` leaves one outcome: two answers and room contents that meet the generated reading of it, for the
-- same arguments, are the same.
use mathlib.Core.Path.{◌≡◌, sym, ap, ◌∙◌}
use Rattle.meaning.specs.Written.{Outcome, outcome}
use Rattle.writer.proofs.call.write.Reads as write

-- a contract is over lifetimes, arguments, an answer and what is left at exit; it leaves one value of what is seen of the last two
abbrev pub Alike : {K : Type 0} {D R S : K → Type 0} {A : Type 0} → ((κs : K) → D κs → R κs → S κs → Type 0) → ((κs : K) → R κs → S κs → A) → Type 0
Alike {K} {D} {R} {S} Post see = (κs : K) (a : D κs) (x y : R κs) (s t : S κs) → Post κs a x s → Post κs a y t → see κs x s ≡ see κs y t

-- the answer, and the room at exit
pub write_one : Alike write.Post (λ κs w s. outcome w s.1.0.now)
write_one κs a x y s t p q = p ∙ sym q

pub answer_one : Alike write.Post (λ κs w s. w)
answer_one κs a x y s t p q = ap (λ (o : Outcome). o.answer) (write_one κs a x y s t p q)

pub room_one : Alike write.Post (λ κs w s. s.1.0.now)
room_one κs a x y s t p q = ap (λ (o : Outcome). o.room) (write_one κs a x y s t p q)
