-- A public function's contract fixes its answer: two answers that meet what the check generated from it are equal.
use Prim.Native.Nat.{ℕ}
use mathlib.Core.Bool.{Bool}
use mathlib.Core.Path.{◌≡◌, sym, ◌∙◌}
use borrow.Fn.Kinds.{ended_of}
use denote.Triple.Clauses.{AtExit}
use Rattle.lexis.proofs.Unique.{One}
use Rattle.meaning.specs.declared.Record.{Record}
use Rattle.meaning.specs.declared.Refusal.{Refusal}
use Rattle.meaning.proofs.normal.blank.Reads as blank
use Rattle.meaning.proofs.normal.blank.Kinds as blank-kinds
use Rattle.meaning.proofs.normal.is_normal.Reads as is_normal
use Rattle.meaning.proofs.normal.is_normal.Kinds as is-normal-kinds
use Rattle.meaning.proofs.refused.first_high.Reads as first-high
use Rattle.meaning.proofs.refused.refuse.Reads as refuse
use Rattle.meaning.proofs.refused.no_note.Reads as no_note
use Rattle.meaning.proofs.Refusal.number.Reads as number
use Rattle.meaning.proofs.Refusal.number.Kinds as number-kinds

pub one_blank : (r r' : Record) (s s' : AtExit (ended_of 0 blank-kinds.ps blank-kinds.r) tt) →
    blank.Post tt tt r s → blank.Post tt tt r' s' → r ≡ r'
one_blank r r' s s' p q = p ∙ sym q

pub one_is_normal : (r : Record) (e e' : Bool) (s s' : AtExit (ended_of 0 is-normal-kinds.ps is-normal-kinds.r) tt) →
    is_normal.Post tt (r, tt) e s → is_normal.Post tt (r, tt) e' s' → e ≡ e'
one_is_normal r e e' s s' p q = p ∙ sym q

pub one_number : (r : Refusal) (n n' : ℕ) (s s' : AtExit (ended_of 0 number-kinds.ps number-kinds.r) tt) →
    number.Post tt (r, tt) n s → number.Post tt (r, tt) n' s' → n ≡ n'
one_number r n n' s s' p q = p ∙ sym q

pub one_no_note : One no_note.Post
one_no_note κs a x y s t p q = p ∙ sym q

pub one_refuse : One refuse.Post
one_refuse κs a x y s t p q = p ∙ sym q

pub one_first_high : One first-high.Post
one_first_high κs a x y s t p q = p ∙ sym q
