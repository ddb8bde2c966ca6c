-- Each public call's contract leaves one answer: two that meet what the check generated from it are equal.
-- A row is compared by what it holds. Of the functions over a walker the clause that the check generates is laid beside a fact.
use Prim.Native.Nat.{ℕ, ◌-◌}
use mathlib.Core.List.{List}
use mathlib.Core.Path.{◌≡◌, refl, sym, ap, ◌∙◌}
use seplogic.Ra.Ura.{Ura}
use base.Logic.{SProp, sep, emp, via, both⊢, mono∗, fst∗, emp∗, guard_i, guard_e}
use prog.Memory.{Memory}
use prog.Routine.{Routine}
use types.Logic.{Logic}
use contract.Lifetimes.{Lfts}
use contract.Monad.{Fun, fact}
use borrow.Fn.Kinds.{ended_of}
use borrow.Fn.World.{ArgsD, ResD}
use denote.Ref.{Bor}
use denote.Triple.Clauses.{AtExit}
use lib.ListN.{length}
use native.Mathlib.Omega.{arith}
use Rattle.std.specs.Prelude.{Option, Some, None}
use Rattle.std.specs.Iterator.{MakesProgress, at_most}
use Rattle.lexis.proofs.Unique.{One}
use Rattle.sheet.specs.declared.Counted.{Counted}
use Rattle.sheet.specs.declared.Cut.{Cut}
use Rattle.sheet.specs.declared.walker.Walker.{Walker}
use Rattle.sheet.specs.Sheet.{bytes_of, onward, Nexts}
use Rattle.sheet.proofs.Cutting.{found}
use Rattle.sheet.proofs.Counted.number.Reads as number
use Rattle.sheet.proofs.Counted.number.Kinds as number-kinds
use Rattle.sheet.proofs.lines.cut_at.Reads as cut_at
use Rattle.sheet.proofs.totals.Reads as totals
use Rattle.sheet.specs.contracts.walker.Walker.new as walk
use Rattle.sheet.specs.contracts.walker.Walker.row as row
use Rattle.sheet.specs.contracts.walker.WalkerIterator.next as next
use Rattle.sheet.proofs.walker.WalkerIterator.next.Reads as next-reads

pub number_one : (f : Counted) (m n : ℕ) (s t : AtExit (ended_of 0 number-kinds.ps number-kinds.r) tt) → number.Post tt (f, tt) m s → number.Post tt (f, tt) n t → m ≡ n
number_one f m n s t p q = p ∙ sym q

pub cut_at_one : One cut_at.Post
cut_at_one κs a x y s t p q = p ∙ sym q

pub totals_one : One totals.Post
totals_one κs a x y s t p q = p ∙ sym q

-- ── the walker ──

-- where a walk begins
abbrev pub Begins : Bor (List ℕ) → Walker → Type 0
Begins s w = (w.sheet ≡ s) × (w.place ≡ 0)

-- what `Iterator` adds of a call of `next`: a row lowers what remains, and at the end that stays finite
abbrev pub Goes : Walker → Option Cut → Walker → Type 0
Goes w c v = MakesProgress (λ (u : Walker). Unit {0}) (λ (u : Walker). at_most (length u.sheet.now - u.place)) w c v

-- that follows from what the row is
next_goes : (w : Walker) (c : Option Cut) (v : Walker) → Nexts 65536 w c v → Goes w c v
next_goes w None v n = record { on = λ f. tt; keeps = tt; rests = λ f. tt }
next_goes w (Some c) v n =
    let row = found 65536 w.sheet.now w.place c n.0 in
    let inside = row.inside in
    let onward = row.onward in
    let l : length v.sheet.now ≡ length w.sheet.now = ap (λ (b : Bor (List ℕ)). length b.now) n.1.0 in
    let p : v.place ≡ c.next = n.1.1 in
    record { on = λ f. (tt, tt, omega arith); keeps = tt; rests = λ f. tt }

-- what a row holds
abbrev pub Holds : Walker → Cut → Bor (List ℕ) → Type 0
Holds w c r = r.now ≡ bytes_of c w.sheet.now

module _ {M : Type 1} (𝓤 : Ura M) where
  -- a fact beside one that follows from it says no more
  beside : (φ ψ : Type 0) → (φ → ψ) → sep 𝓤 (fact 𝓤 φ) (fact 𝓤 ψ) ≡ fact 𝓤 φ
  beside φ ψ f =
      both⊢ 𝓤 (fst∗ 𝓤 (fact 𝓤 φ) (fact 𝓤 ψ))
      (guard_e 𝓤 φ (emp 𝓤) (λ x. via 𝓤 (sep 𝓤 (emp 𝓤) (emp 𝓤)) (emp∗ 𝓤 (emp 𝓤)) (mono∗ 𝓤 (guard_i 𝓤 φ (emp 𝓤) x) (guard_i 𝓤 ψ (emp 𝓤) (f x)))))

module _ {M : Type 1} {𝓤 : Ura M} (𝓛 : Logic 𝓤) (mem : Memory → SProp 𝓤) (run : Routine → Fun 𝓤) where
  pub walk_says : (κs : Lfts 1) (a : ArgsD walk.signature κs) (w : ResD walk.signature κs) (s : AtExit walk.ended κs) → (walk.clauses 𝓛 mem run κs a).ensures tt w s ≡ fact 𝓤 (Begins a.0 w)
  walk_says κs a w s = refl

  -- two facts, of which the second follows from the first
  next_parts : (κs : Lfts 2) (a : ArgsD next.signature κs) (c : ResD next.signature κs) (s : AtExit next.ended κs) → (next.clauses 𝓛 mem run κs a).ensures tt c s ≡ sep 𝓤 (fact 𝓤 (Nexts 65536 a.0.now c s.0.now)) (fact 𝓤 (Goes a.0.now c s.0.now))
  next_parts κs a c s = refl

  pub next_says : (κs : Lfts 2) (a : ArgsD next.signature κs) (c : ResD next.signature κs) (s : AtExit next.ended κs) → (next.clauses 𝓛 mem run κs a).ensures tt c s ≡ fact 𝓤 (Nexts 65536 a.0.now c s.0.now)
  next_says κs a c s = next_parts κs a c s ∙ beside 𝓤 (Nexts 65536 a.0.now c s.0.now) (Goes a.0.now c s.0.now) (next_goes a.0.now c s.0.now)

  pub row_says : (κs : Lfts 1) (a : ArgsD row.signature κs) (r : ResD row.signature κs) (s : AtExit row.ended κs) → (row.clauses 𝓛 mem run κs a).ensures tt r s ≡ fact 𝓤 (Holds a.0 a.1.0 r)
  row_says κs a r s = refl

-- the generated reading of `next`, and what it says of the row
pub next_reads : (κs : Lfts 2) (a : ArgsD next.signature κs) (c : ResD next.signature κs) (s : AtExit next.ended κs) → next-reads.Post κs a c s ≡ (Nexts 65536 a.0.now c s.0.now × Goes a.0.now c s.0.now)
next_reads κs a c s = refl

pub next_gives : (κs : Lfts 2) (a : ArgsD next.signature κs) (c : ResD next.signature κs) (s : AtExit next.ended κs) → next-reads.Post κs a c s → Nexts 65536 a.0.now c s.0.now
next_gives κs a c s p = p.0

same_walker : {v w : Walker} → v.sheet ≡ w.sheet → v.place ≡ w.place → v ≡ w
same_walker p q = λ i. record { sheet = p i; place = q i }

pub walk_one : (s : Bor (List ℕ)) (v w : Walker) → Begins s v → Begins s w → v ≡ w
walk_one s v w p q = same_walker (p.0 ∙ sym q.0) (p.1 ∙ sym q.1)

pub next_one : (w : Walker) (c d : Option Cut) (u v : Walker) → Nexts 65536 w c u → Nexts 65536 w d v → (c ≡ d) × (u ≡ v)
next_one w c d u v p q =
    let e : c ≡ d = p.0 ∙ sym q.0 in
    (e, same_walker (p.1.0 ∙ sym q.1.0) (p.1.1 ∙ ap (onward w.place) e ∙ sym q.1.1))

pub row_one : (w : Walker) (c : Cut) (r s : Bor (List ℕ)) → Holds w c r → Holds w c s → r.now ≡ s.now
row_one w c r s p q = p ∙ sym q
