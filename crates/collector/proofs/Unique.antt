-- Each public call's contract leaves one answer and one collector: two that meet what the check generated from it are equal.
use Prim.Native.Nat.{ℕ}
use mathlib.Core.Path.{◌≡◌, refl, sym, ◌∙◌}
use seplogic.Ra.Ura.{Ura}
use base.Logic.{SProp}
use prog.Memory.{Memory}
use prog.Routine.{Routine}
use types.Logic.{Logic}
use contract.Lifetimes.{Lfts}
use contract.Monad.{Fun, fact}
use borrow.Fn.Kinds.{ended_of}
use borrow.Fn.World.{ArgsD, ResD}
use denote.Triple.Clauses.{AtExit}
use Rattle.writer.proofs.Unique.{Alike}
use Rattle.lexis.specs.Text.{Text}
use Rattle.meaning.specs.declared.Reading.{Reading}
use Rattle.collector.specs.declared.Collector.{Collector}
use Rattle.collector.specs.Collecting.{Fed, told, fed, answered, ended}
use Rattle.collector.specs.Parts.{of_parts}
use Rattle.collector.proofs.Collector.fresh.Reads as fresh-reads
use Rattle.collector.proofs.Collector.fresh.Kinds as fresh-kinds
use Rattle.collector.proofs.number.Reads as number
use Rattle.collector.proofs.number.Kinds as number-kinds
use Rattle.collector.proofs.parts.feed_parts.Reads as feed-parts
use Rattle.collector.proofs.parts.end_parts.Reads as end-parts
use Rattle.collector.specs.contracts.Collector.feed as feed
use Rattle.collector.specs.contracts.Collector.end as end

pub fresh_one : (c d : Collector) (s t : AtExit (ended_of 0 fresh-kinds.ps fresh-kinds.r) tt) → fresh-reads.Post tt tt c s → fresh-reads.Post tt tt d t → c ≡ d
fresh_one c d s t p q = p ∙ sym q

pub number_one : (f : Fed) (m n : ℕ) (s t : AtExit (ended_of 0 number-kinds.ps number-kinds.r) tt) → number.Post tt (f, tt) m s → number.Post tt (f, tt) n t → m ≡ n
number_one f m n s t p q = p ∙ sym q

-- two answers, each with what is left of the collector, of which both halves are stated
both : {A B : Type 0} {x y u : A} {c d e : B} → (x ≡ u) × (c ≡ e) → (y ≡ u) × (d ≡ e) → ◌≡◌ {A = A × B} (x, c) (y, d)
both p q = λ i. ((p.0 ∙ sym q.0) i, (p.1 ∙ sym q.1) i)

-- ── the parts, lent one by one ──

pub feed_parts_one : Alike {A = Fed × Collector} feed-parts.Post (λ κs r s. (r, of_parts s.0.now s.1.0.now s.1.1.0.now))
feed_parts_one κs a x y s t p q = both p q

pub end_parts_one : Alike {A = Reading × Collector} end-parts.Post (λ κs r s. (r, of_parts s.0.now s.1.0.now s.1.1.0.now))
end_parts_one κs a x y s t p q = both p q

-- ── the collector, lent: the clause that the check generates is the fact that stands here ──

-- what a piece does to a collector
abbrev pub Feeds : Collector → Text → Fed → Collector → Type 0
Feeds c piece r d = (r ≡ told 1024 c) × (d ≡ fed 1024 c piece)

pub feed_says : {M : Type 1} {𝓤 : Ura M} (𝓛 : Logic 𝓤) (mem : Memory → SProp 𝓤) (run : Routine → Fun 𝓤) (κs : Lfts 2) (a : ArgsD feed.signature κs) (r : ResD feed.signature κs) (s : AtExit feed.ended κs)
    → (feed.clauses 𝓛 mem run κs a).ensures tt r s ≡ fact 𝓤 (Feeds a.0.now a.1.0.now r s.0.now)
feed_says 𝓛 mem run κs a r s = refl

pub feed_one : Alike {K = Lfts 2} {D = ArgsD feed.signature} {R = ResD feed.signature} {S = AtExit feed.ended} {A = Fed × Collector} (λ κs a r s. Feeds a.0.now a.1.0.now r s.0.now) (λ κs r s. (r, s.0.now))
feed_one κs a x y s t p q = both p q

-- what the end does to a collector
abbrev pub Ends : Collector → Reading → Collector → Type 0
Ends c r d = (r ≡ answered 8 1024 c) × (d ≡ ended 1024 c)

pub end_says : {M : Type 1} {𝓤 : Ura M} (𝓛 : Logic 𝓤) (mem : Memory → SProp 𝓤) (run : Routine → Fun 𝓤) (κs : Lfts 1) (a : ArgsD end.signature κs) (r : ResD end.signature κs) (s : AtExit end.ended κs)
    → (end.clauses 𝓛 mem run κs a).ensures tt r s ≡ fact 𝓤 (Ends a.0.now r s.0.now)
end_says 𝓛 mem run κs a r s = refl

pub end_one : Alike {K = Lfts 1} {D = ArgsD end.signature} {R = ResD end.signature} {S = AtExit end.ended} {A = Reading × Collector} (λ κs a r s. Ends a.0.now r s.0.now) (λ κs r s. (r, s.0.now))
end_one κs a x y s t p q = both p q
