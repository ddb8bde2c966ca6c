-- Demand 3 over the definitions that the contracts cite: what the strict reader accepts the ordinary reader answers alike, and what
-- the writer lays into a room is read back, by both, as the record it was given. By `accord` and `read_back`.
use Rattle.std.specs.Prelude.{if◌then◌else◌, Option, None, Some}
use Prim.Native.Nat.{ℕ, ◌+◌, ◌*◌, ◌≤◌}
use native.Mathlib.Omega.{arith}
use mathlib.Core.Bool.{Bool, true, false}
use mathlib.Core.List.{◌++◌}
use mathlib.Core.Path.{◌≡◌, refl, subst, sym, ap, ◌∙◌}
use lib.Dec.{T, leb, leb→le}
use lib.ListN.{length, take, drop}
use lib.Seq.{take-append_seam}
use Rattle.lexis.specs.Text.{Text}
use Rattle.meaning.specs.declared.Reading.{Reading}
use Rattle.meaning.specs.declared.Record.{Record}
use Rattle.meaning.specs.declared.Refusal.TheVariants.{Accepted, TooLong, NotStrict, NotNormal, RoomShort}
use Rattle.meaning.specs.Refusals.{number}
use Rattle.meaning.specs.Normal.{normal}
use Rattle.meaning.specs.Ordinary.{high_from, refused, read_ascii, ordinary}
use Rattle.meaning.specs.Meant.{Judged, accepted, too_many, not_strict, ReadAscii, Strictly}
use Rattle.meaning.specs.Written as W
use Rattle.writer.proofs.Answers.{Arrays}
use Rattle.writer.proofs.Short.{Ranged}
use Rattle.meaning.proofs.Whens.{When}
use Rattle.writer.proofs.Back.{answered}
use Rattle.writer.proofs.Ascii.{read_back}
use Rattle.accord.proofs.Accord.{accord, accord_many}

module _ (cap size : ℕ) (s : Text) where
  by_judged : length s ≤ size → {r : Reading} → Judged cap s r → (r.refusal ≡ NotStrict → ⊥) → ordinary cap size s ≡ r
  unfolding refused
  by_judged l (accepted a h f) n = accord cap size s a h l f
  by_judged l (too_many a h f) n = accord_many cap size s a h l f
  by_judged l (not_strict f) n = absurd (n refl)

  by_ascii : length s ≤ size → (o : Option ℕ) (r : Reading) → ReadAscii cap s o r → (r.refusal ≡ NotStrict → ⊥) → ordinary cap size s ≡ read_ascii cap s o → ordinary cap size s ≡ r
  by_ascii l (Some place) r h n q = q ∙ sym h
  by_ascii l None r h n q = by_judged l h n

  -- WHAT THE STRICT READER DOESN'T REFUSE WITH 5, THE ORDINARY READER ANSWERS ALIKE: a type, counts (all zero) included; a refusal
  pub strict_ordinary : (r : Reading) → Strictly cap size s r → (r.refusal ≡ NotStrict → ⊥) → ordinary cap size s ≡ r
  unfolding ordinary
  strict_ordinary r = by (leb (length s) size) (leb→le (length s) size) refl
    where
      by : (b : Bool) → (T b → length s ≤ size) → leb (length s) size ≡ b → elim b as (λ _. Type 0) [ true ↦ ReadAscii cap s (high_from 0 s) r | false ↦ r ≡ refused cap TooLong 0 ] → (r.refusal ≡ NotStrict → ⊥) → ordinary cap size s ≡ r
      by true l q h n = by_ascii (l tt) (high_from 0 s) r h n (ap (λ (b : Bool). if b then read_ascii cap s (high_from 0 s) else refused cap TooLong 0) q)
      by false l q h n = ap (λ (b : Bool). if b then read_ascii cap s (high_from 0 s) else refused cap TooLong 0) q ∙ sym h

-- ── written, then read ──
module _ (cap size : ℕ) (r : Record) (room : Text) (h : 1 ≤ cap) (k : 78 * cap + 149 ≤ size) (a : Arrays cap r) (g : Ranged r) where
  abbrev stored : W.Outcome → Text
  stored o = take o.answer.len o.room

  abbrev Back : W.Outcome → Type 0
  Back o = o.answer.refusal ≡ Accepted → Strictly cap size (stored o) (answered r)

  laid : (t : Text) → Strictly cap size t (answered r) → (b : Bool) →
      Back (if b then W.outcome (record { refusal = Accepted; len = length t }) (t ++ drop (length t) room) else W.refused RoomShort room)
  laid t p true e = subst (λ (z : Text). Strictly cap size z (answered r)) (sym (take-append_seam t (drop (length t) room))) p
  laid t p false e = let z = ap number e in let f : ⊥ = omega arith in absurd f

  texted : (o : Option Text) → When (λ t. Strictly cap size t (answered r)) o → Back (W.texted o room)
  texted None p e = let z = ap number e in let f : ⊥ = omega arith in absurd f
  texted (Some t) p e = laid t p (leb (length t) (length room)) e

  -- WHAT THE WRITER STORED IS READ STRICTLY AS THE RECORD IT WAS GIVEN, its attribute included
  pub written_strict : Back (W.writing cap r room)
  unfolding W.writing
  written_strict = by (normal cap r) (λ e. read_back cap size r h k a g e)
    where
      by : (b : Bool) → (b ≡ true → When (λ t. Strictly cap size t (answered r)) (W.written r)) → Back (if b then W.texted (W.written r) room else W.refused NotNormal room)
      by true f e = texted (W.written r) (f refl) e
      by false f e = let z = ap number e in let f : ⊥ = omega arith in absurd f

  -- and so by the ordinary reader
  pub written_ordinary : (W.writing cap r room).answer.refusal ≡ Accepted → ordinary cap size (stored (W.writing cap r room)) ≡ answered r
  written_ordinary e = strict_ordinary cap size (stored (W.writing cap r room)) (answered r) (written_strict e) (λ n. let z = ap number n in let f : ⊥ = omega arith in absurd f)
