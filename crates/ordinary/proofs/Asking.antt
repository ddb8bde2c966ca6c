-- The strict reader asked first: what it doesn't refuse with 5 is the ordinary reader's answer (demand 3, `accord`); what it does is short and
-- ASCII, so that the port's answer is the ordinary reader's.
use Rattle.std.specs.Prelude.{if◌then◌else◌, Option, None, Some}
use Prim.Native.Nat.{ℕ}
use native.Mathlib.Omega.{arith}
use mathlib.Core.Bool.{Bool, true, false}
use mathlib.Core.Path.{◌≡◌, refl, sym, ap, ◌∙◌}
use lib.Dec.{leb}
use lib.ListN.{length}
use Rattle.lexis.specs.Text.{Text}
use Rattle.meaning.specs.Refusals.{number}
use Rattle.meaning.specs.Ordinary.{parse, high_from, refused, judged, read_ascii, ordinary}
use Rattle.meaning.specs.Meant.{ReadAscii, Strictly}
use Rattle.meaning.specs.declared.Reading.{Reading}
use Rattle.meaning.specs.declared.Refusal.TheVariants.{TooLong, NotStrict}
use Rattle.accord.proofs.Demands.{strict_ordinary}

-- what the port answers
abbrev pub ported : Text → Reading
ported s = if leb (length s) 1024 then judged 8 (parse s) else refused 8 TooLong 0

module _ (s : Text) (r : Reading) (e : Strictly 8 1024 s r) where
  answered : (r.refusal ≡ NotStrict → ⊥) → r ≡ ordinary 8 1024 s
  answered n = sym (strict_ordinary 8 1024 s r e n)

  open_still : number r.refusal ≡ 5 → ported s ≡ ordinary 8 1024 s
  unfolding ordinary refused
  open_still n = by (leb (length s) 1024) e
    where
      ascii : (o : Option ℕ) → ReadAscii 8 s o r → judged 8 (parse s) ≡ read_ascii 8 s o
      ascii (Some place) h = let z : number r.refusal ≡ 2 = ap (λ (x : Reading). number x.refusal) h in let f : ⊥ = omega arith in absurd f
      ascii None h = refl

      by : (b : Bool) → elim b as (λ _. Type 0) [ true ↦ ReadAscii 8 s (high_from 0 s) r | false ↦ r ≡ refused 8 TooLong 0 ]
          → (if b then judged 8 (parse s) else refused 8 TooLong 0) ≡ (if b then read_ascii 8 s (high_from 0 s) else refused 8 TooLong 0)
      by true h = ascii (high_from 0 s) h
      by false h = refl

-- ── t is all of s ──

module _ (s t : Text) (q : t ≡ s) (r : Reading) (e : Strictly 8 1024 t r) where
  pub settled : (r.refusal ≡ NotStrict → ⊥) → r ≡ ordinary 8 1024 s
  settled n = answered t r e n ∙ ap (ordinary 8 1024) q

  pub left_open : number r.refusal ≡ 5 → ported t ≡ ordinary 8 1024 s
  left_open n = open_still t r e n ∙ ap (ordinary 8 1024) q

  -- the same, as the code asks it
  pub left_not_strict : r.refusal ≡ NotStrict → ported t ≡ ordinary 8 1024 s
  left_not_strict n = left_open (ap number n)
