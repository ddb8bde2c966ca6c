-- The strict reader's answer over its definition: there is one for every text, and no other. `answer` gives it by `read`.
use Rattle.std.specs.Prelude.{if◌then◌else◌, Option, None, Some}
use Prim.Native.Nat.{ℕ}
use native.Mathlib.Omega.{arith}
use mathlib.Core.Bool.{Bool, true, false, not}
use mathlib.Core.List.{[], ◌∷◌}
use mathlib.Core.Path.{◌≡◌, refl, sym, ap, ◌∙◌}
use lib.Dec.{T, leb}
use lib.ListN.{length}
use Rattle.lexis.specs.Text.{Text}
use Rattle.meaning.specs.declared.Reading.{Reading}
use Rattle.meaning.specs.declared.Refusal.TheVariants.{TooLong, HighByte, NotStrict, TooMany}
use Rattle.meaning.specs.Ordinary.{high_from, refused}
use Rattle.meaning.specs.Meant.{Any, fits, taken, Judged, accepted, too_many, not_strict, ReadAscii, Strictly}
use Rattle.grammar.specs.Piece.{Answer, got, stuck}
use Rattle.grammar.proofs.Whole.{read, strict_sound, strict_complete}

abbrev pub judge : ℕ → Answer Any → Reading
judge cap (got a []) = if fits cap a then taken cap a else refused cap TooMany 0
judge cap (got a (c ∷ r)) = refused cap NotStrict 0
judge cap (stuck r) = refused cap NotStrict 0

abbrev pub answer_ascii : ℕ → Text → Option ℕ → Reading
answer_ascii cap s (Some place) = refused cap HighByte place
answer_ascii cap s None = judge cap (read s)

-- for lists of at most `cap` entries and texts of at most `size` bytes
unfoldable pub answer : ℕ → ℕ → Text → Reading
answer cap size s = if leb (length s) size then answer_ascii cap s (high_from 0 s) else refused cap TooLong 0

module _ (cap : ℕ) (s : Text) where
  -- ── it is an answer ──
  judged : (p : Answer Any) → read s ≡ p → Judged cap s (judge cap p)
  judged (got a []) e = by (fits cap a) (λ h. h) (λ h. h)
    where
      by : (k : Bool) → (T k → T (fits cap a)) → (T (not k) → T (not (fits cap a))) → Judged cap s (if k then taken cap a else refused cap TooMany 0)
      by true f g = accepted a (strict_sound s a e) (f tt)
      by false f g = too_many a (strict_sound s a e) (g tt)
  judged (got a (c ∷ r)) e = not_strict (λ b h. let f = strict_complete s b h in let z : ◌≡◌ {A = ℕ} 0 1 = cc in omega arith)
  judged (stuck r) e = not_strict (λ b h. let f = strict_complete s b h in let z : ◌≡◌ {A = ℕ} 0 1 = cc in omega arith)

  -- ── and there is no other ──
  only : {r : Reading} → Judged cap s r → r ≡ judge cap (read s)
  only (accepted a h f) = sym (ap (judge cap) (strict_complete s a h) ∙ by (fits cap a) f)
    where
      by : (k : Bool) → T k → (if k then taken cap a else refused cap TooMany 0) ≡ taken cap a
      by true t = refl
      by false t = absurd t
  only (too_many a h f) = sym (ap (judge cap) (strict_complete s a h) ∙ by (fits cap a) f)
    where
      by : (k : Bool) → T (not k) → (if k then taken cap a else refused cap TooMany 0) ≡ refused cap TooMany 0
      by true t = absurd t
      by false t = refl
  only (not_strict f) = by (read s) (λ a e. f a (strict_sound s a e))
    where
      by : (p : Answer Any) → ((a : Any) → p ≡ got a [] → ⊥) → refused cap NotStrict 0 ≡ judge cap p
      by (got a []) g = absurd (g a refl)
      by (got a (c ∷ r)) g = refl
      by (stuck r) g = refl

  ascii_right : (o : Option ℕ) → ReadAscii cap s o (answer_ascii cap s o)
  ascii_right (Some place) = refl
  ascii_right None = judged (read s) refl

  ascii_only : (o : Option ℕ) (r : Reading) → ReadAscii cap s o r → r ≡ answer_ascii cap s o
  ascii_only (Some place) r h = h
  ascii_only None r h = only h

module _ (cap size : ℕ) (s : Text) where
  pub answer_right : Strictly cap size s (answer cap size s)
  unfolding answer
  answer_right = by (leb (length s) size)
    where
      by : (k : Bool) →
          elim k as (λ _. Type 0) [
            | true ↦ ReadAscii cap s (high_from 0 s) (if k then answer_ascii cap s (high_from 0 s) else refused cap TooLong 0)
            | false ↦ (if k then answer_ascii cap s (high_from 0 s) else refused cap TooLong 0) ≡ refused cap TooLong 0
          ]
      by true = ascii_right cap s (high_from 0 s)
      by false = refl

  pub answer_only : (r : Reading) → Strictly cap size s r → r ≡ answer cap size s
  unfolding answer
  answer_only r = by (leb (length s) size)
    where
      by : (k : Bool) → elim k as (λ _. Type 0) [ true ↦ ReadAscii cap s (high_from 0 s) r | false ↦ r ≡ refused cap TooLong 0 ] →
          r ≡ (if k then answer_ascii cap s (high_from 0 s) else refused cap TooLong 0)
      by true h = ascii_only cap s (high_from 0 s) r h
      by false h = h

  pub one_answer : (r q : Reading) → Strictly cap size s r → Strictly cap size s q → r ≡ q
  one_answer r q h k = answer_only r h ∙ sym (answer_only q k)
