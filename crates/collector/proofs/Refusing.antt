-- Refusal 6 comes exactly for a collector that isn't in order, from a piece and from the end alike, and it is then unaltered.
-- A piece gives no other refusal.
use Rattle.std.specs.Prelude.{if◌then◌else◌, Option, None, Some}
use Prim.Native.Nat.{ℕ}
use native.Mathlib.Omega.{arith}
use mathlib.Core.Bool.{Bool, true, false}
use mathlib.Core.Path.{◌≡◌, refl}
use lib.Dec.{leb}
use lib.ListN.{length}
use Rattle.lexis.specs.Text.{Text}
use Rattle.meaning.specs.Found.{Found, within}
use Rattle.meaning.specs.Ordinary.{parse, high_from, refused, accepted, judged, read_ascii, ordinary}
use Rattle.meaning.specs.Refusals as R
use Rattle.meaning.specs.declared.Reading.{Reading}
use Rattle.meaning.specs.declared.Refusal.TheVariants.{TooLong, TooMany, NotNormal}
use Rattle.collector.specs.declared.Collector.{Collector}
use Rattle.std.specs.Prelude.{Ok, Err}
use Rattle.collector.specs.declared.Refused.TheVariants.{NotInOrder}
use Rattle.collector.specs.Collecting.{in_order, Held, holds, over_full, held, number, told, fed, answer, answered, ended}

-- one of two facts holds exactly where the other does
infix 2 ◌exactly-when◌
abbrev pub ◌exactly-when◌ : Type 0 → Type 0 → Type 0
P exactly-when Q = (P → Q) × (Q → P)

-- an answer is no refusal 6
abbrev Not6 : Reading → Type 0
Not6 r = R.number r.refusal ≡ 6 → ⊥

module _ (cap : ℕ) where
  judged_not_6 : (o : Option Found) → Not6 (judged cap o)
  unfolding refused accepted
  judged_not_6 None e = omega arith
  judged_not_6 (Some t) e = by (within cap t) e
    where
      by : (d : Bool) → Not6 (if d then accepted cap t else refused cap TooMany 0)
      by true e = omega arith
      by false e = omega arith

  ascii_not_6 : (s : Text) (o : Option ℕ) → Not6 (read_ascii cap s o)
  unfolding refused
  ascii_not_6 s None e = judged_not_6 (parse s) e
  ascii_not_6 s (Some place) e = omega arith

  ordinary_not_6 : (size : ℕ) (s : Text) → Not6 (ordinary cap size s)
  unfolding ordinary refused
  ordinary_not_6 size s e = by (leb (length s) size) e
    where
      by : (d : Bool) → Not6 (if d then read_ascii cap s (high_from 0 s) else refused cap TooLong 0)
      by true e = ascii_not_6 s (high_from 0 s) e
      by false e = omega arith

  answer_not_6 : (size : ℕ) (h : Held) → Not6 (answer cap size h)
  unfolding refused
  answer_not_6 size (holds s) e = ordinary_not_6 size s e
  answer_not_6 size over_full e = omega arith

module _ (cap size : ℕ) (c : Collector) where
  pub piece_6 : (number (told size c) ≡ 6) exactly-when (in_order size c ≡ false)
  unfolding told
  piece_6 = (by (in_order size c), λ n. rw n)
    where
      by : (d : Bool) → number (if d then Ok tt else Err NotInOrder) ≡ 6 → d ≡ false
      by true e = let f : ⊥ = omega arith in absurd f
      by false e = refl

  -- else it is taken
  pub piece_0 : in_order size c ≡ true → number (told size c) ≡ 0
  unfolding told
  piece_0 y = rw y

  pub end_6 : (R.number (answered cap size c).refusal ≡ 6) exactly-when (in_order size c ≡ false)
  unfolding answered refused
  end_6 = (by (in_order size c), λ n. rw n)
    where
      by : (d : Bool) → R.number (if d then answer cap size (held c) else refused cap NotNormal 0).refusal ≡ 6 → d ≡ false
      by true e = absurd (answer_not_6 cap size (held c) e)
      by false e = refl

  -- 6 comes with the blank record, place 0 and zero counts
  pub end_6_blank : in_order size c ≡ false → answered cap size c ≡ refused cap NotNormal 0
  unfolding answered
  end_6_blank n = rw n

  pub piece_unaltered : in_order size c ≡ false → (p : Text) → fed size c p ≡ c
  unfolding fed
  piece_unaltered n p = rw n

  pub end_unaltered : in_order size c ≡ false → ended size c ≡ c
  unfolding ended
  end_unaltered n = rw n
