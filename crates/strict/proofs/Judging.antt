-- Laws of the answer: lists as rows, the record and the judgement of what was read, and the refusals in their order.
use Rattle.std.specs.Prelude.{if◌then◌else◌, None, Some}
use Prim.Native.Nat.{ℕ, ◌+◌, ◌≤◌, ◌<◌}
use native.Mathlib.Omega.{arith}
use mathlib.Core.Bool.{true, false, ◌&&◌}
use mathlib.Core.List.{List, [], ◌∷◌, ◌++◌, append_assoc, append-nil}
use mathlib.Core.Path.{◌≡◌, refl, sym, ap, subst, ◌∙◌}
use borrow.Author.Tests.{le-leb, lt-leb}
use lib.Dec.{leb}
use lib.IntN.{ℤ}
use lib.ListN.{length, drop, length-append, drop_of_length-le}
use Rattle.lexis.specs.Text.{Text}
use Rattle.meaning.proofs.Slots.{slot}
use Rattle.meaning.specs.declared.Reading.{Reading}
use Rattle.meaning.specs.declared.Refusal.TheVariants.{Accepted, TooLong, HighByte, NotStrict, TooMany}
use Rattle.meaning.specs.Found.{padded}
use Rattle.meaning.specs.Refusals.{number}
use Rattle.meaning.specs.Ordinary.{high_from, refused}
use Rattle.meaning.specs.Meant.{Any, fits, flat_any, taken, Strictly}
use Rattle.grammar.specs.Piece.{Answer, got, stuck}
use Rattle.grammar.specs.Join.{mapped}
use Rattle.grammar.proofs.Whole as G
use Rattle.grammar.proofs.Answer.{judge, answer, answer_ascii, answer_right}
use Rattle.grammar.proofs.Printed.{strict_low}
use Rattle.strict.specs.Lists.{Row, nothing, pushes}
use Rattle.strict.specs.Whole as W
use Rattle.strict.specs.Cursor.{Told}
use Rattle.strict.specs.declared.cursor.Read.{Read}
use Rattle.strict.specs.declared.cursor.Stuck.{Stuck}
use Rattle.strict.specs.declared.whole.Whole.{Whole}
use Rattle.std.specs.Prelude.{Result, Ok, Err}
use Rattle.strict.specs.Plain as P
use Rattle.lexis.proofs.Lists.{view}

-- ── rows ──

abbrev row : List ℤ → Row ℤ
row zs = record { values = padded 8 zs; len = length zs }

one_more : (ys : List ℤ) (z : ℤ) → length ys + 1 ≡ length (ys ++ z ∷ [])
one_more ys z = sym (length-append ys (z ∷ []))

-- entries more, also over the capacity
rows : (ys zs : List ℤ) → pushes (row ys) zs ≡ row (ys ++ zs)
rows ys [] = ap row (sym (append-nil ys))
rows ys (z ∷ zs) =
    ap (λ (l : Row ℤ). pushes l zs) (λ i. record { values = slot 8 ys z i; len = one_more ys z i })
    ∙ rows (ys ++ z ∷ []) zs ∙ ap row (append_assoc ys (z ∷ []) zs)

row_is : (zs : List ℤ) → pushes nothing zs ≡ row zs
row_is zs = rows [] zs

-- ── what the grammar's type is laid out and judged as ──

record_is : (a : Any) → P.record_of (P.seen a) ≡ flat_any 8 a
unfolding flat_any
record_is a = λ i. record {
  kind = a.kind;
  element = a.element;
  pointer = a.pointer;
  attribute = a.attribute;
  shape = (row_is a.shape i).values;
  shape_len = (row_is a.shape i).len;
  strides = (row_is a.strides i).values;
  strides_len = (row_is a.strides i).len;
  tile = (row_is a.tile i).values;
  tile_len = (row_is a.tile i).len;
  map = (row_is a.map i).values;
  map_len = (row_is a.map i).len;
  traversal = (row_is a.traversal i).values;
  traversal_len = (row_is a.traversal i).len;
  sparse = a.sparse;
  padding = a.padding;
}

small_is : (a : Any) → P.small (P.seen a) ≡ fits 8 a
unfolding fits
small_is a = λ i.
    leb (row_is a.shape i).len 8 && leb (row_is a.strides i).len 8 && leb (row_is a.tile i).len 8
    && leb (row_is a.map i).len 8 && leb (row_is a.traversal i).len 8

accepted_is : (a : Any) → P.accepted (P.seen a) ≡ taken 8 a
unfolding taken
accepted_is a = λ i. record { refusal = Accepted; place = 0; value = record_is a i; note = record { a = 0; b = 0; c = 0; d = 0 } }

judged_is : (p : Answer Any) → P.judged (mapped P.seen p) ≡ judge 8 p
judged_is (got a []) = λ i. if small_is a i then accepted_is a i else refused 8 TooMany 0
judged_is (got a (c ∷ r)) = refl
judged_is (stuck r) = refl

-- ── what the code read, up to its end ──
module _ (s : Text) (e : W.Plain) (d : ℕ) where
  pub other : d ≤ length s → (d ≡ length s → ⊥) → refused 8 NotStrict 0 ≡ P.judged (got e (drop d s))
  other h n = let k : d < length s = omega arith in rw (view s d k)

  pub too_many : d ≡ length s → P.small e ≡ false → refused 8 TooMany 0 ≡ P.judged (got e (drop d s))
  too_many k n = let h : length s ≤ d = omega arith in rw (drop_of_length-le s h, n)

  pub whole : d ≡ length s → P.small e ≡ true → P.accepted e ≡ P.judged (got e (drop d s))
  whole k n = let h : length s ≤ d = omega arith in rw (drop_of_length-le s h, n)

-- what is read is stuck, or has something behind it
module _ (s : Text) {f : Whole → W.Plain} {a : Result (Read Whole) Stuck} (t : Told s 0 (W.whole s) f a) where
  pub behind : {r : Read Whole} → a ≡ Ok r → (r.end ≡ length s → ⊥) → refused 8 NotStrict 0 ≡ P.judged (W.whole s)
  behind {r} e n = let u = subst (λ (x : Result (Read Whole) Stuck). Told s 0 (W.whole s) f x) e t in other s (f r.value) r.end u.inside n ∙ sym (ap P.judged u.same)

  pub halted : {x : Stuck} → a ≡ Err x → refused 8 NotStrict 0 ≡ P.judged (W.whole s)
  halted {x} e = let u = subst (λ (x : Result (Read Whole) Stuck). Told s 0 (W.whole s) f x) e t in sym (ap P.judged u.same)

-- ── the answer ──

-- the code reads what the grammar reads
abbrev pub Bridge : Type 0
Bridge = (t : List ℕ) → mapped P.seen (G.read t) ≡ W.whole t

module _ (s : Text) {r : Reading} where
  pub strictly : r ≡ answer 8 1024 s → Strictly 8 1024 s r
  strictly e = subst (λ (x : Reading). Strictly 8 1024 s x) (sym e) (answer_right 8 1024 s)

  pub too_long : 1024 < length s → r ≡ refused 8 TooLong 0 → r ≡ answer 8 1024 s
  unfolding answer
  too_long h e = rw (lt-leb (length s) 1024 h) e

  ascii : length s ≤ 1024 → r ≡ answer_ascii 8 s (high_from 0 s) → r ≡ answer 8 1024 s
  unfolding answer
  ascii h e = rw (le-leb (length s) 1024 h) e

  pub high_at : (i : ℕ) → length s ≤ 1024 → high_from 0 s ≡ Some i → r ≡ refused 8 HighByte i → r ≡ answer 8 1024 s
  high_at i h k e = ascii h (e ∙ sym (ap (answer_ascii 8 s) k))

  pub read_on : Bridge → length s ≤ 1024 → high_from 0 s ≡ None → r ≡ P.judged (W.whole s) → r ≡ answer 8 1024 s
  read_on bridge h k e = ascii h (e ∙ sym (ap P.judged (bridge s)) ∙ judged_is (G.read s) ∙ sym (ap (answer_ascii 8 s) k))

  -- what is accepted is a strict form, and has no high byte
  pub taken_on : Bridge → length s ≤ 1024 → number r.refusal ≡ 0 → r ≡ P.judged (W.whole s) → r ≡ answer 8 1024 s
  unfolding refused
  taken_on bridge h n e = read_on bridge h (low (G.read s) refl (ap (λ (x : Reading). number x.refusal) (sym (e ∙ sym (ap P.judged (bridge s)) ∙ judged_is (G.read s))) ∙ n)) e
    where
      five : ◌≡◌ {A = ℕ} 5 0 → ⊥
      five z = omega arith

      low : (p : Answer Any) → G.read s ≡ p → number (judge 8 p).refusal ≡ 0 → high_from 0 s ≡ None
      low (got a []) q z = strict_low s a (G.strict_sound s a q)
      low (got a (c ∷ x)) q z = absurd (five z)
      low (stuck x) q z = absurd (five z)
