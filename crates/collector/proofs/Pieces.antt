-- Any pieces, in any cutting: what a fresh collector holds after them is what they are together, and so is the end's answer.
-- First that a piece joins what is held, and that what holds is laid out in order; then the theorems over lists of pieces.
use Rattle.std.specs.Prelude.{if◌then◌else◌}
use Prim.Native.Nat.{ℕ, ◌-◌, ◌+◌, ◌≤◌, ◌<◌}
use native.Mathlib.Omega.{arith}
use mathlib.Core.Bool.{Bool, true, false}
use mathlib.Core.List.{List, [], ◌∷◌, ◌++◌, append_assoc, append-nil, flatten, foldl, foldl-append}
use mathlib.Core.Path.{◌≡◌, refl, sym, ap, ◌∙◌}
use borrow.Author.Tests.{leb-true, leb-false, le-leb, lt-leb, eq-eqb}
use lib.Dec.{leb}
use lib.ListN.{length, replicate, length-append, length-replicate}
use lib.Seq.{take-append_seam, drop-append_seam}
use Rattle.lexis.specs.Text.{Text}
use Rattle.meaning.specs.Ordinary.{ordinary, refused}
use Rattle.meaning.specs.declared.Refusal.TheVariants.{TooLong}
use Rattle.collector.specs.declared.Collector.{Collector}
use Rattle.std.specs.Prelude.{Ok}
use Rattle.collector.specs.Collecting.{in_order, Held, holds, over_full, held, laid, fresh, joined, told, fed, answer, answered, ended}
use Rattle.collector.proofs.Order.{zeros_blank}

module _ (size : ℕ) where
  -- ── pieces join ──

  abbrev Fits : Held → Type 0
  Fits (holds s) = length s ≤ size
  Fits over_full = Unit {0}

  fits_joined : (h : Held) (p : Text) → Fits (joined size h p)
  fits_joined over_full p = tt
  fits_joined (holds s) p = by (leb (length (s ++ p)) size) (leb-true (length (s ++ p)) size)
    where
      by : (d : Bool) → (d ≡ true → length (s ++ p) ≤ size) → Fits (if d then holds (s ++ p) else over_full)
      by true f = f refl
      by false f = tt

  joined_none : (h : Held) → Fits h → joined size h [] ≡ h
  joined_none over_full f = refl
  joined_none (holds s) f = rw (append-nil s, le-leb (length s) size f)

  joined_twice : (h : Held) (p q : Text) → joined size (joined size h p) q ≡ joined size h (p ++ q)
  joined_twice over_full p q = refl
  joined_twice (holds s) p q = by (leb (length (s ++ p)) size) (leb-false (length (s ++ p)) size)
    where
      by : (d : Bool) → (d ≡ false → size < length (s ++ p)) → joined size (if d then holds (s ++ p) else over_full) q ≡ joined size (holds s) (p ++ q)
      by true f = rw (append_assoc s p q)
      by false f =
          let g : leb (length (s ++ (p ++ q))) size ≡ false
          = lt-leb (length (s ++ (p ++ q))) size (let k = f refl in let e = ap length (append_assoc s p q) in let l = length-append (s ++ p) q in omega arith)
          in rw g

  joined_all : (h : Held) (ps : List Text) → Fits h → foldl (joined size) h ps ≡ joined size h (flatten ps)
  unfolding flatten
  joined_all h [] f = sym (joined_none h f)
  joined_all h (p ∷ ps) f = joined_all (joined size h p) ps (fits_joined h p) ∙ joined_twice h p (flatten ps)

  -- ── what holds is laid out in order ──

  laid_in_order : (h : Held) → Fits h → in_order size (laid size h) ≡ true
  unfolding in_order
  laid_in_order (holds s) f =
      let l : length (s ++ replicate (size - length s) 0) ≡ size = length-append s (replicate (size - length s) 0) ∙ ap (λ (k : ℕ). length s + k) (length-replicate {A = ℕ} (size - length s) 0) ∙ omega arith in
      rw (eq-eqb _ size l, le-leb (length s) size f, drop-append_seam s (replicate (size - length s) 0), zeros_blank (size - length s))
  laid_in_order over_full f = rw (eq-eqb _ size (length-replicate {A = ℕ} size 0), le-leb 0 size (omega arith), zeros_blank size)

  held_laid : (h : Held) → held (laid size h) ≡ h
  unfolding held
  held_laid (holds s) = ap holds (take-append_seam s (replicate (size - length s) 0))
  held_laid over_full = refl

  fed_laid : (h : Held) (p : Text) → Fits h → fed size (laid size h) p ≡ laid size (joined size h p)
  unfolding fed
  fed_laid h p f = rw (laid_in_order h f, held_laid h)

  -- a piece keeps a collector in order
  pub fed_in_order : (c : Collector) (p : Text) → in_order size c ≡ true → in_order size (fed size c p) ≡ true
  unfolding fed
  fed_in_order c p y = rw y (laid_in_order (joined size (held c) p) (fits_joined (held c) p))

  pub fresh_in_order : in_order size (fresh size) ≡ true
  unfolding fresh
  fresh_in_order = laid_in_order (holds []) (omega arith)

  fed_all : (h : Held) (ps : List Text) → Fits h → foldl (fed size) (laid size h) ps ≡ laid size (foldl (joined size) h ps)
  fed_all h [] f = refl
  fed_all h (p ∷ ps) f = ap (λ (c : Collector). foldl (fed size) c ps) (fed_laid h p f) ∙ fed_all (joined size h p) ps (fits_joined h p)

  -- ── the theorems: any pieces, empty ones and none at all included ──

  -- a fresh collector, after the pieces
  abbrev pub after : List Text → Collector
  after pieces = foldl (fed size) (fresh size) pieces

  abbrev whole : List Text → Held
  whole pieces = joined size (holds []) (flatten pieces)

  pub collected : (pieces : List Text) → after pieces ≡ laid size (whole pieces)
  unfolding fresh
  collected pieces = fed_all (holds []) pieces (omega arith) ∙ ap (laid size) (joined_all (holds []) pieces (omega arith))

  pub stays_in_order : (pieces : List Text) → in_order size (after pieces) ≡ true
  stays_in_order pieces = ap (in_order size) (collected pieces) ∙ laid_in_order (whole pieces) (fits_joined (holds []) (flatten pieces))

  -- no piece is refused
  pub all_taken : (pieces : List Text) → told size (after pieces) ≡ Ok tt
  unfolding told
  all_taken pieces = rw (stays_in_order pieces)

  -- the end answers as the ordinary reader does on the joined bytes
  pub ends_as_read : (cap : ℕ) (pieces : List Text) → answered cap size (after pieces) ≡ ordinary cap size (flatten pieces)
  unfolding answered ordinary
  ends_as_read cap pieces = rw (stays_in_order pieces) (ap (λ (c : Collector). answer cap size (held c)) (collected pieces) ∙ ap (answer cap size) (held_laid (whole pieces)) ∙ by (leb (length (flatten pieces)) size) refl)
    where
      by : (d : Bool) → leb (length (flatten pieces)) size ≡ d → answer cap size (if d then holds (flatten pieces) else over_full) ≡ ordinary cap size (flatten pieces)
      by true e = refl
      by false e = rw e

  -- and leaves the collector fresh, whatever it answered
  pub fresh_again : (pieces : List Text) → ended size (after pieces) ≡ fresh size
  unfolding ended
  fresh_again pieces = rw (stays_in_order pieces)

  -- the cutting has no influence
  pub any_cutting : (ps qs : List Text) → flatten ps ≡ flatten qs → after ps ≡ after qs
  any_cutting ps qs e = collected ps ∙ ap (λ (t : Text). laid size (joined size (holds []) t)) e ∙ sym (collected qs)

  pub any_cutting_reads : (cap : ℕ) (ps qs : List Text) → flatten ps ≡ flatten qs → answered cap size (after ps) ≡ answered cap size (after qs)
  any_cutting_reads cap ps qs e = ap (answered cap size) (any_cutting ps qs e)

  -- once the total passes the limit it stays over-full, whatever follows, and the end answers 1, whatever bytes came
  pub stays_over_full : (ps more : List Text) → size < length (flatten ps) → after (ps ++ more) ≡ laid size over_full
  stays_over_full ps more h =
      foldl-append (fed size) (fresh size) ps more
      ∙ ap (λ (c : Collector). foldl (fed size) c more) (collected ps ∙ ap (laid size) over)
      ∙ fed_all over_full more tt ∙ ap (laid size) (joined_all over_full more tt)
    where
      over : whole ps ≡ over_full
      over = rw (lt-leb (length (flatten ps)) size h)

  pub over_full_is_1 : (cap : ℕ) (ps more : List Text) → size < length (flatten ps) → answered cap size (after (ps ++ more)) ≡ refused cap TooLong 0
  unfolding answered
  over_full_is_1 cap ps more h = rw (stays_in_order (ps ++ more)) (ap (λ (c : Collector). answer cap size (held c)) (stays_over_full ps more h) ∙ ap (answer cap size) (held_laid over_full))
