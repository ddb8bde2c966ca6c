-- The definition's rows, and that a walk by cuts yields exactly them, in order, and then ends.
-- Joined again, the rows are the sheet; and each is accepted or refused with 1, 2, 3 or 4.
use Rattle.std.specs.Prelude.{if◌then◌else◌, Some, None}
use Rattle.std.specs.Prelude.{Option}
use Prim.Native.Nat.{ℕ, zero, suc, ◌+◌, ◌<◌}
use native.Mathlib.Omega.{arith}
use mathlib.Core.Bool.{Bool, true, false}
use mathlib.Core.List.{List, [], ◌∷◌, ◌++◌}
use mathlib.Core.Path.{◌≡◌, refl, sym, ap, ◌∙◌}
use borrow.Author.Tests.{eqb-true, lt-leb}
use lib.Dec.{eqb, leb}
use lib.ListN.{length, drop, drop_of_length-le}
use Rattle.lexis.specs.Text.{Text, onto_first, until}
use Rattle.meaning.specs.Ordinary.{refused, accepted, ordinary}
use Rattle.meaning.proofs.Everywhere.{read, ordinary_all}
use Rattle.meaning.specs.declared.Reading.{Reading}
use Rattle.sheet.specs.declared.Cut.{Cut}
use Rattle.sheet.specs.declared.Counted.TheVariants.{TooLong}
use Rattle.sheet.specs.Parts.{none as nothing}
use Rattle.sheet.specs.Sheet.{rows, yielded, cut, onward, bytes_of, sum, counted, totals}
use Rattle.meaning.proofs.Thin.{Thin, thin}
use Rattle.sheet.proofs.Cutting.{left, found, ended}

-- ── a walk ──

module _ (limit : ℕ) (s : Text) where
  -- the rows that so many cuts find, each from where the last one ended
  abbrev pub walked : ℕ → ℕ → List Text
  walked zero p = []
  walked (suc n) p = elim (cut limit s p) [ Some c ↦ bytes_of c s ∷ walked n c.next | None ↦ [] ]

  -- from a place on, with cuts enough: the rows of the rest
  pub walks : (n p : ℕ) → length s < n + p → walked n p ≡ left limit s p
  walks zero p h = by (leb (length s) limit)
    where
      by : (d : Bool) → [] ≡ (if d then rows (drop p s) else [])
      by true = sym (ap rows (drop_of_length-le s {i = p} (omega arith)))
      by false = refl
  walks (suc n) p h = by (cut limit s p) refl (walks n)
    where
      by : (o : Option Cut) → o ≡ cut limit s p → ((q : ℕ) → length s < n + q → walked n q ≡ left limit s q) → elim o [ Some c ↦ bytes_of c s ∷ walked n c.next | None ↦ [] ] ≡ left limit s p
      by (Some c) e k = let r = found limit s p c e in let o = r.onward in ap (λ (rs : List Text). bytes_of c s ∷ rs) (k c.next (omega arith)) ∙ sym r.same
      by None e k = sym (ended limit s p e)

  -- the whole walk, from the front: exactly the rows, in order, or none of a sheet over the limit; and more cuts find nothing more
  pub walks_all : (n : ℕ) → length s < n → walked n 0 ≡ yielded limit s
  walks_all n h = walks n 0 (omega arith)

  -- a walk that has ended stays ended, where it is
  pub stays_ended : (p : ℕ) → cut limit s p ≡ None → cut limit s (onward p (cut limit s p)) ≡ None
  stays_ended p e = ap (λ (o : Option Cut). cut limit s (onward p o)) e ∙ e

  pub none_over : limit < length s → yielded limit s ≡ []
  none_over h = rw (lt-leb (length s) limit h)

-- ── the rows, joined again ──

-- each with its line feed
abbrev pub lines : List Text → Text
lines [] = []
lines (r ∷ rs) = r ++ 10 ∷ lines rs

-- whether the last byte is a line feed, or there is none
abbrev pub closed : Text → Bool
closed [] = true
closed (b ∷ []) = eqb 10 b
closed (b ∷ c ∷ s) = closed (c ∷ s)

-- a sheet, with a line feed added if the last row lacks it
abbrev pub completed : Text → Text
completed s = if closed s then s else s ++ 10 ∷ []

completed_more : (b c : ℕ) (s : Text) → b ∷ completed (c ∷ s) ≡ completed (b ∷ c ∷ s)
completed_more b c s = by (closed (c ∷ s))
  where
    by : (d : Bool) → b ∷ (if d then c ∷ s else c ∷ s ++ 10 ∷ []) ≡ (if d then b ∷ c ∷ s else b ∷ c ∷ s ++ 10 ∷ [])
    by true = refl
    by false = refl

-- a byte in front of the first row is one in front of the lines, where there is a row
put_first : (b : ℕ) (d : Bool) (c : ℕ) (rs : List Text) → lines (onto_first b (if d then [] ∷ rs else onto_first c rs)) ≡ b ∷ lines (if d then [] ∷ rs else onto_first c rs)
put_first b true c rs = refl
put_first b false c [] = refl
put_first b false c (r ∷ rs) = refl

pub joined_again : (s : Text) → lines (rows s) ≡ completed s
joined_again [] = refl
joined_again (b ∷ s) = by s (eqb 10 b) refl (joined_again s)
  where
    by : (s : Text) (d : Bool) → eqb 10 b ≡ d → lines (rows s) ≡ completed s → lines (if d then [] ∷ rows s else onto_first b (rows s)) ≡ completed (b ∷ s)
    by [] true e h = rw e (ap (λ (n : ℕ). n ∷ []) (eqb-true 10 b e))
    by [] false e h = rw e
    by (c ∷ s) true e h = (λ i. eqb-true 10 b e i ∷ h i) ∙ completed_more b c s
    by (c ∷ s) false e h = put_first b (eqb 10 c) c (rows s) ∙ ap (λ (l : Text). b ∷ l) h ∙ completed_more b c s

-- and no row holds a line feed
abbrev pub Feedless : List Text → Type 0
Feedless [] = Unit
Feedless (r ∷ rs) = (until (eqb 10) r ≡ r) × Feedless rs

pub feedless : (s : Text) → Feedless (rows s)
feedless [] = tt
feedless (b ∷ s) = by (eqb 10 b) refl (rows s) (feedless s)
  where
    by : (d : Bool) → eqb 10 b ≡ d → (rs : List Text) → Feedless rs → Feedless (if d then [] ∷ rs else onto_first b rs)
    by true e rs h = (refl, h)
    by false e [] h = (rw e, tt)
    by false e (r ∷ rs) h = (rw e (ap (λ (l : Text). b ∷ l) h.0), h.1)

-- ── every row is accepted or refused with 1 to 4 ──

-- counted once
abbrev Once : Reading → Type 0
Once r = counted 0 r + counted 1 r + counted 2 r + counted 3 r + counted 4 r ≡ 1

module _ (cap size : ℕ) where
  once : (s : Text) → Once (ordinary cap size s)
  unfolding refused accepted
  once s = ordinary_all Thin (read Thin thin) cap Once (record { too_long = refl; high = λ p. refl; no_type = refl; too_many = refl; accepts = λ t h e. refl }) size s

  abbrev of : ℕ → List Text → ℕ
  of n rs = sum (λ r. counted n (ordinary cap size r)) rs

  all_once : (rs : List Text) → of 0 rs + of 1 rs + of 2 rs + of 3 rs + of 4 rs ≡ sum (λ r. 1) rs
  all_once [] = refl
  all_once (r ∷ rs) = let h = once r in let k = all_once rs in omega arith

  pub every_row_once : (limit : ℕ) (s : Text) → let t = totals limit cap size s in t.accepted + t.refused_1 + t.refused_2 + t.refused_3 + t.refused_4 ≡ t.rows
  unfolding totals
  every_row_once limit s = all_once (yielded limit s)

  -- how many rows there are
  pub how_many : (limit : ℕ) (s : Text) → (totals limit cap size s).rows ≡ length (yielded limit s)
  unfolding totals
  how_many limit s = by (yielded limit s)
    where
      by : (rs : List Text) → sum (λ r. 1) rs ≡ length rs
      by [] = refl
      by (r ∷ rs) = let h = by rs in omega arith

  -- of a sheet over the limit every number is 0
  pub over_is_nothing : (limit : ℕ) (s : Text) → limit < length s → totals limit cap size s ≡ nothing TooLong
  unfolding totals
  over_is_nothing limit s h = rw (lt-leb (length s) limit h)
