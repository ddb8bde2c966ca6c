-- Where rows lie: what the cut at a place says of the rows of the rest of the sheet from there on.
use Rattle.std.specs.Prelude.{if◌then◌else◌, Some, None}
use Rattle.std.specs.Prelude.{Option}
use Prim.Native.Nat.{ℕ, ◌+◌, ◌-◌, ◌≤◌, ◌<◌}
use native.Mathlib.Nat.{add_assoc, add-sub_cancel_left}
use native.Mathlib.Numerals.{add-one}
use native.Mathlib.Omega.{arith}
use mathlib.Core.Bool.{Bool, true, false, ◌&&◌}
use mathlib.Core.List.{List, [], ◌∷◌}
use mathlib.Core.Path.{◌≡◌, refl, sym, ap, subst, ◌∙◌}
use borrow.Author.Tests.{leb-true, ltb-true, ltb-false, le-leb}
use lib.Dec.{eqb, leb, ltb}
use lib.ListN.{length, take, drop, length-drop, drop_of_length-le}
use lib.Seq.{drop-drop}
use Rattle.lexis.specs.Text.{Text, onto_first, until}
use Rattle.lexis.proofs.Seeking.{until_within, until_take}
use Rattle.sheet.specs.declared.Cut.{Cut}
use Rattle.sheet.specs.Sheet.{rows, behind, row_at, cut, stretch, bytes_of}

-- ── the first row of a rest ──

-- a rest with a byte has a first row, what stands before the first line feed, and the rows behind that
abbrev Parted : Text → Type 0
Parted [] = Unit
Parted (b ∷ t) = rows (b ∷ t) ≡ until (eqb 10) (b ∷ t) ∷ rows (drop (length (until (eqb 10) (b ∷ t))) t)

parted : (t : Text) → Parted t
parted [] = tt
parted (b ∷ t) = by (eqb 10 b) t (parted t)
  where
    by : (d : Bool) (t : Text) → Parted t → if d then [] ∷ rows t else onto_first b (rows t) ≡ (if d then [] else b ∷ until (eqb 10) t) ∷ rows (drop (length (if d then [] else b ∷ until (eqb 10) t)) t)
    by true t e = refl
    by false [] e = refl
    by false (c ∷ u) e = ap (onto_first b) e

parted_at : (t : Text) → 0 < length t → rows t ≡ until (eqb 10) t ∷ rows (drop (length (until (eqb 10) t) + 1) t)
parted_at [] h = let f : ⊥ = omega arith in absurd f
parted_at (b ∷ t) h = parted (b ∷ t) ∙ ap (λ (n : ℕ). until (eqb 10) (b ∷ t) ∷ rows (drop n (b ∷ t))) (sym (add-one (length (until (eqb 10) (b ∷ t)))))

-- ── the rows from a place on ──

-- the cut that was found, or the other
abbrev out : Cut → Option Cut → Cut
out c (Some d) = d
out c None = c

module _ (limit : ℕ) (s : Text) where
  -- those that a walk from there yields
  abbrev pub left : ℕ → List Text
  left p = if leb (length s) limit then rows (drop p s) else []

  -- what a cut that found a row says of the rows from its place on
  pub record Row (p : ℕ) (c : Cut) : Type 0 where
    pub starts : c.first ≡ p
    pub short : length s ≤ limit
    pub inside : p < length s
    pub forward : p ≤ c.end
    pub ends : c.end ≤ length s
    pub onward : p < c.next
    pub same : left p ≡ bytes_of c s ∷ left c.next

  module _ (p : ℕ) where
    abbrev line : Text
    line = until (eqb 10) (drop p s)

    -- the rest behind the first line feed
    drops : drop (length line + 1) (drop p s) ≡ drop (behind s (p + length line)) s
    drops = drop-drop (length line + 1) p s ∙ by (ltb (p + length line) (length s)) (ltb-false (p + length line) (length s))
      where
        by : (d : Bool) → (d ≡ false → length s ≤ p + length line) → drop (p + (length line + 1)) s ≡ drop (if d then p + length line + 1 else p + length line) s
        by true h = ap (λ (n : ℕ). drop n s) (sym (add_assoc p (length line) 1))
        by false h = let k = h refl in drop_of_length-le s {i = p + (length line + 1)} (omega arith) ∙ sym (drop_of_length-le s k)

    row : length s ≤ limit → p < length s → Row p (row_at s p (p + length line))
    row h k =
        let l : length (drop p s) ≡ length s - p = length-drop p s in
        let u : length line ≤ length (drop p s) = until_within (eqb 10) (drop p s) in
        record {
          starts = refl;
          short = h;
          inside = k;
          forward = omega arith;
          ends = omega arith;
          onward = by (ltb (p + length line) (length s)) (ltb-false (p + length line) (length s));
          same = rw (le-leb (length s) limit h) (parted_at (drop p s) (omega arith) ∙ (λ i. part i ∷ rows (drops i)));
        }
      where
        part : line ≡ stretch p (p + length line) s
        part = sym (ap (λ (n : ℕ). take n (drop p s)) (add-sub_cancel_left p (length line)) ∙ until_take (eqb 10) (drop p s))

        by : (d : Bool) → (d ≡ false → length s ≤ p + length line) → p < (if d then p + length line + 1 else p + length line)
        by true h = omega arith
        by false h = let k' = h refl in omega arith

    pub found : (c : Cut) → Some c ≡ cut limit s p → Row p c
    unfolding cut
    found c e = by (leb (length s) limit) (ltb p (length s)) (leb-true (length s) limit) (ltb-true p (length s)) e
      where
        by : (d f : Bool) → (d ≡ true → length s ≤ limit) → (f ≡ true → p < length s) → Some c ≡ (if d && f then Some (row_at s p (p + length line)) else None) → Row p c
        by true true h k e = subst (Row p) (sym (ap (out c) e)) (row (h refl) (k refl))
        by true false h k e = cc
        by false f h k e = cc

    -- where none is found there is none
    pub ended : None ≡ cut limit s p → left p ≡ []
    unfolding cut
    ended e = by (leb (length s) limit) (ltb p (length s)) (ltb-false p (length s)) e
      where
        by : (d f : Bool) → (f ≡ false → length s ≤ p) → None ≡ (if d && f then Some (row_at s p (p + length line)) else None) → (if d then rows (drop p s) else []) ≡ []
        by true true k e = cc
        by true false k e = ap rows (drop_of_length-le s (k refl))
        by false f k e = refl
