-- Sums row by row: what a loop over the rows holds, and that nothing passes 64 bits, for no row adds much and there are few rows.
use Rattle.std.specs.Prelude.{if◌then◌else◌, Some, None}
use Prim.Native.Nat.{ℕ, suc, ◌*◌, ◌≤◌, ◌<◌, ◌^◌}
use native.Mathlib.Nat.{add-zero, zero-add, add_assoc}
use native.Mathlib.Omega.{arith}
use mathlib.Core.Bool.{Bool, true, false}
use mathlib.Core.List.{List, [], ◌∷◌}
use mathlib.Core.Path.{◌≡◌, refl, sym, ap, subst, ◌∙◌}
use borrow.Author.Tests.{leb-true}
use lib.Dec.{eqb, leb}
use lib.ListN.{length}
use Rattle.lexis.specs.Text.{Text, onto_first}
use Rattle.meaning.specs.Ordinary.{ordinary}
use Rattle.meaning.specs.Refusals as R
use Rattle.meaning.specs.declared.Reading.{Reading}
use Rattle.sheet.specs.declared.Counted.{Counted}
use Rattle.sheet.specs.declared.Cut.{Cut}
use Rattle.sheet.specs.declared.walker.Walker.{Walker}
use denote.Ref.{Bor}
use Rattle.sheet.specs.declared.sums.Totals.{Totals}
use Rattle.sheet.specs.Sheet.{rows, yielded, cut, bytes_of, answered, sum, counted, summed, totals, Nexts}
use Rattle.sheet.specs.Parts.{none, one, ◌plus◌, added, Below}
use Rattle.sheet.proofs.Bounds.{most, few}
use Rattle.sheet.proofs.Cutting.{left, Row, found, ended}

-- ── totals, and those of more rows ──

plus_assoc : (t u v : Totals) → t plus u plus v ≡ t plus (u plus v)
plus_assoc t u v = λ i. record {
  answer = t.answer;
  rows = add_assoc t.rows u.rows v.rows i;
  accepted = add_assoc t.accepted u.accepted v.accepted i;
  refused_1 = add_assoc t.refused_1 u.refused_1 v.refused_1 i;
  refused_2 = add_assoc t.refused_2 u.refused_2 v.refused_2 i;
  refused_3 = add_assoc t.refused_3 u.refused_3 v.refused_3 i;
  refused_4 = add_assoc t.refused_4 u.refused_4 v.refused_4 i;
  a = add_assoc t.a u.a v.a i;
  b = add_assoc t.b u.b v.b i;
  c = add_assoc t.c u.c v.c i;
  d = add_assoc t.d u.d v.d i;
}

plus_none : (t : Totals) (a : Counted) → t plus none a ≡ t
plus_none t a = λ i. record {
  answer = t.answer;
  rows = add-zero t.rows i;
  accepted = add-zero t.accepted i;
  refused_1 = add-zero t.refused_1 i;
  refused_2 = add-zero t.refused_2 i;
  refused_3 = add-zero t.refused_3 i;
  refused_4 = add-zero t.refused_4 i;
  a = add-zero t.a i;
  b = add-zero t.b i;
  c = add-zero t.c i;
  d = add-zero t.d i;
}

none_plus : (t : Totals) → none t.answer plus t ≡ t
none_plus t = λ i. record {
  answer = t.answer;
  rows = zero-add t.rows i;
  accepted = zero-add t.accepted i;
  refused_1 = zero-add t.refused_1 i;
  refused_2 = zero-add t.refused_2 i;
  refused_3 = zero-add t.refused_3 i;
  refused_4 = zero-add t.refused_4 i;
  a = zero-add t.a i;
  b = zero-add t.b i;
  c = zero-add t.c i;
  d = zero-add t.d i;
}

part_below : (n : ℕ) (t u : Totals) → Below n (t plus u) → Below n t
part_below n t u b = record {
  rows = omega (arith, b.rows);
  accepted = omega (arith, b.accepted);
  refused_1 = omega (arith, b.refused_1);
  refused_2 = omega (arith, b.refused_2);
  refused_3 = omega (arith, b.refused_3);
  refused_4 = omega (arith, b.refused_4);
  a = omega (arith, b.a);
  b = omega (arith, b.b);
  c = omega (arith, b.c);
  d = omega (arith, b.d);
}

-- ── how large ──

-- at most n for each row
sum_few : (n : ℕ) (f : Text → ℕ) → ((r : Text) → f r ≤ n) → (rs : List Text) → sum f rs ≤ n * length rs
sum_few n f h [] = omega arith
sum_few n f h (r ∷ rs) = let k = sum_few n f h rs in let l = h r in omega arith

-- a row has a byte, or a line feed behind it
pub few_rows : (s : Text) → length (rows s) ≤ length s
few_rows [] = omega arith
few_rows (b ∷ s) = by (eqb 10 b) (rows s) (few_rows s)
  where
    by : (d : Bool) (rs : List Text) → length rs ≤ length s → length (if d then [] ∷ rs else onto_first b rs) ≤ suc (length s)
    by true rs h = omega arith
    by false [] h = omega arith
    by false (r ∷ rs) h = omega arith

pub few_yielded : (limit : ℕ) (s : Text) → length (yielded limit s) ≤ limit
few_yielded limit s = by (leb (length s) limit) (leb-true (length s) limit)
  where
    by : (d : Bool) → (d ≡ true → length s ≤ limit) → length (if d then rows s else []) ≤ limit
    by true h = let k = h refl in let l = few_rows s in omega arith
    by false h = omega arith

counted_few : (n : ℕ) (r : Reading) → counted n r ≤ 1
counted_few n r = by (eqb (R.number r.refusal) n)
  where
    by : (d : Bool) → (if d then 1 else 0) ≤ 1
    by true = omega arith
    by false = omega arith

module _ (s : Text) where
  abbrev read : Text → Reading
  read = ordinary 8 1024

  abbrev ys : List Text
  ys = yielded 65536 s

  -- at most 20 for each of 65,536 rows
  below_of : (f : Text → ℕ) → ((r : Text) → f r ≤ most 8) → sum f ys < 2 ^ 64
  below_of f h = let k = sum_few (most 8) f h ys in let l = few_yielded 65536 s in omega arith

  below : Below (2 ^ 64) (totals 65536 8 1024 s)
  unfolding totals
  below = record {
    rows = below_of (λ r. 1) (λ r. omega arith);
    accepted = below_of (λ r. counted 0 (read r)) (λ r. omega (arith, counted_few 0 (read r)));
    refused_1 = below_of (λ r. counted 1 (read r)) (λ r. omega (arith, counted_few 1 (read r)));
    refused_2 = below_of (λ r. counted 2 (read r)) (λ r. omega (arith, counted_few 2 (read r)));
    refused_3 = below_of (λ r. counted 3 (read r)) (λ r. omega (arith, counted_few 3 (read r)));
    refused_4 = below_of (λ r. counted 4 (read r)) (λ r. omega (arith, counted_few 4 (read r)));
    a = below_of (λ r. (read r).note.a) (λ r. (few 8 1024 r).a);
    b = below_of (λ r. (read r).note.b) (λ r. (few 8 1024 r).b);
    c = below_of (λ r. (read r).note.c) (λ r. (few 8 1024 r).c);
    d = below_of (λ r. (read r).note.d) (λ r. (few 8 1024 r).d);
  }

  -- ── what the loop holds ──

  -- the totals of the rows from a place on
  abbrev pub to_come : ℕ → Totals
  to_come p = summed (answered 65536 s) read (left 65536 s p)

  -- the totals so far, with those of the rows from the walker's place on, are the sheet's
  pub record Counting (t : Totals) (w : Walker) : Type 0 where
    pub on : w.sheet.now ≡ s
    pub same : totals 65536 8 1024 s ≡ t plus to_come w.place

  pub begins : {t : Totals} {w : Walker} {a : Counted} → a ≡ answered 65536 s → t ≡ none a → w.sheet.now ≡ s → w.place ≡ 0 → Counting t w
  unfolding totals
  begins e n o z = record { on = o; same = sym (none_plus (to_come 0)) ∙ (λ i. sym (n ∙ ap none e) i plus to_come (sym z i)) }

  module _ {t : Totals} {w v : Walker} (g : Counting t w) where
    module _ {c : Cut} (x : Nexts 65536 w (Some c) v) where
      pub row : Row 65536 s w.place c
      row = found 65536 s w.place c (x.0 ∙ ap (λ (l : Text). cut 65536 l w.place) g.on)

      module _ {r : Reading} (q : r ≡ read (bytes_of c s)) where
        -- the first row to come is counted
        grown : totals 65536 8 1024 s ≡ added t r plus to_come c.next
        grown =
            g.same ∙ ap (λ (rs : List Text). t plus summed (answered 65536 s) read rs) row.same
            ∙ sym (plus_assoc t (one (read (bytes_of c s))) (to_come c.next)) ∙ ap (λ (y : Reading). added t y plus to_come c.next) (sym q)

        pub room : Below (2 ^ 64) (added t r)
        room = part_below (2 ^ 64) (added t r) (to_come c.next) (subst (Below (2 ^ 64)) grown below)

        pub again : {u : Totals} → u ≡ added t r → Counting u v
        again p = record { on = ap (λ (b : Bor Text). b.now) x.1.0 ∙ g.on; same = grown ∙ (λ i. sym p i plus to_come (sym x.1.1 i)) }

    pub done : Nexts 65536 w None v → t ≡ totals 65536 8 1024 s
    done x = sym (g.same ∙ ap (λ (rs : List Text). t plus summed (answered 65536 s) read rs) (ended 65536 s w.place (x.0 ∙ ap (λ (l : Text). cut 65536 l w.place) g.on)) ∙ plus_none t (answered 65536 s))
