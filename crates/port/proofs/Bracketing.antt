-- Laws of bracket cutting: a `>` at the end, and for callers the content by its length.
use Rattle.std.specs.Prelude.{if◌then◌else◌, Option, None, Some}
use Prim.Native.Nat.{ℕ, ◌+◌, ◌-◌, ◌≤◌, ◌<◌}
use native.Mathlib.Nat.{suc-add}
use native.Mathlib.Omega.{arith}
use mathlib.Core.Bool.{Bool, true, false}
use mathlib.Core.List.{List, [], ◌∷◌, ◌++◌}
use mathlib.Core.Path.{◌≡◌, refl, sym, ap, ◌∙◌}
use borrow.Author.Tests.{ne_eqb}
use lib.Dec.{eqb}
use lib.ListN.{length, take, drop, get_or, length-drop}
use lib.Seq.{take-length, length-take-le}
use Rattle.lexis.specs.Text.{Text, begins, after, Cut, nowhere, at, later, place}
use Rattle.lexis.proofs.Lists.{behind, rest}
use Rattle.lexis.proofs.Seeking.{Reach, begins_within, after_drop}
use Rattle.meaning.specs.Parts.{each, depth, close, less_final, content_by, content, bracketed}

-- ── a `>` at the end ──

-- the last byte decides
last : (u : List ℕ) (b : ℕ) → less_final (u ++ b ∷ []) ≡ if eqb b 62 then Some u else None
last [] b = refl
last (a ∷ u) b = more u (last u b) ∙ by (eqb b 62)
  where
    more : (u : List ℕ) → less_final (u ++ b ∷ []) ≡ if eqb b 62 then Some u else None
        → less_final (a ∷ u ++ b ∷ []) ≡ each (λ t. a ∷ t) (if eqb b 62 then Some u else None)
    more [] e = ap (each (λ (t : Text). a ∷ t)) e
    more (c ∷ u) e = ap (each (λ (t : Text). a ∷ t)) e

    by : (d : Bool) → each (λ t. a ∷ t) (if d then Some u else None) ≡ if d then Some (a ∷ u) else None
    by true = refl
    by false = refl

module _ (s : List ℕ) where
  by_last : 0 < length s → less_final s ≡ if eqb (get_or s (length s - 1) 0) 62 then Some (take (length s - 1) s) else None
  by_last h = ap less_final (sym (take-length s) ∙ behind s (length s) h (omega arith)) ∙ last (take (length s - 1) s) (get_or s (length s - 1) 0)

  pub final_none : length s ≡ 0 → each length (less_final s) ≡ None
  final_none h = rw (sym (take-length s) ∙ ap (λ (n : ℕ). take n s) h)

  pub final_some : 0 < length s → get_or s (length s - 1) 0 ≡ 62 → each length (less_final s) ≡ Some (length s - 1)
  final_some h e = rw (by_last h, e, length-take-le (length s - 1) s (omega arith))

  pub final_other : 0 < length s → (get_or s (length s - 1) 0 ≡ 62 → ⊥) → each length (less_final s) ≡ None
  final_other h e = rw (by_last h, ne_eqb (get_or s (length s - 1) 0) 62 e)

-- ── for callers: what a place and a length say ──

onward : (s : List ℕ) (b : ℕ) (c : Cut) → Reach (62 ∷ []) s c → Reach (62 ∷ []) (b ∷ s) (later b c)
onward s b nowhere r = tt
onward s b (at u t) r = record { front = ap (λ (l : List ℕ). b ∷ l) r.front; back = rw suc-add r.back; room = omega (arith, r.room) }

reach : (d : ℕ) (s : List ℕ) → Reach (62 ∷ []) s (close d s)
reach d [] = tt
reach d (b ∷ s) = by (depth d b) (λ e. reach e s)
  where
    by : (o : Option ℕ) → ((e : ℕ) → Reach (62 ∷ []) s (close e s)) → Reach (62 ∷ []) (b ∷ s) (elim o [ None ↦ at [] s | Some e ↦ later b (close e s) ])
    by None f = record { front = refl; back = refl; room = omega arith }
    by (Some e) f = onward s b (close e s) (f e)

module _ (s : List ℕ) (n : ℕ) where
  pub close_at : place (close 0 s) ≡ Some n → close 0 s ≡ at (take n s) (drop (n + 1) s)
  close_at e = by (close 0 s) (reach 0 s) e
    where
      by : (c : Cut) → Reach (62 ∷ []) s c → place c ≡ Some n → c ≡ at (take n s) (drop (n + 1) s)
      by nowhere r e = let z : ◌≡◌ {A = ℕ} 0 1 = cc in let f : ⊥ = omega arith in absurd f
      by (at u t) r e =
          let k : length u ≡ n = cc in
          let f : u ≡ take n s = r.front ∙ ap (λ (n : ℕ). take n s) k in
          let g : t ≡ drop (n + 1) s = r.back ∙ ap (λ (n : ℕ). drop (n + 1) s) k in
          λ j. at (f j) (g j)

  pub close_within : place (close 0 s) ≡ Some n → n < length s
  close_within e = by (close 0 s) (reach 0 s) e
    where
      by : (c : Cut) → Reach (62 ∷ []) s c → place c ≡ Some n → n < length s
      by nowhere r e = let z : ◌≡◌ {A = ℕ} 0 1 = cc in let f : ⊥ = omega arith in absurd f
      by (at u t) r e = let k : length u ≡ n = cc in omega (arith, r.room)

pub close_nowhere : (s : List ℕ) → place (close 0 s) ≡ None → close 0 s ≡ nowhere
close_nowhere s e = by (close 0 s) e
  where
    by : (c : Cut) → place c ≡ None → c ≡ nowhere
    by nowhere e = refl
    by (at u t) e = let z : ◌≡◌ {A = ℕ} 0 1 = cc in let f : ⊥ = omega arith in absurd f

-- t stands in s behind k bytes
record Stands (k : ℕ) (s t : List ℕ) : Type 0 where
  front : t ≡ take (length t) (drop k s)
  room : k + length t ≤ length s

abbrev May : ℕ → List ℕ → Option Text → Type 0
May k s None = Unit {0}
May k s (Some t) = Stands k s t

longer : (b : ℕ) (s : List ℕ) (o : Option Text) → May 0 s o → May 0 (b ∷ s) (each (λ t. b ∷ t) o)
longer b s None m = tt
longer b s (Some t) m = record { front = ap (λ (l : List ℕ). b ∷ l) m.front; room = omega (arith, m.room) }

final_may : (s : List ℕ) → May 0 s (less_final s)
final_may [] = tt
final_may (b ∷ []) = by (eqb b 62)
  where
    by : (d : Bool) → May 0 (b ∷ []) (if d then Some [] else None)
    by true = record { front = refl; room = omega arith }
    by false = tt
final_may (b ∷ c ∷ s) = longer b (c ∷ s) (less_final (c ∷ s)) (final_may (c ∷ s))

content_may : (s : List ℕ) → May 0 s (content s)
content_may s = by (close 0 s) (reach 0 s)
  where
    by : (c : Cut) → Reach (62 ∷ []) s c → May 0 s (content_by s c)
    by nowhere r = final_may s
    by (at u t) r = record { front = r.front; room = omega (arith, r.room) }

behind_prefix : (p s : List ℕ) (o : Option Text) → length p ≤ length s → May 0 (drop (length p) s) o → May (length p) s o
behind_prefix p s None h m = tt
behind_prefix p s (Some t) h m = record { front = m.front; room = omega (arith, m.room, length-drop (length p) s) }

bracketed_may : (p s : List ℕ) → May (length p) s (bracketed p s)
bracketed_may p s = by (begins p s) (begins_within p s) (after_drop p s)
  where
    by : (d : Bool) → (d ≡ true → length p ≤ length s) → (d ≡ true → after p s ≡ drop (length p) s)
        → May (length p) s (if d then content (after p s) else None)
    by true h e = rw (e refl) (behind_prefix p s (content (drop (length p) s)) (h refl) (content_may (drop (length p) s)))
    by false h e = tt

module _ (p s : List ℕ) (n : ℕ) where
  pub bracketed_at : each length (bracketed p s) ≡ Some n → bracketed p s ≡ Some (take n (drop (length p) s))
  bracketed_at e = by (bracketed p s) (bracketed_may p s) e
    where
      by : (o : Option Text) → May (length p) s o → each length o ≡ Some n → o ≡ Some (take n (drop (length p) s))
      by None m e = let z : ◌≡◌ {A = ℕ} 0 1 = cc in let f : ⊥ = omega arith in absurd f
      by (Some t) m e = let k : length t ≡ n = cc in ap Some (m.front ∙ ap (λ (n : ℕ). take n (drop (length p) s)) k)

  pub bracketed_within : each length (bracketed p s) ≡ Some n → length p + n ≤ length s
  bracketed_within e = by (bracketed p s) (bracketed_may p s) e
    where
      by : (o : Option Text) → May (length p) s o → each length o ≡ Some n → length p + n ≤ length s
      by None m e = let z : ◌≡◌ {A = ℕ} 0 1 = cc in let f : ⊥ = omega arith in absurd f
      by (Some t) m e = let k : length t ≡ n = cc in omega (arith, m.room)

  -- the same, by the rest of s
  pub content_is : each length (bracketed p s) ≡ Some n → bracketed p s ≡ Some (take n (take (length s - length p) (drop (length p) s)))
  content_is e = rw (rest s (length p)) (bracketed_at e)

  pub content_fits : each length (bracketed p s) ≡ Some n → n ≡ length (take n (take (length s - length p) (drop (length p) s)))
  content_fits e = rw (rest s (length p))
      (sym (length-take-le n (drop (length p) s) (rw length-drop (omega (arith, bracketed_within e)))))

pub bracketed_none : (p s : List ℕ) → each length (bracketed p s) ≡ None → bracketed p s ≡ None
bracketed_none p s e = by (bracketed p s) e
  where
    by : (o : Option Text) → each length o ≡ None → o ≡ None
    by None e = refl
    by (Some t) e = let z : ◌≡◌ {A = ℕ} 0 1 = cc in let f : ⊥ = omega arith in absurd f

-- ── the content and a form, by what the callees tell ──

module _ (s : List ℕ) where
  pub matched : (n : ℕ) → place (close 0 s) ≡ Some n → each length (content s) ≡ Some n
  matched n e = by (close 0 s) e
    where
      by : (c : Cut) → place c ≡ Some n → each length (content_by s c) ≡ Some n
      by nowhere e = let z : ◌≡◌ {A = ℕ} 0 1 = cc in let f : ⊥ = omega arith in absurd f
      by (at u t) e = e

  pub unmatched : place (close 0 s) ≡ None → each length (content s) ≡ each length (less_final s)
  unmatched e = rw (close_nowhere s e)

module _ (p s : List ℕ) where
  pub foreign : begins p s ≡ false → each length (bracketed p s) ≡ None
  foreign e = rw e

  pub opening : begins p s ≡ true → each length (bracketed p s) ≡ each length (content (take (length s - length p) (drop (length p) s)))
  opening e = rw (e, after_drop p s e, rest s (length p))
