-- A list of items at a place of a text: it ends there, goes on with an item, or is stuck in one. For any items and any separator.
use Prim.Native.Nat.{ℕ, ◌+◌, ◌≤◌, ◌<◌}
use native.Mathlib.Omega.{arith}
use mathlib.Core.Bool.{true, false}
use mathlib.Core.List.{List, [], ◌∷◌}
use mathlib.Core.Path.{◌≡◌, refl, subst, sym, ap, ◌∙◌}
use lib.IntN.{ℤ}
use lib.ListN.{drop, length, get_or, set, drop_of_length-le, length-drop, length-set}
use lib.Seq.{drop-drop}
use Rattle.meaning.specs.Found.{padded}
use Rattle.grammar.specs.Piece.{Answer, got, stuck, member}
use Rattle.grammar.specs.Join.{mapped}
use Rattle.strict.specs.Rows.{more, listed, Parts, behind}
use Rattle.strict.specs.Lists.{Row, row, nothing, pushed, pushes}
use Rattle.std.specs.Prelude.{Result, Ok, Err}
use Rattle.std.specs.Result.{IsErrAnd}
use Rattle.strict.specs.Cursor.{Told, Spaced, skip}
use Rattle.strict.specs.declared.cursor.Read.{Read}
use Rattle.strict.specs.declared.cursor.Stuck.{Stuck}
use Rattle.strict.proofs.Chain.{handed}
use Rattle.lexis.proofs.Lists.{view}

module _ {A : Type 0} where
  pour : (l : Row A) (z : A) (p : Answer (List A)) → mapped (pushes l) (mapped (more z) p) ≡ mapped (pushes (pushed l z)) p
  pour l z (got zs x) = refl
  pour l z (stuck x) = refl

  -- an entry stored
  stored : {x : List A} (out : List A) (n : ℕ) (v : A) → x ≡ set out n v → row x (n + 1) ≡ pushed (row out n) v
  stored out n v e = ap (λ (z : List A). row z (n + 1)) e

-- read up to i: the list from the start is what was read, then the list from here
pub record Reading {A : Type 0} (f : List ℕ → Answer (List A)) (s : List ℕ) (at : ℕ) (first : Row A) (size : ℕ) (out : List A) (n i : ℕ) : Type 0 where
  pub inside : i ≤ length s
  pub onward : at ≤ i
  pub few : n ≤ i + 1
  pub kept : length out ≡ size
  pub same : mapped (pushes first) (f (drop at s)) ≡ mapped (pushes (row out n)) (f (drop i s))

module _ {A : Type 0} {f : List ℕ → Answer (List A)} {F : List ℕ} {g : List ℕ → Answer A} (P : Parts f F g) {s : List ℕ} {at : ℕ} {first : Row A} {size : ℕ} {out : List A} {n i : ℕ} (r : Reading f s at first size out n i) where
  stop : f (drop i s) ≡ got [] (drop i s) → Told s at (mapped (pushes first) (f (drop at s))) (row out) (Ok (record { value = n; end = i }))
  stop e = record { same = r.same ∙ ap (mapped (pushes (row out n))) e; inside = r.inside; onward = r.onward }

  pub ends : length s ≤ i → Told s at (mapped (pushes first) (f (drop at s))) (row out) (Ok (record { value = n; end = i }))
  ends h = stop (ap f (drop_of_length-le s h) ∙ P.nil ∙ ap (got []) (sym (drop_of_length-le s h)))

  pub stops : i < length s → member (get_or s i 0) F ≡ false → Told s at (mapped (pushes first) (f (drop at s))) (row out) (Ok (record { value = n; end = i }))
  stops h m = stop (ap f (view s i h) ∙ P.off (get_or s i 0) (drop (i + 1) s) m ∙ ap (got []) (sym (view s i h)))

  module _ (h : i < length s) (m : member (get_or s i 0) F ≡ true) where
    item : f (drop i s) ≡ listed f (g (drop i s))
    item = ap f (view s i h) ∙ P.on (get_or s i 0) (drop (i + 1) s) m ∙ ap (λ (x : List ℕ). listed f (g x)) (sym (view s i h))

    pub sticks : {e : Stuck} → Told s i (g (drop i s)) (λ v. v) (Err e) → {a : Result (Read ℕ) Stuck} → IsErrAnd a (λ x. x ≡ e) → Told s at (mapped (pushes first) (f (drop at s))) (row out) a
    sticks {e} q k = let o = q.onward in let p = r.onward in handed (record {
      same = r.same ∙ ap (mapped (pushes (row out n))) (item ∙ ap (listed f) q.same);
      inside = q.inside;
      onward = omega arith;
    }) k

    pub longer : {a : Read A} → Told s i (g (drop i s)) (λ v. v) (Ok a) → i < a.end
    longer {a} q =
        let b : length (drop a.end s) < length (get_or s i 0 ∷ drop (i + 1) s) = P.shorter (get_or s i 0) (drop (i + 1) s) (drop a.end s) a.value m (ap g (sym (view s i h)) ∙ q.same) in
        let x = length-drop a.end s in let y = length-drop (i + 1) s in omega arith

    pub goes_on : {a : Read A} → Told s i (g (drop i s)) (λ v. v) (Ok a) → {x : List A} → x ≡ set out n a.value → Reading f s at first size x (n + 1) a.end
    goes_on {a} q {x} d = let o = longer q in let p = r.onward in let j = r.few in record {
      inside = q.inside;
      onward = omega arith;
      few = omega arith;
      kept = ap length d ∙ length-set out n a.value ∙ r.kept;
      same = r.same ∙ ap (mapped (pushes (row out n))) (item ∙ ap (listed f) q.same) ∙ pour (row out n) a.value (f (drop a.end s))
          ∙ ap (λ (l : Row A). mapped (pushes l) (f (drop a.end s))) (sym (stored out n a.value d));
    }

-- ── an item behind a comma ──
pub behind_comma : {A : Type 0} (g : List ℕ → Answer A) {s : List ℕ} {i q : ℕ} {a : Result (Read A) Stuck} → Spaced s (i + 1) q → Told s q (g (drop q s)) (λ v. v) a → Told s i (g (behind (drop i s))) (λ v. v) a
behind_comma g {s} {i} {q} p t = let o = p.onward in let k = t.onward in record {
  same = ap (λ (y : List ℕ). g (skip y)) (drop-drop 1 i s) ∙ ap g p.same ∙ t.same;
  inside = t.inside;
  onward = omega arith;
}

-- and behind an `x`
pub behind_x : {A : Type 0} (g : List ℕ → Answer A) {s : List ℕ} {i : ℕ} {a : Result (Read A) Stuck} → Told s (i + 1) (g (drop (i + 1) s)) (λ v. v) a → Told s i (g (drop 1 (drop i s))) (λ v. v) a
behind_x g {s} {i} t = let k = t.onward in record { same = ap g (drop-drop 1 i s) ∙ t.same; inside = t.inside; onward = omega arith }

-- ── a first entry, then a list ──
module _ {A : Type 0} (f : List ℕ → Answer (List A)) (g : List ℕ → Answer A) {s : List ℕ} {at : ℕ} (l : Row A) {out : List A} where
  pub no_first : {e : Stuck} → Told s at (g (drop at s)) (λ v. v) (Err e) → {a : Result (Read ℕ) Stuck} → IsErrAnd a (λ x. x ≡ e) → Told s at (mapped (pushes l) (listed f (g (drop at s)))) (row out) a
  no_first q k = handed (record { same = ap (λ p. mapped (pushes l) (listed f p)) q.same; inside = q.inside; onward = q.onward }) k

module _ {A : Type 0} (f : List ℕ → Answer (List A)) (g : List ℕ → Answer A) {s : List ℕ} {at : ℕ} (out : List A) where
  pub led : {a : Read A} → Told s at (g (drop at s)) (λ v. v) (Ok a) → {x : List A} → x ≡ set out 0 a.value →
      {y : List A} {b : Result (Read ℕ) Stuck} → Told s a.end (mapped (pushes (row x 1)) (f (drop a.end s))) (row y) b → Told s at (mapped (pushes (row out 0)) (listed f (g (drop at s)))) (row y) b
  led {a} q {x} c r =
      let y = q.onward in let z = r.onward in
      record {
        same = ap (λ p. mapped (pushes (row out 0)) (listed f p)) q.same ∙ pour (row out 0) a.value (f (drop a.end s)) ∙ ap (λ (l : Row A). mapped (pushes l) (f (drop a.end s))) (sym (stored out 0 a.value c)) ∙ r.same;
        inside = r.inside;
        onward = omega arith;
      }

-- ── into blank room ──
pub blank : {s : List ℕ} {at : ℕ} (p : Answer (List ℤ)) {out y : List ℤ} {a : Result (Read ℕ) Stuck} → out ≡ padded 8 [] → Told s at (mapped (pushes (row out 0)) p) (row y) a → Told s at (mapped (pushes nothing) p) (row y) a
blank {s} {at} p {out} {y} {a} o t = subst (λ (x : List ℤ). Told s at (mapped (pushes (row x 0)) p) (row y) a) o t
