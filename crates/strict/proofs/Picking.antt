-- A table whose words say other things is read alike.
use Prim.Native.Nat.{ℕ}
use mathlib.Core.Bool.{Bool, true, false, cond}
use mathlib.Core.List.{List, [], ◌∷◌, ◌++◌}
use mathlib.Core.Option.{Option, none, some}
use mathlib.Core.Path.{◌≡◌, refl, ap, ◌∙◌}
use lib.Dec.{eqb}
use Rattle.grammar.specs.Piece.{Answer}
use Rattle.grammar.specs.Table.{Entry, ◌↝◌, rest_of, advance, or_done, done, settle, pick}
use Rattle.grammar.specs.Join.{mapped}
use Rattle.strict.specs.Words.{among, relabel}

module _ {A B : Type 0} (f : A → B) where
  abbrev may : Option A → Option B
  may none = none
  may (some a) = some (f a)

  done_label : (es : List (Entry A)) → done (relabel f es) ≡ may (done es)
  done_label [] = refl
  done_label (e ∷ es) = by e.word (done_label es)
    where
      by : (w : List ℕ) → done (relabel f es) ≡ may (done es) → or_done (f e.value) (done (relabel f es)) w ≡ may (or_done e.value (done es) w)
      by [] q = refl
      by (x ∷ w) q = q

  advance_label : (c : ℕ) (es : List (Entry A)) → advance c (relabel f es) ≡ relabel f (advance c es)
  advance_label c [] = refl
  advance_label c (e ∷ es) = by e.word (advance_label c es)
    where
      by : (w : List ℕ) → advance c (relabel f es) ≡ relabel f (advance c es) → rest_of c (f e.value) w ++ advance c (relabel f es) ≡ relabel f (rest_of c e.value w ++ advance c es)
      by [] q = q
      by (x ∷ w) q = on (eqb x c)
        where
          on : (k : Bool) → cond k ((w ↝ f e.value) ∷ []) [] ++ advance c (relabel f es) ≡ relabel f (cond k ((w ↝ e.value) ∷ []) [] ++ advance c es)
          on true = ap (λ (z : List (Entry B)). (w ↝ f e.value) ∷ z) q
          on false = q

  settle_label : (o : Option A) (r : List ℕ) → settle (may o) r ≡ mapped f (settle o r)
  settle_label none r = refl
  settle_label (some a) r = refl

  pub pick_label : (t : List ℕ) (es : List (Entry A)) → pick t (relabel f es) ≡ mapped f (pick t es)
  pick_label [] es = ap (λ (z : Option B). settle z []) (done_label es) ∙ settle_label (done es) []
  pick_label (c ∷ t) es = ap step (advance_label c es) ∙ by (advance c es) (λ e fs. pick_label t (e ∷ fs))
    where
      step : List (Entry B) → Answer B
      step q = elim q [ [] ↦ settle (done (relabel f es)) (c ∷ t) | e ∷ fs ↦ pick t (e ∷ fs) ]

      by : (q : List (Entry A)) → ((e : Entry A) (fs : List (Entry A)) → pick t (relabel f (e ∷ fs)) ≡ mapped f (pick t (e ∷ fs))) →
          step (relabel f q) ≡ mapped f (elim q [ [] ↦ settle (done es) (c ∷ t) | e ∷ fs ↦ pick t (e ∷ fs) ])
      by [] ih = ap (λ (z : Option B). settle z (c ∷ t)) (done_label es) ∙ settle_label (done es) (c ∷ t)
      by (e ∷ fs) ih = ih e fs

-- the same words that say other things are read alike
pub among_label : {A B : Type 0} (f : A → B) (es : List (Entry A)) (t : List ℕ) → among (relabel f es) t ≡ mapped f (among es t)
unfolding among
among_label f es t = pick_label f t es
