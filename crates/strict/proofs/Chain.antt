-- One part after another: where the first is stuck all is, else the second reads on from its end.
use Prim.Native.Nat.{ℕ, ◌≤◌}
use native.Mathlib.Omega.{arith}
use mathlib.Core.List.{List}
use mathlib.Core.Path.{◌≡◌, subst, sym, ap, ◌∙◌}
use lib.ListN.{drop, length}
use Rattle.std.specs.Prelude.{Result, Ok, Err}
use Rattle.std.specs.Result.{IsErrAnd}
use Rattle.grammar.specs.Piece.{Answer, got}
use Rattle.grammar.specs.Join.{mapped, after}
use Rattle.strict.specs.Cursor.{Told}
use Rattle.strict.specs.declared.cursor.Read.{Read}
use Rattle.strict.specs.declared.cursor.Stuck.{Stuck}

-- what a `?` hands out
module _ {B W : Type 0} {k : W → B} {s : List ℕ} {at : ℕ} {q : Answer B} where
  pub handed : {e : Stuck} → Told s at q k (Err e) → {r : Result (Read W) Stuck} → IsErrAnd r (λ x. x ≡ e) → Told s at q k r
  handed t {r = Ok x} i = absurd i
  handed t {r = Err x} i = subst (λ (y : Stuck). Told s at q k (Err y)) (sym i) t

  -- the same answer in other words
  pub same_as : {p : Answer B} {r : Result (Read W) Stuck} → q ≡ p → Told s at p k r → Told s at q k r
  same_as e t = record { same = e ∙ t.same; inside = t.inside; onward = t.onward }

module _ {A V : Type 0} {f : V → A} {s : List ℕ} {at : ℕ} {p : Answer A} where
  module _ {B W : Type 0} (h : A → List ℕ → Answer B) {k : W → B} where
    -- stuck in the first part
    pub stops : {e : Stuck} → Told s at p f (Err e) → {r : Result (Read W) Stuck} → IsErrAnd r (λ x. x ≡ e) → Told s at (after h p) k r
    stops {e} t i = handed (record { same = ap (after h) t.same; inside = t.inside; onward = t.onward }) i

    -- past it
    pub goes : {a : Read V} → Told s at p f (Ok a) → {r : Result (Read W) Stuck} → Told s a.end (h (f a.value) (drop a.end s)) k r → Told s at (after h p) k r
    goes {a} t u = let m = t.onward in let n = u.onward in record { same = ap (after h) t.same ∙ u.same; inside = u.inside; onward = omega arith }

  module _ {B W : Type 0} (h : A → B) {k : W → B} where
    -- the last part
    pub halts : {e : Stuck} → Told s at p f (Err e) → {r : Result (Read W) Stuck} → IsErrAnd r (λ x. x ≡ e) → Told s at (mapped h p) k r
    halts {e} t i = handed (record { same = ap (mapped h) t.same; inside = t.inside; onward = t.onward }) i

    pub ends : {a : Read V} → Told s at p f (Ok a) → {w : W} → h (f a.value) ≡ k w → Told s at (mapped h p) k (Ok (record { value = w; end = a.end }))
    ends {a} t e = record { same = ap (mapped h) t.same ∙ ap (λ (y : B). got y (drop a.end s)) e; inside = t.inside; onward = t.onward }

-- nothing more is read
module _ {B W : Type 0} {k : W → B} {s : List ℕ} {at : ℕ} where
  pub done : {b : B} {w : W} → b ≡ k w → at ≤ length s → Told s at (got b (drop at s)) k (Ok (record { value = w; end = at }))
  done e h = record { same = ap (λ (y : B). got y (drop at s)) e; inside = h; onward = omega arith }
