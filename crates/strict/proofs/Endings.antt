-- Each list of the grammar, with its end, is the code's list, then the end. By the equations of the items.
use Prim.Native.Nat.{ℕ, ◌+◌, ◌^◌}
use mathlib.Core.Bool.{Bool, true, false, cond, ◌||◌}
use mathlib.Core.List.{List, [], ◌∷◌}
use mathlib.Core.Path.{◌≡◌, refl, subst, sym, ap, ◌∙◌}
use lib.Dec.{T, eqb, eqb→eq}
use lib.IntN.{ℤ}
use Rattle.lexis.specs.Text.{bytes}
use Rattle.grammar.specs.Piece.{Answer, got, stuck, apart, Piece}
use Rattle.grammar.specs.Join.{mapped, after, fork}
use Rattle.grammar.specs.Until.{Ended, first, until_read}
use Rattle.grammar.specs.Number.{ten}
use Rattle.grammar.proofs.Several.{num32, dim64, x32}
use Rattle.strict.specs.Cursor.{numeral, dimension}
use Rattle.strict.specs.Rows.{more, commas32, xs32, parts32, commas64, tail32, list32, list64}
use Rattle.strict.proofs.Rows as R
use Rattle.strict.specs.Laws.{item32, item64, num_is, dim_is, commas32_are, turn}
use Rattle.strict.proofs.Together.{closing, close}

module _ {G : List ℕ} {B : Type 0} {E : B → List ℕ} (Q : Piece false G B E) (sepc : T (apart G (bytes ","))) (sept : T (apart G ten)) (nil : Q.read [] ≡ stuck []) where
  pub large_list : (t : List ℕ) → after (λ a r. mapped (first a) (until_read item64 Q sepc (λ a. sept) r)) (dim64.read t) ≡ after (close Q.read) (list64 t)
  unfolding commas64
  large_list t = ap (after (λ a r. mapped (first a) (until_read item64 Q sepc (λ a. sept) r))) (dim_is t) ∙ R.list item64 Q sepc (λ a. sept) nil (dimension t)

  pub small_list : (t : List ℕ) → after (λ a r. mapped (first a) (until_read item32 Q sepc (λ a. sept) r)) (num32.read t) ≡ after (close Q.read) (list32 false t)
  unfolding commas32
  small_list t = ap (after (λ a r. mapped (first a) (until_read item32 Q sepc (λ a. sept) r))) (num_is t) ∙ R.list item32 Q sepc (λ a. sept) nil (numeral (2 ^ 31) (2 ^ 31 + 1) t)

  -- by `x` or by commas, as the byte after the first entry says
  module _ (sepx : T (apart G (bytes "x"))) where
    abbrev x_joined : List ℕ → Answer (Ended ℤ B)
    x_joined r = after (λ a r. mapped (first a) (until_read x32 Q sepx (λ a. sept) r)) (x32.read r)

    abbrev by_comma : List ℕ → Answer (Ended ℤ B)
    by_comma r = until_read item32 Q sepc (λ a. sept) r

    at_x : (t : List ℕ) → x_joined (120 ∷ t) ≡ after (close Q.read) (xs32 (120 ∷ t))
    unfolding xs32
    at_x t = R.list x32 Q sepx (λ a. sept) nil (x32.read (120 ∷ t)) ∙ sym (ap (after (close Q.read)) (turn x32 120 t))

    at_comma : (t : List ℕ) → by_comma t ≡ after (close Q.read) (commas32 t)
    unfolding commas32
    at_comma t = R.parts item32 Q sepc (λ a. sept) nil t

    tail : (t : List ℕ) → fork (bytes "x") x_joined by_comma t ≡ after (close Q.read) (tail32 true t)
    tail [] = sym (ap (after (close Q.read)) commas32_are.nil ∙ ap (mapped (closing [])) nil)
    tail (c ∷ t) = by (eqb c 120) (eqb→eq c 120)
      where
        by : (k : Bool) → (T k → c ≡ 120) → cond (k || false) (x_joined (c ∷ t)) (by_comma (c ∷ t)) ≡ after (close Q.read) (parts32 k (c ∷ t))
        by true f = subst (λ (z : ℕ). x_joined (z ∷ t) ≡ after (close Q.read) (xs32 (z ∷ t))) (sym (f tt)) (at_x t)
        by false f = at_comma (c ∷ t)

    each : (p : Answer ℤ) → after (λ a r. mapped (first a) (fork (bytes "x") x_joined by_comma r)) p ≡ after (close Q.read) (after (λ z r. mapped (more z) (tail32 true r)) p)
    each (got a r) = ap (mapped (first a)) (tail r) ∙ R.one_more item32 Q sepc (λ a. sept) nil a (tail32 true r)
    each (stuck r) = refl

    pub entry_list : (t : List ℕ) → after (λ a r. mapped (first a) (fork (bytes "x") x_joined by_comma r)) (num32.read t) ≡ after (close Q.read) (list32 true t)
    entry_list t = ap (after (λ a r. mapped (first a) (fork (bytes "x") x_joined by_comma r))) (num_is t) ∙ each (numeral (2 ^ 31) (2 ^ 31 + 1) t)
