-- Items one after the other: a list with its end is its items, then its end.
use Prim.Native.Nat.{ℕ, zero, suc}
use mathlib.Core.Bool.{Bool, true, false, cond}
use mathlib.Core.List.{List, [], ◌∷◌, ◌++◌}
use mathlib.Core.Path.{◌≡◌, refl, sym, ap, ◌∙◌}
use lib.Dec.{T}
use lib.IntN.{ℤ}
use lib.ListN.{length}
use Rattle.grammar.specs.Piece.{member, apart, Answer, got, stuck, Piece}
use Rattle.grammar.specs.Join.{mapped, after}
use Rattle.grammar.specs.Until.{Ended, first, ended, loop, until_read}
use Rattle.strict.specs.Rows.{more, run, rows}
use Rattle.strict.specs.Laws.{going}

module _ {F : List ℕ} {E : ℤ → List ℕ} (P : Piece false F ℤ E) where
  -- ── with its end ──
  module _ {G : List ℕ} {B : Type 0} {E' : B → List ℕ} (Q : Piece false G B E') (sep : T (apart G F)) (fol : (a : ℤ) → T (apart (F ++ G) (E a))) (nil : Q.read [] ≡ stuck []) where
    abbrev pub closing : List ℤ → B → Ended ℤ B
    closing zs b = record { items = zs; last = b }

    abbrev pub close : List ℤ → List ℕ → Answer (Ended ℤ B)
    close zs x = mapped (closing zs) (Q.read x)

    pub one_more : (a : ℤ) (p : Answer (List ℤ)) → mapped (first a) (after close p) ≡ after close (mapped (more a) p)
    one_more a (got zs x) = by (Q.read x)
      where
        by : (q : Answer B) → mapped (first a) (mapped (closing zs) q) ≡ mapped (closing (more a zs)) q
        by (got b r) = refl
        by (stuck r) = refl
    one_more a (stuck x) = refl

    each : (k : ℕ) (p : Answer ℤ) → ((r : List ℕ) → loop P Q sep fol k r ≡ after close (run P k r)) → after (λ a r. mapped (first a) (loop P Q sep fol k r)) p ≡ after close (going P k p)
    each k (got a r) h = ap (mapped (first a)) (h r) ∙ one_more a (run P k r)
    each k (stuck r) h = refl

    all : (k : ℕ) (t : List ℕ) → loop P Q sep fol k t ≡ after close (run P k t)
    all zero t = refl
    all (suc k) [] = sym (ap (mapped (closing [])) nil)
    all (suc k) (c ∷ t) = by (member c F) (each k (P.read (c ∷ t)) (all k))
      where
        by : (b : Bool) → after (λ a r. mapped (first a) (loop P Q sep fol k r)) (P.read (c ∷ t)) ≡ after close (going P k (P.read (c ∷ t))) →
            cond b (after (λ a r. mapped (first a) (loop P Q sep fol k r)) (P.read (c ∷ t))) (mapped ended (Q.read (c ∷ t))) ≡ after close (cond b (going P k (P.read (c ∷ t))) (got [] (c ∷ t)))
        by true e = e
        by false e = refl

    pub parts : (t : List ℕ) → until_read P Q sep fol t ≡ after close (rows P t)
    parts t = all (suc (length t)) t

    -- and a first entry before them
    pub list : (p : Answer ℤ) → after (λ a r. mapped (first a) (until_read P Q sep fol r)) p ≡ after close (after (λ z r. mapped (more z) (rows P r)) p)
    list (got a r) = ap (mapped (first a)) (parts r) ∙ one_more a (rows P r)
    list (stuck r) = refl
