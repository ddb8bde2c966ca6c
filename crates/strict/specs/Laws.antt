-- The laws of the kinds of lists, which their impls name: each is told by its items, and its fuel is enough. Its pieces, as the code reads
-- them: numerals, dimensions, items, each by its first byte.
use Prim.Native.Nat.{ℕ, zero, suc, ◌+◌, ◌-◌, ◌^◌, ◌≤◌, ◌<◌}
use mathlib.Core.Bool.{Bool, true, false, cond, ◌||◌}
use mathlib.Core.List.{List, [], ◌∷◌, ◌++◌}
use mathlib.Core.Path.{◌≡◌, refl, sym, subst, ap, ◌∙◌}
use lib.Dec.{T, eqb, eqb→eq}
use lib.IntN.{ℤ, pos, negsuc}
use lib.ListN.{drop, length}
use Rattle.lexis.specs.Text.{bytes}
use Rattle.meaning.specs.Decimal.{decimal, in32, in64, dim, size}
use Rattle.grammar.specs.Piece.{Answer, got, stuck, member, Piece, Good}
use Rattle.grammar.specs.Join.{mapped, after}
use Rattle.grammar.specs.Table.{pick, ◌↝◌}
use Rattle.grammar.specs.Number as N
use Rattle.grammar.proofs.Number as NP
use Rattle.grammar.specs.Number.{digits_after}
use Rattle.grammar.specs.Several.{same, figs?}
use Rattle.grammar.proofs.Several.{num32, dim64, item, x32, dimx}
use Rattle.strict.specs.Cursor as C
use Rattle.strict.specs.Rows.{listed, Parts, behind, rows, commas32, xs32, commas64, dims64, dim_x}
use Rattle.strict.specs.Words.{among}
use native.Mathlib.Omega.{arith}
use native.Mathlib.Nat.{not-suc-le-zero}
use Rattle.grammar.specs.Until.{shorter}
use Rattle.strict.specs.Rows.{more, run}

-- ── the equation of a list ──
module _ {F : List ℕ} {E : ℤ → List ℕ} (P : Piece false F ℤ E) where
  -- an item is not empty
  pub less : (t r : List ℕ) (a : ℤ) → P.read t ≡ got a r → length r < length t
  less t r a e = shorter P t r a (subst (Good P.In P.read t) e (P.good t))

  abbrev pub going : ℕ → Answer ℤ → Answer (List ℤ)
  going k p = after (λ z r. mapped (more z) (run P k r)) p

  abbrev onto : Answer ℤ → Answer (List ℤ)
  onto p = after (λ z r. mapped (more z) (rows P r)) p

  step : (k m : ℕ) (t : List ℕ) (p : Answer ℤ) → Good P.In P.read t p → ((r : List ℕ) → length r < length t → run P k r ≡ run P m r) → going k p ≡ going m p
  step k m t (got a r) g h = ap (mapped (more a)) (h r (shorter P t r a g))
  step k m t (stuck r) g h = refl

  enough : (k m : ℕ) (t : List ℕ) → length t < k → length t < m → run P k t ≡ run P m t
  enough zero m t h g = absurd (not-suc-le-zero h)
  enough (suc k) zero t h g = absurd (not-suc-le-zero g)
  enough (suc k) (suc m) [] h g = refl
  enough (suc k) (suc m) (c ∷ t) h g = ap (λ (z : Answer (List ℤ)). cond (member c F) z (got [] (c ∷ t)))
      (step k m (c ∷ t) (P.read (c ∷ t)) (P.good (c ∷ t)) (λ r q. enough k m r (omega arith) (omega arith)))

  last_step : (k : ℕ) (t : List ℕ) (p : Answer ℤ) → Good P.In P.read t p → length t ≤ k → going k p ≡ onto p
  last_step k t (got a r) g h = let q = shorter P t r a g in ap (mapped (more a)) (enough k (suc (length r)) r (omega arith) (omega arith))
  last_step k t (stuck r) g h = refl

  -- the equation
  pub turn : (c : ℕ) (t : List ℕ) → rows P (c ∷ t) ≡ cond (member c F) (onto (P.read (c ∷ t))) (got [] (c ∷ t))
  turn c t = ap (λ (z : Answer (List ℤ)). cond (member c F) z (got [] (c ∷ t))) (last_step (suc (length t)) (c ∷ t) (P.read (c ∷ t)) (P.good (c ∷ t)) (omega arith))

pick_done : {A : Type 0} (a : A) (t : List ℕ) → pick t (([] ↝ a) ∷ []) ≡ got a t
pick_done a [] = refl
pick_done a (c ∷ t) = refl

minus_is : (n : ℕ) → N.minus n ≡ C.minus n
minus_is zero = refl
minus_is (suc n) = refl

mapped_minus : (p : Answer ℕ) → mapped N.minus p ≡ mapped C.minus p
mapped_minus (got n r) = ap (λ (z : ℤ). got z r) (minus_is n)
mapped_minus (stuck r) = refl

-- ── a numeral ──
module _ (p q : ℕ) (wide : T (lib.Dec.ltb 9 p)) (wide' : T (lib.Dec.ltb 9 (suc q))) where
  number_is : (t : List ℕ) → (NP.number p q wide wide').read t ≡ C.numeral p (suc q) t
  number_is [] = refl
  number_is (c ∷ t) = by (eqb c 45) (eqb→eq c 45)
    where
      neg : List ℕ → Answer ℤ
      neg x = after (λ (u : Unit {0}) r. mapped N.minus (N.magnitude (suc q) r)) (pick x ((bytes "-" ↝ tt) ∷ []))

      zer : List ℕ → Answer ℤ
      zer x = pick x ((bytes "0" ↝ pos 0) ∷ [])

      plain : Answer ℤ
      plain = mapped pos (N.magnitude p (c ∷ t))

      at_zero : (k : Bool) → (T k → c ≡ 48) → cond (k || false) (zer (c ∷ t)) plain ≡ cond k (got (pos 0) t) plain
      at_zero true f = ap (λ (z : ℕ). zer (z ∷ t)) (f tt) ∙ pick_done (pos 0) t
      at_zero false f = refl

      by : (k : Bool) → (T k → c ≡ 45) → cond (k || false) (neg (c ∷ t)) (cond (eqb c 48 || false) (zer (c ∷ t)) plain)
          ≡ cond k (mapped C.minus (N.magnitude (suc q) t)) (cond (eqb c 48) (got (pos 0) t) plain)
      by true f = ap (λ (z : ℕ). neg (z ∷ t)) (f tt) ∙ ap (after (λ (u : Unit {0}) r. mapped N.minus (N.magnitude (suc q) r))) (pick_done tt t) ∙ mapped_minus (N.magnitude (suc q) t)
      by false f = at_zero (eqb c 48) (eqb→eq c 48)

pub num_is : (t : List ℕ) → num32.read t ≡ C.numeral (2 ^ 31) (2 ^ 31 + 1) t
num_is t = number_is (2 ^ 31) (2 ^ 31) tt tt t

pub dim_is : (t : List ℕ) → dim64.read t ≡ C.dimension t
dim_is [] = refl
dim_is (c ∷ t) = by (eqb c 63) (eqb→eq c 63)
  where
    free : List ℕ → Answer ℤ
    free x = pick x ((bytes "?" ↝ negsuc (2 ^ 63 - 1)) ∷ [])

    by : (k : Bool) → (T k → c ≡ 63) → cond (k || false) (free (c ∷ t)) ((NP.number (2 ^ 63) (2 ^ 63 - 1) tt tt).read (c ∷ t)) ≡ cond k (got (negsuc (2 ^ 63 - 1)) t) (C.numeral (2 ^ 63) (2 ^ 63) (c ∷ t))
    by true f = ap (λ (z : ℕ). free (z ∷ t)) (f tt) ∙ pick_done (negsuc (2 ^ 63 - 1)) t
    by false f = number_is (2 ^ 63) (2 ^ 63 - 1) tt tt (c ∷ t)

-- ── items ──
-- an entry of 32 bits after a comma, and a dimension after one
abbrev pub item32 : Piece false (bytes ",") ℤ digits_after
item32 = item num32 tt in32 decimal same (λ a t i. i) (λ a t i. i)

abbrev pub item64 : Piece false (bytes ",") ℤ digits_after
item64 = item dim64 tt in64 dim size (λ a t i. i) (λ a t i. i)

-- a comma was read
space_is : (t : List ℕ) → pick t (([] ↝ tt {0}) ∷ (bytes " " ↝ tt) ∷ []) ≡ got tt (C.skip t)
space_is [] = refl
space_is (c ∷ t) = by (eqb 32 c)
  where
    by : (k : Bool) → ◌≡◌ {A = Answer (Unit {0})} (elim (cond k (([] ↝ tt {0}) ∷ []) [] ++ []) as (λ _. Answer (Unit {0})) [ [] ↦ got tt (c ∷ t) | e ∷ fs ↦ pick t (e ∷ fs) ]) (got tt (cond k t (c ∷ t)))
    by true = pick_done tt t
    by false = refl

module _ {F : List ℕ} {E : ℤ → List ℕ} (P : Piece false F ℤ E) where
  abbrev goes_if : ℕ → List ℕ → Bool → Answer (List ℤ)
  goes_if c t k = cond k (listed (rows P) (P.read (c ∷ t))) (got [] (c ∷ t))

  of : (g : List ℕ → Answer ℤ) → ((c : ℕ) (t : List ℕ) → member c F ≡ true → P.read (c ∷ t) ≡ g (c ∷ t)) → Parts (rows P) F g
  of g r = record {
    nil = refl;
    off = λ c t h. turn P c t ∙ ap (goes_if c t) h;
    on = λ c t h. turn P c t ∙ ap (goes_if c t) h ∙ ap (listed (rows P)) (r c t h);
    shorter = λ c t u z h e. less P (c ∷ t) u z (r c t h ∙ e);
  }

-- behind a separator
module _ (d : ℕ) (f g : List ℕ → Answer ℤ) where
  by_sep : ((t : List ℕ) → f (d ∷ t) ≡ g (d ∷ t)) → (c : ℕ) (t : List ℕ) → member c (d ∷ []) ≡ true → f (c ∷ t) ≡ g (c ∷ t)
  by_sep h c t = by (eqb c d) (eqb→eq c d)
    where
      by : (k : Bool) → (T k → c ≡ d) → k || false ≡ true → f (c ∷ t) ≡ g (c ∷ t)
      by true e m = subst (λ (z : ℕ). f (z ∷ t) ≡ g (z ∷ t)) (sym (e tt)) (h t)
      by false e m = let z : T false = subst T (sym m) tt in absurd z

pub commas32_are : Parts commas32 (44 ∷ []) (λ t. C.numeral (2 ^ 31) (2 ^ 31 + 1) (behind t))
unfolding commas32
commas32_are = of item32 _ (by_sep 44 item32.read (λ t. C.numeral (2 ^ 31) (2 ^ 31 + 1) (behind t)) (λ t. ap (after (λ (u : Unit {0}). num32.read)) (space_is t) ∙ num_is (C.skip t)))

pub xs32_are : Parts xs32 (120 ∷ []) (λ t. C.numeral (2 ^ 31) (2 ^ 31 + 1) (drop 1 t))
unfolding xs32
xs32_are = of x32 _ (by_sep 120 x32.read (λ t. C.numeral (2 ^ 31) (2 ^ 31 + 1) (drop 1 t)) (λ t. ap (after (λ (u : Unit {0}). num32.read)) (pick_done tt t) ∙ num_is t))

pub commas64_are : Parts commas64 (44 ∷ []) (λ t. C.dimension (behind t))
unfolding commas64
commas64_are = of item64 _ (by_sep 44 item64.read (λ t. C.dimension (behind t)) (λ t. ap (after (λ (u : Unit {0}). dim64.read)) (space_is t) ∙ dim_is (C.skip t)))

-- ── a dimension and an `x` ──
dimx_is : (t : List ℕ) → dimx.read t ≡ dim_x t
unfolding among
dimx_is t = ap (after (λ (z : ℤ) r. pick r ((bytes "x" ↝ z) ∷ []))) (dim_is t)

pub dims64_are : Parts dims64 figs? dim_x
unfolding dims64
dims64_are = of dimx dim_x (λ c t m. dimx_is (c ∷ t))
