-- The piece that reads a word of a table: as far as any word goes. A computed test of the table shows that each word is read.
use Rattle.std.specs.Prelude.{ℕ, Bool, true, false, cond, ◌&&◌, not, List, [], ◌∷◌, ◌++◌, ◌⊎◌, ◌≡◌, refl, T, eqb}
use Rattle.std.proofs.Common.{arith, inl, inr, subst, sym, ap, ◌∙◌, eqb→eq, T_not}
use Rattle.std.proofs.Math.Option.{Option, none, some}
use Rattle.std.proofs.Math.Dec.{eqb_refl}
use Rattle.grammar.specs.Tests.{and_left, and_right, every}
use Rattle.grammar.specs.Piece.{member, stops, heads, Answer, got, stuck, Alike, Good, Some, Piece}

pub record Entry (A : Type 0) : Type 0 where
  pub word : List ℕ
  pub value : A

infix 60 ◌↝◌
abbrev pub ◌↝◌ : {A : Type 0} → List ℕ → A → Entry A
w ↝ a = record { word = w; value = a }

-- what is left of a word after the byte c
abbrev pub rest_of : {A : Type 0} → ℕ → A → List ℕ → List (Entry A)
rest_of c a [] = []
rest_of c a (x ∷ w) = cond (eqb x c) ((w ↝ a) ∷ []) []

abbrev pub advance : {A : Type 0} → ℕ → List (Entry A) → List (Entry A)
advance c [] = []
advance c (e ∷ es) = rest_of c e.value e.word ++ advance c es

-- the value of the first word that is at its end
abbrev pub or_done : {A : Type 0} → A → Option A → List ℕ → Option A
or_done a o [] = some a
or_done a o (x ∷ w) = o

abbrev pub done : {A : Type 0} → List (Entry A) → Option A
done [] = none
done (e ∷ es) = or_done e.value (done es) e.word

abbrev pub settle : {A : Type 0} → Option A → List ℕ → Answer A
settle none r = stuck r
settle (some a) r = got a r

abbrev pub pick : {A : Type 0} → List ℕ → List (Entry A) → Answer A
pick [] es = settle (done es) []
pick (c ∷ t) es = elim (advance c es) [ [] ↦ settle (done es) (c ∷ t) | e ∷ fs ↦ pick t (e ∷ fs) ]

abbrev pub Among : {A : Type 0} → List (Entry A) → A → List ℕ → Type 0
Among [] a t = ⊥
Among (e ∷ es) a t = ((e.word ≡ t) × (e.value ≡ a)) ⊎ Among es a t

advance_out : {A : Type 0} (c : ℕ) (a : A) (t : List ℕ) (es : List (Entry A)) → Among (advance c es) a t → Among es a (c ∷ t)
advance_out c a t [] i = i
advance_out {A} c a t (e ∷ es) i = by e.word (advance_out c a t es) i
  where
    by : (w : List ℕ) → (Among (advance c es) a t → Among es a (c ∷ t)) → Among (rest_of c e.value w ++ advance c es) a t → ((w ≡ c ∷ t) × (e.value ≡ a)) ⊎ Among es a (c ∷ t)
    by [] f i = inr (f i)
    by (x ∷ w) f i = on (eqb x c) (eqb→eq x c) i
      where
        on : (k : Bool) → (T k → x ≡ c) → Among (cond k ((w ↝ e.value) ∷ []) [] ++ advance c es) a t → ((x ∷ w ≡ c ∷ t) × (e.value ≡ a)) ⊎ Among es a (c ∷ t)
        on true q (inl p) = let h = q tt in let g = p.0 in inl (cc, p.1)
        on true q (inr p) = inr (f p)
        on false q p = inr (f p)

advance_in : {A : Type 0} (c : ℕ) (a : A) (t : List ℕ) (es : List (Entry A)) → Among es a (c ∷ t) → Among (advance c es) a t
advance_in c a t [] i = i
advance_in {A} c a t (e ∷ es) i = by e.word (advance_in c a t es) i
  where
    by : (w : List ℕ) → (Among es a (c ∷ t) → Among (advance c es) a t) → ((w ≡ c ∷ t) × (e.value ≡ a)) ⊎ Among es a (c ∷ t) → Among (rest_of c e.value w ++ advance c es) a t
    by [] f (inl p) = let g = p.0 in let z : ◌≡◌ {A = ℕ} 0 1 = cc in absurd (omega arith)
    by [] f (inr p) = f p
    by (x ∷ w) f (inl p) = let g = p.0 in let q : x ≡ c = cc in let s : w ≡ t = cc in on (eqb x c) (rw q (eqb_refl c)) s
      where
        on : (k : Bool) → T k → w ≡ t → Among (cond k ((w ↝ e.value) ∷ []) [] ++ advance c es) a t
        on true h s = inl (s, p.1)
        on false h s = absurd h
    by (x ∷ w) f (inr p) = on (eqb x c)
      where
        on : (k : Bool) → Among (cond k ((w ↝ e.value) ∷ []) [] ++ advance c es) a t
        on true = inr (f p)
        on false = f p

done_out : {A : Type 0} (a : A) (es : List (Entry A)) → done es ≡ some a → Among es a []
done_out a [] e = let z : ◌≡◌ {A = ℕ} 0 1 = cc in absurd (omega arith)
done_out a (x ∷ es) e = by x.word (done_out a es) e
  where
    by : (w : List ℕ) → (done es ≡ some a → Among es a []) → or_done x.value (done es) w ≡ some a → ((w ≡ []) × (x.value ≡ a)) ⊎ Among es a []
    by [] f e = inl (refl, cc)
    by (y ∷ w) f e = inr (f e)

-- ── what is read, is a word, and could go on as far as it was read ──
module _ {A : Type 0} where
  abbrev onward : (es : List (Entry A)) (c : ℕ) (t : List ℕ) → List (Entry A) → Answer A
  onward es c t q = elim q [ [] ↦ settle (done es) (c ∷ t) | e ∷ fs ↦ pick t (e ∷ fs) ]

  -- at the end of what any word has
  ends : (es : List (Entry A)) → Some (Among es) → (r : List ℕ) → ((x : List ℕ) → Alike r x → pick x es ≡ settle (done es) x) →
      (o : Option A) → done es ≡ o → Good (Among es) (λ x. pick x es) r (settle o r)
  ends es s r l none e = record { text = []; split = refl; value = s.value; more = s.text; is = s.is; local = λ x al. l x al ∙ ap (λ (z : Option A). settle z x) e }
  ends es s r l (some a) e = record { text = []; is = done_out a es e; split = refl; local = λ x al. l x al ∙ ap (λ (z : Option A). settle z x) e }

  -- one byte more in front
  longer : (es fs : List (Entry A)) (c : ℕ) (t : List ℕ) → ((x : List ℕ) → pick (c ∷ x) es ≡ pick x fs) → ((a : A) (u : List ℕ) → Among fs a u → Among es a (c ∷ u)) →
      (p : Answer A) → Good (Among fs) (λ x. pick x fs) t p → Good (Among es) (λ x. pick x es) (c ∷ t) p
  longer es fs c t e to (got a r) g = record { text = c ∷ g.text; is = to a g.text g.is; split = ap (λ (z : List ℕ). c ∷ z) g.split; local = λ x al. e (g.text ++ x) ∙ g.local x al }
  longer es fs c t e to (stuck r) g = record {
    text = c ∷ g.text;
    split = ap (λ (z : List ℕ). c ∷ z) g.split;
    value = g.value;
    more = g.more;
    is = to g.value (g.text ++ g.more) g.is;
    local = λ x al. e (g.text ++ x) ∙ g.local x al;
  }

  alike_one : (c : ℕ) (t x : List ℕ) (es : List (Entry A)) → advance c es ≡ [] → Alike (c ∷ t) x → pick x es ≡ settle (done es) x
  alike_one c t [] es e al = absurd al
  alike_one c t (d ∷ x) es e al = ap (λ (z : ℕ). onward es d x (advance z es)) (sym al) ∙ ap (onward es d x) e

  pub pick_good : (t : List ℕ) (es : List (Entry A)) → Some (Among es) → Good (Among es) (λ x. pick x es) t (pick t es)
  pick_good [] es s = ends es s [] (λ x al. absurd al) (done es) refl
  pick_good (c ∷ t) es s = by (advance c es) refl (λ e fs q. pick_good t (e ∷ fs) q)
    where
      by : (q : List (Entry A)) → advance c es ≡ q → ((e : Entry A) (fs : List (Entry A)) → Some (Among (e ∷ fs)) → Good (Among (e ∷ fs)) (λ x. pick x (e ∷ fs)) t (pick t (e ∷ fs))) →
          Good (Among es) (λ x. pick x es) (c ∷ t) (onward es c t q)
      by [] e ih = ends es s (c ∷ t) (λ x al. alike_one c t x es e al) (done es) refl
      by (f ∷ fs) e ih = longer es (f ∷ fs) c t (λ x. ap (onward es c x) e)
          (λ a u i. advance_out c a u es (subst (λ (z : List (Entry A)). Among z a u) (sym e) i))
          (pick t (f ∷ fs)) (ih f fs (record { value = f.value; text = f.word; is = inl (refl, refl) }))

-- ── each word is read: none ends like another, or goes on with a byte that is not in its set ──
module _ {A : Type 0} (X : List ℕ) (a : A) where
  abbrev pub Lone : List ℕ → List ℕ → A → Type 0
  Lone [] [] v = (v ≡ a)
  Lone [] (c ∷ w) v = T (member c X)
  Lone (x ∷ u) [] v = Unit {0}
  Lone (x ∷ u) (y ∷ w) v = T (eqb y x) → Lone u w v

  abbrev pub Sole : List ℕ → List (Entry A) → Type 0
  Sole u [] = Unit {0}
  Sole u (e ∷ es) = Lone u e.word e.value × Sole u es

  sole_advance : (c : ℕ) (u : List ℕ) (es : List (Entry A)) → Sole (c ∷ u) es → Sole u (advance c es)
  sole_advance c u [] s = tt
  sole_advance c u (e ∷ es) s = by e.word s.0 (sole_advance c u es s.1)
    where
      by : (w : List ℕ) → Lone (c ∷ u) w e.value → Sole u (advance c es) → Sole u (rest_of c e.value w ++ advance c es)
      by [] l s = s
      by (y ∷ w) l s = on (eqb y c) l
        where
          on : (k : Bool) → (T k → Lone u w e.value) → Sole u (cond k ((w ↝ e.value) ∷ []) [] ++ advance c es)
          on true f = (f tt, s)
          on false f = s

  done_in : (es : List (Entry A)) → Among es a [] → Sole [] es → done es ≡ some a
  done_in [] i s = absurd i
  done_in (e ∷ es) i s = by e.word i s.0 (λ j. done_in es j s.1)
    where
      by : (w : List ℕ) → ((w ≡ []) × (e.value ≡ a)) ⊎ Among es a [] → Lone [] w e.value → (Among es a [] → done es ≡ some a) → or_done e.value (done es) w ≡ some a
      by [] i l f = ap some l
      by (x ∷ w) (inl p) l f = let q = p.0 in let z : ◌≡◌ {A = ℕ} 0 1 = cc in absurd (omega arith)
      by (x ∷ w) (inr p) l f = f p

  advance_none : (d : ℕ) (es : List (Entry A)) → T (not (member d X)) → Sole [] es → advance d es ≡ []
  advance_none d [] h s = refl
  advance_none d (e ∷ es) h s = by e.word s.0 (advance_none d es h s.1)
    where
      by : (w : List ℕ) → Lone [] w e.value → advance d es ≡ [] → rest_of d e.value w ++ advance d es ≡ []
      by [] l f = f
      by (c ∷ w) l f = on (eqb c d) (λ k. T_not (member d X) h (subst (λ (z : ℕ). T (member z X)) (eqb→eq c d k) l))
        where
          on : (k : Bool) → (T k → ⊥) → cond k ((w ↝ e.value) ∷ []) [] ++ advance d es ≡ []
          on true g = absurd (g tt)
          on false g = f

  pub pick_complete : (u r : List ℕ) (es : List (Entry A)) → Among es a u → Sole u es → T (stops X r) → pick (u ++ r) es ≡ got a r
  pick_complete [] [] es i s h = ap (λ (z : Option A). settle z []) (done_in es i s)
  pick_complete [] (d ∷ r) es i s h = ap (onward es d r) (advance_none d es h s) ∙ ap (λ (z : Option A). settle z (d ∷ r)) (done_in es i s)
  pick_complete (c ∷ u) r es i s h = onto (advance c es) (advance_in c a u es i) ∙ pick_complete u r (advance c es) (advance_in c a u es i) (sole_advance c u es s) h
    where
      onto : (q : List (Entry A)) → Among q a u → onward es c (u ++ r) q ≡ pick (u ++ r) q
      onto [] i = absurd i
      onto (e ∷ fs) i = refl

-- the computed test of a table
abbrev pub fits : List ℕ → List ℕ → List ℕ → List ℕ → Bool
fits X Y [] [] = false
fits X Y [] (c ∷ w) = member c X
fits X Y (c ∷ u) [] = member c Y
fits X Y (x ∷ u) (y ∷ w) = cond (eqb x y) (fits X Y u w) true

abbrev pub pairs : {A : Type 0} → (A → List ℕ) → List (Entry A) → Bool
pairs E [] = true
pairs E (e ∷ es) = every (λ f. fits (E e.value) (E f.value) e.word f.word) es && pairs E es

module _ {A : Type 0} (X Y : List ℕ) (a v : A) where
  fits_left : (u w : List ℕ) → T (fits X Y u w) → Lone X a u w v
  fits_left [] [] h = absurd h
  fits_left [] (c ∷ w) h = h
  fits_left (x ∷ u) [] h = tt
  fits_left (x ∷ u) (y ∷ w) h = λ k. fits_left u w (by (eqb x y) (subst (λ (z : ℕ). T (eqb z y)) (eqb→eq y x k) (eqb_refl y)) h)
    where
      by : (k : Bool) → T k → T (cond k (fits X Y u w) true) → T (fits X Y u w)
      by true t h = h
      by false t h = absurd t

  fits_right : (w u : List ℕ) → T (fits X Y w u) → Lone Y a u w v
  fits_right [] [] h = absurd h
  fits_right (c ∷ w) [] h = h
  fits_right [] (x ∷ u) h = tt
  fits_right (y ∷ w) (x ∷ u) h = λ k. fits_right w u (by (eqb y x) k h)
    where
      by : (k : Bool) → T k → T (cond k (fits X Y w u) true) → T (fits X Y w u)
      by true t h = h
      by false t h = absurd t

lone_self : {A : Type 0} (X u : List ℕ) (a v : A) → v ≡ a → Lone X a u u v
lone_self X [] a v e = e
lone_self X (x ∷ u) a v e = λ k. lone_self X u a v e

module _ {A : Type 0} (E : A → List ℕ) (F : List ℕ) (es : List (Entry A)) where
  pub among_every : (f : Entry A → Bool) (fs : List (Entry A)) (a : A) (u : List ℕ) → T (every f fs) → Among fs a u → T (f (u ↝ a))
  among_every f [] a u h i = absurd i
  among_every f (e ∷ fs) a u h (inl p) = subst (λ (z : Entry A). T (f z)) (λ i. record { word = p.0 i; value = p.1 i }) (and_left (f e) (every f fs) h)
  among_every f (e ∷ fs) a u h (inr p) = among_every f fs a u (and_right (f e) (every f fs) h) p

  others : (e : Entry A) (fs : List (Entry A)) → T (every (λ f. fits (E e.value) (E f.value) e.word f.word) fs) → Sole (E e.value) e.value e.word fs
  others e [] h = tt
  others e (f ∷ fs) h = (
    fits_left (E e.value) (E f.value) e.value f.value e.word f.word
        (and_left (fits (E e.value) (E f.value) e.word f.word) (every (λ f. fits (E e.value) (E f.value) e.word f.word) fs) h),
    others e fs (and_right (fits (E e.value) (E f.value) e.word f.word) (every (λ f. fits (E e.value) (E f.value) e.word f.word) fs) h),
  )

  pub sole : (fs : List (Entry A)) (a : A) (u : List ℕ) → T (pairs E fs) → Among fs a u → Sole (E a) a u fs
  sole [] a u h i = absurd i
  sole (e ∷ fs) a u h (inl p) =
      subst (λ (z : Entry A). Sole (E z.value) z.value z.word (e ∷ fs)) (λ i. record { word = p.0 i; value = p.1 i })
      (lone_self (E e.value) e.word e.value e.value refl, others e fs (and_left (every (λ f. fits (E e.value) (E f.value) e.word f.word) fs) (pairs E fs) h))
  sole (e ∷ fs) a u h (inr p) = (
    fits_right (E e.value) (E a) a e.value e.word u (among_every (λ f. fits (E e.value) (E f.value) e.word f.word) fs a u
        (and_left (every (λ f. fits (E e.value) (E f.value) e.word f.word) fs) (pairs E fs) h) p),
    sole fs a u (and_right (every (λ f. fits (E e.value) (E f.value) e.word f.word) fs) (pairs E fs) h) p,
  )

  abbrev pub filled : List (Entry A) → Bool
  filled [] = false
  filled (e ∷ fs) = true

  pub any : (fs : List (Entry A)) → T (filled fs) → Some (Among fs)
  any [] h = absurd h
  any (e ∷ fs) h = record { value = e.value; text = e.word; is = inl (refl, refl) }

  -- E: after which word which bytes may go on; F: the first bytes
  abbrev pub sound_table : Bool
  sound_table = filled es && (every (λ e. heads false F e.word) es && pairs E es)

  abbrev pub table : T sound_table → Piece false F A E
  table h =
      let a1 = and_left (filled es) (every (λ e. heads false F e.word) es && pairs E es) h in
      let a2 = and_right (filled es) (every (λ e. heads false F e.word) es && pairs E es) h in
      let a3 = and_left (every (λ e. heads false F e.word) es) (pairs E es) a2 in
      let a4 = and_right (every (λ e. heads false F e.word) es) (pairs E es) a2 in
      record {
        In = Among es;
        read = λ x. pick x es;
        good = λ t. pick_good t es (any es a1);
        complete = λ a u r i s. pick_complete (E a) a u r es i (sole es a u a4 i) s;
        leads = λ a u i. among_every (λ e. heads false F e.word) es a u a3 i;
        some = any es a1;
      }
