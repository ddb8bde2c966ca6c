-- Values by their syntax: a text spells a value if it is the text of a well-formed piece of syntax with that meaning.
-- Tables and rows of pieces in these words.
use Rattle.std.specs.Prelude.{ℕ, zero, suc, ◌<◌, Bool, true, false, ◌&&◌, ◌||◌, List, [], ◌∷◌, ◌++◌, ◌⊎◌, ◌≡◌, refl, T, eqb, ltb, length}
use Rattle.std.proofs.Common.{arith, not-suc-le-zero, inl, inr, ap, ◌∙◌, ltb→lt, lt→ltb}
use mathlib.Core.List as L
use Rattle.std.proofs.Math.Dec.{eqb_refl}
use Rattle.meaning.specs.Strict.{◌⊕◌, nth}
use Rattle.meaning.specs.Meant.{each_of}
use Rattle.grammar.specs.Tests.{and_left, and_right, and_in}
use Rattle.grammar.specs.Piece.{apart, Piece}
use Rattle.grammar.specs.Join.{bind, restate}
use Rattle.grammar.specs.Until.{Row}
use Rattle.grammar.specs.Table.{table, ◌↝◌, Entry, Among, sound_table}

pub record Spelt {S A : Type 0} (ok : S → Bool) (text : S → List ℕ) (mean : S → A) (a : A) (t : List ℕ) : Type 0 where
  pub form : S
  pub fine : T (ok form)
  pub spells : text form ≡ t
  pub says : mean form ≡ a

abbrev pub always : {S : Type 0} → S → Bool
always s = true

-- ── tables ──
abbrev pub listed : {S A : Type 0} → (S → List ℕ) → (S → A) → List S → List (Entry A)
listed f g [] = []
listed f g (x ∷ xs) = (f x ↝ g x) ∷ listed f g xs

abbrev pub Mem : {S : Type 0} → S → List S → Type 0
Mem s [] = ⊥
Mem s (x ∷ xs) = (x ≡ s) ⊎ Mem s xs

module _ {S A : Type 0} (f : S → List ℕ) (g : S → A) where
  pub listed_to : (xs : List S) (a : A) (t : List ℕ) → Among (listed f g xs) a t → Spelt always f g a t
  listed_to [] a t i = absurd i
  listed_to (x ∷ xs) a t (inl p) = record { form = x; fine = tt; spells = p.0; says = p.1 }
  listed_to (x ∷ xs) a t (inr p) = listed_to xs a t p

  pub listed_from : (xs : List S) (s : S) → Mem s xs → (a : A) (t : List ℕ) → f s ≡ t → g s ≡ a → Among (listed f g xs) a t
  listed_from [] s m a t p q = absurd m
  listed_from (x ∷ xs) s (inl e) a t p q = inl (ap f e ∙ p, ap g e ∙ q)
  listed_from (x ∷ xs) s (inr m) a t p q = inr (listed_from xs s m a t p q)

abbrev pub two : List Bool
two = false ∷ true ∷ []

pub in_two : (b : Bool) → Mem b two
in_two false = inl refl
in_two true = inr (inl refl)

pub among_left : {A : Type 0} (xs ys : List (Entry A)) (a : A) (t : List ℕ) → Among xs a t → Among (xs ++ ys) a t
among_left [] ys a t i = absurd i
among_left (x ∷ xs) ys a t (inl i) = inl i
among_left (x ∷ xs) ys a t (inr i) = inr (among_left xs ys a t i)

pub among_right : {A : Type 0} (xs ys : List (Entry A)) (a : A) (t : List ℕ) → Among ys a t → Among (xs ++ ys) a t
among_right [] ys a t i = i
among_right (x ∷ xs) ys a t i = inr (among_right xs ys a t i)

pub among_split : {A : Type 0} (xs ys : List (Entry A)) (a : A) (t : List ℕ) → Among (xs ++ ys) a t → Among xs a t ⊎ Among ys a t
among_split [] ys a t i = inr i
among_split (x ∷ xs) ys a t (inl i) = inl (inl i)
among_split (x ∷ xs) ys a t (inr i) = by (among_split xs ys a t i)
  where
    by : Among xs a t ⊎ Among ys a t → Among (x ∷ xs) a t ⊎ Among ys a t
    by (inl i) = inl (inr i)
    by (inr i) = inr i

-- names by their place in two lists
abbrev pub zipped : {S A : Type 0} → (S → A) → List (List ℕ) → List S → List (Entry A)
zipped g [] vs = []
zipped g (w ∷ ws) [] = []
zipped g (w ∷ ws) (v ∷ vs) = (w ↝ g v) ∷ zipped g ws vs

module _ {S A : Type 0} (g : S → A) (d : S) where
  pub record Placed (ws : List (List ℕ)) (vs : List S) (a : A) (t : List ℕ) : Type 0 where
    pub index : ℕ
    pub inside : T (ltb index (length ws))
    pub word : nth [] ws index ≡ t
    pub value : g (nth d vs index) ≡ a

  pub zipped_to : (ws : List (List ℕ)) (vs : List S) (a : A) (t : List ℕ) → Among (zipped g ws vs) a t → Placed ws vs a t
  zipped_to [] vs a t i = absurd i
  zipped_to (w ∷ ws) [] a t i = absurd i
  zipped_to (w ∷ ws) (v ∷ vs) a t (inl p) = record { index = 0; inside = lt→ltb 0 (suc (length ws)) (omega arith); word = p.0; value = p.1 }
  zipped_to (w ∷ ws) (v ∷ vs) a t (inr p) = let q = zipped_to ws vs a t p in
      record { index = suc q.index; inside = (let h = ltb→lt q.index (length ws) q.inside in lt→ltb (suc q.index) (suc (length ws)) (omega arith)); word = q.word; value = q.value }

  pub zipped_from : (ws : List (List ℕ)) (vs : List S) → length ws ≡ length vs → (i : ℕ) → i < length ws → (a : A) (t : List ℕ) → nth [] ws i ≡ t → g (nth d vs i) ≡ a → Among (zipped g ws vs) a t
  zipped_from [] vs e i h a t p q = absurd (not-suc-le-zero h)
  zipped_from (w ∷ ws) [] e i h a t p q = let f : ⊥ = omega arith in absurd f
  zipped_from (w ∷ ws) (v ∷ vs) e zero h a t p q = inl (p, q)
  zipped_from (w ∷ ws) (v ∷ vs) e (suc i) h a t p q = inr (zipped_from ws vs (omega arith) i (omega arith) a t p q)

-- ── one word, or a word and then something ──
abbrev pub quiet : {A : Type 0} → A → List ℕ
quiet a = []

-- a piece, and then a fixed text
module _ {F : List ℕ} {A : Type 0} {E : A → List ℕ} (P : Piece false F A E) (c : ℕ) (w : List ℕ) (sep : (a : A) → T (apart (c ∷ []) (E a)))
    {S : Type 0} (ok : S → Bool) (text : S → List ℕ) (mean : S → A)
    (to : (a : A) (t : List ℕ) → P.In a t → Spelt ok text mean a t) (from : (a : A) (t : List ℕ) → Spelt ok text mean a t → P.In a t) where
  pub single : (a : A) → T (sound_table {A = A} quiet (c ∷ []) (((c ∷ w) ↝ a) ∷ []))
  single a = by (eqb c c) (eqb_refl c)
    where
      by : (k : Bool) → T k → T (((k || false) && true) && true)
      by true h = tt
      by false h = absurd h

  abbrev pub followed : Piece false F A quiet
  followed = bind P (λ a. false) (λ a. c ∷ []) (λ a. table quiet (c ∷ []) (((c ∷ w) ↝ a) ∷ []) (single a)) sep (λ a b. absurd)

  pub followed_to : (a : A) (t : List ℕ) → followed.In a t → Spelt ok (λ s. text s ⊕ (c ∷ w)) mean a t
  followed_to a t i = by i.next
    where
      s : Spelt ok text mean i.value i.front
      s = to i.value i.front i.is

      by : ((c ∷ w ≡ i.back) × (i.value ≡ a)) ⊎ ⊥ → Spelt ok (λ s. text s ⊕ (c ∷ w)) mean a t
      by (inl p) = record { form = s.form; fine = s.fine; spells = (λ j. (s.spells j) ++ (p.0 j)) ∙ i.split; says = s.says ∙ p.1 }
      by (inr p) = absurd p

  pub followed_from : (a : A) (t : List ℕ) → Spelt ok (λ s. text s ⊕ (c ∷ w)) mean a t → followed.In a t
  followed_from a t s = record {
    value = a;
    front = text s.form;
    back = c ∷ w;
    is = from a (text s.form) (record { form = s.form; fine = s.fine; spells = refl; says = s.says });
    next = inl (refl, refl);
    split = s.spells;
  }

  abbrev pub ending : Piece false F A quiet
  ending = restate followed (Spelt ok (λ s. text s ⊕ (c ∷ w)) mean) followed_to followed_from

-- ── rows ──
abbrev pub texts : {S : Type 0} → (S → List ℕ) → List S → List ℕ → List ℕ
texts f [] s = s
texts f (x ∷ xs) s = f x ⊕ texts f xs s

module _ {S A B : Type 0} (ok : S → Bool) (text : S → List ℕ) (mean : S → A) where
  pub record Rows (End : B → List ℕ → Type 0) (vs : List A) (b : B) (t : List ℕ) : Type 0 where
    pub forms : List S
    pub fine : T (each_of ok forms)
    pub says : L.map mean forms ≡ vs
    pub rest : List ℕ
    pub end : End b rest
    pub split : texts text forms rest ≡ t

  module _ (In : A → List ℕ → Type 0) (End : B → List ℕ → Type 0) where
    pub rows_to : ((a : A) (t : List ℕ) → In a t → Spelt ok text mean a t) → (vs : List A) (b : B) (t : List ℕ) → Row In End vs b t → Rows End vs b t
    rows_to to [] b t i = record { forms = []; fine = tt; says = refl; rest = t; end = i; split = refl }
    rows_to to (v ∷ vs) b t i =
        let s = to i.value i.front i.is in
        let r = rows_to to vs b i.back i.next.1 in
        record {
          forms = s.form ∷ r.forms;
          fine = and_in (ok s.form) (each_of ok r.forms) s.fine r.fine;
          says = (λ j. (s.says ∙ i.next.0) j ∷ (r.says j));
          rest = r.rest;
          end = r.end;
          split = (λ j. (s.spells j) ++ (r.split j)) ∙ i.split;
        }

    pub rows_from : ((a : A) (t : List ℕ) → Spelt ok text mean a t → In a t) → (xs : List S) (b : B) (s : List ℕ) → T (each_of ok xs) → End b s →
        Row In End (L.map mean xs) b (texts text xs s)
    rows_from from [] b s h e = e
    rows_from from (x ∷ xs) b s h e = record {
      value = mean x;
      front = text x;
      back = texts text xs s;
      is = from (mean x) (text x) (record { form = x; fine = and_left (ok x) (each_of ok xs) h; spells = refl; says = refl });
      next = (refl, rows_from from xs b s (and_right (ok x) (each_of ok xs) h) e);
      split = refl;
    }
