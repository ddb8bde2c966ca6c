-- Pieces with a syntax: one after the other, other values, other syntax, the words of a finite syntax.
use Rattle.std.specs.Prelude.{ℕ, Bool, false, ◌&&◌, List, ◌++◌, ◌≡◌, refl, T}
use Rattle.std.proofs.Common.{subst, sym, ap, ◌∙◌}
use Rattle.meaning.specs.Strict.{◌⊕◌}
use Rattle.grammar.specs.Tests.{and_left, and_right, and_in}
use Rattle.grammar.specs.Piece.{apart, within, Piece}
use Rattle.grammar.specs.Join.{map, bind, restate, Image, Then}
use Rattle.grammar.specs.Table.{table, Among, sound_table}
use Rattle.grammar.specs.Spelt.{Spelt, always, listed, listed_to, listed_from, Mem}
use Rattle.grammar.specs.Several.{Both}

module _ {F : List ℕ} {A B : Type 0} {E : A → List ℕ} {E' : B → List ℕ} (P : Piece false F A E) (n : A → Bool) (G : A → List ℕ)
    (Q : (a : A) → Piece (n a) (G a) B E') (sep : (a : A) → T (apart (G a) (E a))) (nul : (a : A) (b : B) → T (n a) → T (within (E a) (E' b)))
    {S S' : Type 0} (ok : S → Bool) (text : S → List ℕ) (mean : S → A) (ok' : A → S' → Bool) (text' : S' → List ℕ) (mean' : A → S' → B)
    (to : (a : A) (t : List ℕ) → P.In a t → Spelt ok text mean a t) (from : (a : A) (t : List ℕ) → Spelt ok text mean a t → P.In a t)
    (to' : (a : A) (b : B) (t : List ℕ) → (Q a).In b t → Spelt (ok' a) text' (mean' a) b t) (from' : (a : A) (b : B) (t : List ℕ) → Spelt (ok' a) text' (mean' a) b t → (Q a).In b t) where
  abbrev pub pair_ok : Both S S' → Bool
  pair_ok p = ok p.left && ok' (mean p.left) p.right

  abbrev pub pair_text : Both S S' → List ℕ
  pair_text p = text p.left ⊕ text' p.right

  abbrev pub pair_mean : Both S S' → B
  pair_mean p = mean' (mean p.left) p.right

  pub pair_to : (b : B) (t : List ℕ) → Then P.In (λ a. (Q a).In) b t → Spelt pair_ok pair_text pair_mean b t
  pair_to b t i =
      let s = to i.value i.front i.is in
      let q : Spelt (ok' (mean s.form)) text' (mean' (mean s.form)) b i.back = subst (λ (a : A). Spelt (ok' a) text' (mean' a) b i.back)
      (sym s.says) (to' i.value b i.back i.next) in
      record {
        form = record { left = s.form; right = q.form };
        fine = and_in (ok s.form) (ok' (mean s.form) q.form) s.fine q.fine;
        spells = (λ j. (s.spells j) ++ (q.spells j)) ∙ i.split;
        says = q.says;
      }

  pub pair_from : (b : B) (t : List ℕ) → Spelt pair_ok pair_text pair_mean b t → Then P.In (λ a. (Q a).In) b t
  pair_from b t s =
      let l = s.form.left in
      let r = s.form.right in
      record {
        value = mean l;
        front = text l;
        back = text' r;
        is = from (mean l) (text l) (record { form = l; fine = and_left (ok l) (ok' (mean l) r) s.fine; spells = refl; says = refl });
        next = from' (mean l) b (text' r) (record { form = r; fine = and_right (ok l) (ok' (mean l) r) s.fine; spells = refl; says = s.says });
        split = s.spells;
      }

  abbrev pub pair : Piece false F B E'
  pair = restate (bind P n G Q sep nul) (Spelt pair_ok pair_text pair_mean) pair_to pair_from

module _ {n : Bool} {F : List ℕ} {A B : Type 0} {E : A → List ℕ} (f : A → B) (E' : B → List ℕ) (P : Piece n F A E) (sub : (a : A) → T (within (E a) (E' (f a))))
    {S : Type 0} (ok : S → Bool) (text : S → List ℕ) (mean : S → A)
    (to : (a : A) (t : List ℕ) → P.In a t → Spelt ok text mean a t) (from : (a : A) (t : List ℕ) → Spelt ok text mean a t → P.In a t) where
  pub turn_to : (b : B) (t : List ℕ) → Image f P.In b t → Spelt ok text (λ s. f (mean s)) b t
  turn_to b t i = let s = to i.value t i.is in record { form = s.form; fine = s.fine; spells = s.spells; says = ap f s.says ∙ i.says }

  pub turn_from : (b : B) (t : List ℕ) → Spelt ok text (λ s. f (mean s)) b t → Image f P.In b t
  turn_from b t s = record { value = mean s.form; is = from (mean s.form) t (record { form = s.form; fine = s.fine; spells = s.spells; says = refl }); says = s.says }

  abbrev pub turned : Piece n F B E'
  turned = restate (map f E' P sub) (Spelt ok text (λ s. f (mean s))) turn_to turn_from

-- other syntax
pub respelt : {S S' A : Type 0} {ok : S → Bool} {text : S → List ℕ} {mean : S → A} {ok' : S' → Bool} {text' : S' → List ℕ} {mean' : S' → A} (g : S → S') →
    ((s : S) → T (ok s) → T (ok' (g s))) → ((s : S) → text' (g s) ≡ text s) → ((s : S) → mean' (g s) ≡ mean s) →
    (a : A) (t : List ℕ) → Spelt ok text mean a t → Spelt ok' text' mean' a t
respelt g h p q a t s = record { form = g s.form; fine = h s.form s.fine; spells = p s.form ∙ s.spells; says = q s.form ∙ s.says }

-- the words of a finite syntax
module _ {A S : Type 0} (E : A → List ℕ) (F : List ℕ) (f : S → List ℕ) (g : S → A) (xs : List S) (mem : (s : S) → Mem s xs) (h : T (sound_table E F (listed f g xs))) where
  pub some_from : (a : A) (t : List ℕ) → Spelt always f g a t → Among (listed f g xs) a t
  some_from a t s = listed_from f g xs s.form (mem s.form) a t s.spells s.says

  abbrev pub chosen : Piece false F A E
  chosen = restate (table E F (listed f g xs) h) (Spelt always f g) (listed_to f g xs) some_from
