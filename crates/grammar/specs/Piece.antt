-- Pieces of a strict reader: the texts that a piece reads, its reader and their laws. From them: what is read whole is such a
-- text, and the other way round; and a reader stops at the end of the longest beginning that some text has.
use Rattle.std.specs.Prelude.{ℕ, Bool, true, false, ◌&&◌, ◌||◌, not, List, [], ◌∷◌, ◌++◌, ◌≡◌, refl, T, eqb}
use Rattle.std.proofs.Common.{arith, append_assoc, append-nil, subst, sym, ap, ◌∙◌, eqb→eq, T_not}
use Rattle.std.proofs.Math.Dec.{not_T}
use Rattle.grammar.specs.Tests.{and_left, and_right, or_cases}

-- ── sets of bytes, as lists ──
abbrev pub member : ℕ → List ℕ → Bool
member c [] = false
member c (x ∷ xs) = eqb c x || member c xs

-- no byte of F is in E
abbrev pub apart : List ℕ → List ℕ → Bool
apart [] E = true
apart (c ∷ F) E = not (member c E) && apart F E

-- each byte of F is in E
abbrev pub within : List ℕ → List ℕ → Bool
within [] E = true
within (c ∷ F) E = member c E && within F E

-- the text ends, or goes on with a byte that is not in E
abbrev pub stops : List ℕ → List ℕ → Bool
stops E [] = true
stops E (c ∷ r) = not (member c E)

-- the text begins with a byte of F; if n, it may also be empty
abbrev pub heads : Bool → List ℕ → List ℕ → Bool
heads n F [] = n
heads n F (c ∷ t) = member c F

pub within_ok : (F E : List ℕ) (c : ℕ) → T (within F E) → T (member c F) → T (member c E)
within_ok [] E c w m = absurd m
within_ok (x ∷ F) E c w m = or_cases (eqb c x) (member c F)
    (λ e. subst (λ (z : ℕ). T (member z E)) (sym (eqb→eq c x e)) (and_left (member x E) (within F E) w))
    (λ h. within_ok F E c (and_right (member x E) (within F E) w) h) m

pub apart_ok : (F E : List ℕ) (c : ℕ) → T (apart F E) → T (member c F) → T (not (member c E))
apart_ok [] E c w m = absurd m
apart_ok (x ∷ F) E c w m = or_cases (eqb c x) (member c F)
    (λ e. subst (λ (z : ℕ). T (not (member z E))) (sym (eqb→eq c x e)) (and_left (not (member x E)) (apart F E) w))
    (λ h. apart_ok F E c (and_right (not (member x E)) (apart F E) w) h) m

pub stops_within : (E E' r : List ℕ) → T (within E E') → T (stops E' r) → T (stops E r)
stops_within E E' [] w s = tt
stops_within E E' (c ∷ r) w s = not_T (member c E) (λ m. T_not (member c E') s (within_ok E E' c w m))

-- what stands after a text that is followed by v and then r
pub stops_heads : (n : Bool) (F E E' v r : List ℕ) → T (apart F E) → (T n → T (within E E')) → T (heads n F v) → T (stops E' r) → T (stops E (v ++ r))
stops_heads n F E E' [] r a w h s = stops_within E E' r (w h) s
stops_heads n F E E' (c ∷ v) r a w h s = apart_ok F E c a h

-- ── answers ──
-- a value and what follows its text; or what is left from the first byte on with which no text can go on
pub data Answer (A : Type 0) : Type 0 where
  got : A → List ℕ → Answer A
  stuck : List ℕ → Answer A

-- both go on, with the same byte
abbrev pub Alike : List ℕ → List ℕ → Type 0
Alike [] x = ⊥
Alike (c ∷ r) [] = ⊥
Alike (c ∷ r) (d ∷ x) = c ≡ d

pub alike_self : (r x y : List ℕ) → Alike r x → Alike (y ++ r) (y ++ x)
alike_self r x [] a = a
alike_self r x (c ∷ y) a = refl

pub record Full {A : Type 0} (In : A → List ℕ → Type 0) (read : List ℕ → Answer A) (t : List ℕ) (a : A) (r : List ℕ) : Type 0 where
  pub text : List ℕ
  pub is : In a text
  pub split : text ++ r ≡ t
  -- only the byte that follows was looked at
  pub local : (x : List ℕ) → Alike r x → read (text ++ x) ≡ got a x

pub record Part {A : Type 0} (In : A → List ℕ → Type 0) (read : List ℕ → Answer A) (t r : List ℕ) : Type 0 where
  pub text : List ℕ
  pub split : text ++ r ≡ t
  -- the text can still be completed
  pub value : A
  pub more : List ℕ
  pub is : In value (text ++ more)
  pub local : (x : List ℕ) → Alike r x → read (text ++ x) ≡ stuck x

abbrev pub Good : {A : Type 0} → (A → List ℕ → Type 0) → (List ℕ → Answer A) → List ℕ → Answer A → Type 0
Good In read t (got a r) = Full In read t a r
Good In read t (stuck r) = Part In read t r

pub record Some {A : Type 0} (In : A → List ℕ → Type 0) : Type 0 where
  pub value : A
  pub text : List ℕ
  pub is : In value text

-- n: the text may be empty; F: bytes that it may begin with; E a: bytes that may go on after a text of a
pub record Piece (n : Bool) (F : List ℕ) (A : Type 0) (E : A → List ℕ) : Type 1 where
  pub In : A → List ℕ → Type 0
  pub read : List ℕ → Answer A
  pub good : (t : List ℕ) → Good In read t (read t)
  pub complete : (a : A) (u r : List ℕ) → In a u → T (stops (E a) r) → read (u ++ r) ≡ got a r
  pub leads : (a : A) (u : List ℕ) → In a u → T (heads n F u)
  pub some : Some In

-- ── what a piece gives for whole texts ──
-- u is a beginning of some text
pub record Begin {A : Type 0} (In : A → List ℕ → Type 0) (u : List ℕ) : Type 0 where
  pub value : A
  pub more : List ℕ
  pub is : In value (u ++ more)

abbrev pub left : {A : Type 0} → Answer A → List ℕ
left (got a r) = r
left (stuck r) = r

-- u is the longest beginning of t that is one of some text; r is what is left
pub record Longest {A : Type 0} (In : A → List ℕ → Type 0) (t r : List ℕ) : Type 0 where
  pub text : List ℕ
  pub split : text ++ r ≡ t
  pub begin : Begin In text
  pub most : (x : List ℕ) → Alike r x → Begin In (text ++ x) → ⊥

module _ {n : Bool} {F : List ℕ} {A : Type 0} {E : A → List ℕ} (P : Piece n F A E) where
  pub sound : (t : List ℕ) (a : A) → P.read t ≡ got a [] → P.In a t
  sound t a e = let f : Full P.In P.read t a [] = subst (Good P.In P.read t) e (P.good t) in
      subst (P.In a) (sym (append-nil f.text) ∙ f.split) f.is

  pub whole : (t : List ℕ) (a : A) → P.In a t → P.read t ≡ got a []
  whole t a i = ap P.read (sym (append-nil t)) ∙ P.complete a t [] i tt

  pub one : (t : List ℕ) (a b : A) → P.In a t → P.In b t → a ≡ b
  one t a b i j = let e = whole t a i in let f = whole t b j in cc

  alike_more : (r x m : List ℕ) → Alike r x → Alike r (x ++ m)
  alike_more [] x m a = a
  alike_more (c ∷ r) [] m a = absurd a
  alike_more (c ∷ r) (d ∷ x) m a = a

  not_empty : (r x m : List ℕ) → Alike r x → x ++ m ≡ [] → ⊥
  not_empty [] x m a e = a
  not_empty (c ∷ r) [] m a e = a
  not_empty (c ∷ r) (d ∷ x) m a e = let z : ◌≡◌ {A = ℕ} 0 1 = cc in omega arith

  pub longest : (t : List ℕ) → Longest P.In t (left (P.read t))
  longest t = go (P.read t) (P.good t)
    where
      go : (p : Answer A) → Good P.In P.read t p → Longest P.In t (left p)
      go (got a r) f = record {
        text = f.text;
        split = f.split;
        begin = record { value = a; more = []; is = subst (P.In a) (sym (append-nil f.text)) f.is };
        most = λ x al b. let e = f.local (x ++ b.more) (alike_more r x b.more al) in
            let w = whole (f.text ++ (x ++ b.more)) b.value (subst (P.In b.value) (append_assoc f.text x b.more) b.is) in
            not_empty r x b.more al (cc);
      }
      go (stuck r) f = record {
        text = f.text;
        split = f.split;
        begin = record { value = f.value; more = f.more; is = f.is };
        most = λ x al b. let e = f.local (x ++ b.more) (alike_more r x b.more al) in
            let w = whole (f.text ++ (x ++ b.more)) b.value (subst (P.In b.value) (append_assoc f.text x b.more) b.is) in
            let z : ◌≡◌ {A = ℕ} 0 1 = cc in omega arith;
      }
