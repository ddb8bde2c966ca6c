-- Over-approximated texts, and one computed test for what a search meets in them: the partial matches of a pattern are followed
-- through a shape.
use Rattle.std.specs.Prelude.{if◌then◌else◌}
use mathlib.Core.Path.{◌≡◌, refl, ap, subst, sym, ◌∙◌}
use Prim.Native.Nat.{ℕ}
use mathlib.Core.Bool.{Bool, true, false, cond, ◌&&◌}
use mathlib.Core.List.{List, [], ◌∷◌, ◌++◌, append_assoc, append-nil}
use lib.Dec.{T, eqb, eqb→eq, eqb_refl}
use Rattle.lexis.specs.Text.{begins, after, cut, Cut, nowhere, at, later}
use Rattle.grammar.specs.Tests.{every, and_left, and_right}

-- a cut, in a text with t more in front
abbrev pub pushes : List ℕ → Cut → Cut
pushes [] k = k
pushes (c ∷ t) k = later c (pushes t k)

-- a set of texts: a fixed text, any number of bytes of a class, one of two, one after the other
pub data Shape : Type 0 where
  lit : List ℕ → Shape
  run : (ℕ → Bool) → Shape
  alt : Shape → Shape → Shape
  seq : Shape → Shape → Shape

pub data In : Shape → List ℕ → Type 0 where
  the : {l : List ℕ} → In (lit l) l
  all : {C : ℕ → Bool} {t : List ℕ} → T (every C t) → In (run C) t
  left : {a b : Shape} {t : List ℕ} → In a t → In (alt a b) t
  right : {a b : Shape} {t : List ℕ} → In b t → In (alt a b) t
  both : {a b : Shape} {u v : List ℕ} → In a u → In b v → In (seq a b) (u ++ v)

-- The partial matches of a pattern: what of it is still to come, for each place where it has begun. A full match is [] and stays.
abbrev pub flat : (List ℕ → List (List ℕ)) → List (List ℕ) → List (List ℕ)
flat f [] = []
flat f (q ∷ ps) = f q ++ flat f ps

abbrev pub byte : ℕ → List ℕ → List (List ℕ)
byte b [] = [] ∷ []
byte b (x ∷ q) = cond (eqb x b) (q ∷ []) []

abbrev pub walk : (ℕ → Bool) → List ℕ → List (List ℕ)
walk C [] = [] ∷ []
walk C (x ∷ q) = (x ∷ q) ∷ cond (C x) (walk C q) []

abbrev pub grow : (ℕ → Bool) → List ℕ → List (List ℕ)
grow C [] = [] ∷ []
grow C (x ∷ q) = cond (C x) (walk C q) []

abbrev pub follow : List ℕ → List (List ℕ) → List ℕ → List (List ℕ)
follow P ps [] = ps
follow P ps (b ∷ l) = follow P (flat (byte b) (P ∷ ps)) l

abbrev pub goes : List ℕ → List (List ℕ) → Shape → List (List ℕ)
goes P ps (lit l) = follow P ps l
goes P ps (run C) = grow C P ++ flat (walk C) ps
goes P ps (alt a b) = goes P ps a ++ goes P ps b
goes P ps (seq a b) = goes P (goes P ps a) b

-- none of the partial matches is completed at the head of the text
abbrev pub Clear : List (List ℕ) → List ℕ → Type 0
Clear [] s = Unit {0}
Clear (q ∷ ps) s = (begins q s ≡ false) × Clear ps s

clear_left : (xs ys : List (List ℕ)) (s : List ℕ) → Clear (xs ++ ys) s → Clear xs s
clear_left [] ys s c = tt
clear_left (x ∷ xs) ys s c = (c.0, clear_left xs ys s c.1)

clear_right : (xs ys : List (List ℕ)) (s : List ℕ) → Clear (xs ++ ys) s → Clear ys s
clear_right [] ys s c = c
clear_right (x ∷ xs) ys s c = clear_right xs ys s c.1

-- a law of one partial match is a law of a set of them
clear_flat : (f : List ℕ → List (List ℕ)) (s t : List ℕ) → ((q : List ℕ) → Clear (f q) s → begins q t ≡ false) →
    (ps : List (List ℕ)) → Clear (flat f ps) s → Clear ps t
clear_flat f s t h [] c = tt
clear_flat f s t h (q ∷ ps) c = (h q (clear_left (f q) (flat f ps) s c), clear_flat f s t h ps (clear_right (f q) (flat f ps) s c))

byte_ok : (b : ℕ) (s q : List ℕ) → Clear (byte b q) s → begins q (b ∷ s) ≡ false
byte_ok b s [] c = c.0
byte_ok b s (x ∷ q) c = go (eqb x b) c
  where
    go : (k : Bool) → Clear (cond k (q ∷ []) []) s → k && begins q s ≡ false
    go true c = c.0
    go false c = refl

walk_head : (C : ℕ → Bool) (s q : List ℕ) → Clear (walk C q) s → begins q s ≡ false
walk_head C s [] c = c.0
walk_head C s (x ∷ q) c = c.0

turn : (k : Bool) (xs : List (List ℕ)) (s : List ℕ) → T k → Clear (cond k xs []) s → Clear xs s
turn true xs s u c = c
turn false xs s u c = absurd u

-- a byte that differs ends a partial match
unless : (k b : Bool) → (T k → b ≡ false) → k && b ≡ false
unless true b e = e tt
unless false b e = refl

walk_ok : (C : ℕ → Bool) (s t : List ℕ) → T (every C t) → (q : List ℕ) → Clear (walk C q) s → begins q (t ++ s) ≡ false
walk_ok C s [] h q c = walk_head C s q c
walk_ok C s (b ∷ t) h [] c = c.0
walk_ok C s (b ∷ t) h (x ∷ q) c =
    unless (eqb x b) (begins q (t ++ s)) (λ e. walk_ok C s t (and_right (C b) (every C t) h) q
    (turn (C x) (walk C q) s (subst (λ (z : ℕ). T (C z)) (sym (eqb→eq x b e)) (and_left (C b) (every C t) h)) c.1))

-- what a search for P meets: past a text with nothing found, the search goes on behind it
pub record Pass (P : List ℕ) (ps : List (List ℕ)) (t s : List ℕ) : Type 0 where
  pub clear : Clear ps (t ++ s)
  pub found : cut P (t ++ s) ≡ pushes t (cut P s)

miss : (P : List ℕ) (b : ℕ) (s : List ℕ) → begins P (b ∷ s) ≡ false → cut P (b ∷ s) ≡ later b (cut P s)
miss P b s e = ap (λ (k : Bool). if k then at [] (after P (b ∷ s)) else later b (cut P s)) e

pass_lit : (P : List ℕ) (l s : List ℕ) (ps : List (List ℕ)) → Clear (follow P ps l) s → Pass P ps l s
pass_lit P [] s ps c = record { clear = c; found = refl }
pass_lit P (b ∷ l) s ps c =
    let r = pass_lit P l s (flat (byte b) (P ∷ ps)) c in
    let k = clear_flat (byte b) (l ++ s) (b ∷ (l ++ s)) (byte_ok b (l ++ s)) (P ∷ ps) r.clear in
    record { clear = k.1; found = miss P b (l ++ s) k.0 ∙ ap (later b) r.found }

grow_ok : (C : ℕ → Bool) (b : ℕ) (s t : List ℕ) → T (every C (b ∷ t)) → (q : List ℕ) → Clear (grow C q) s → begins q (b ∷ (t ++ s)) ≡ false
grow_ok C b s t h [] c = c.0
grow_ok C b s t h (x ∷ q) c =
    unless (eqb x b) (begins q (t ++ s)) (λ e. walk_ok C s t (and_right (C b) (every C t) h) q
    (turn (C x) (walk C q) s (subst (λ (z : ℕ). T (C z)) (sym (eqb→eq x b e)) (and_left (C b) (every C t) h)) c))

run_found : (P : List ℕ) (C : ℕ → Bool) (t s : List ℕ) → T (every C t) → Clear (grow C P) s → cut P (t ++ s) ≡ pushes t (cut P s)
run_found P C [] s h c = refl
run_found P C (b ∷ t) s h c =
    miss P b (t ++ s) (grow_ok C b s t h P c) ∙ ap (later b) (run_found P C t s (and_right (C b) (every C t) h) c)

pass_run : (P : List ℕ) (C : ℕ → Bool) (t s : List ℕ) (ps : List (List ℕ)) → T (every C t) → Clear (grow C P ++ flat (walk C) ps) s → Pass P ps t s
pass_run P C t s ps h c = record {
  clear = clear_flat (walk C) s (t ++ s) (walk_ok C s t h) ps (clear_right (grow C P) (flat (walk C) ps) s c);
  found = run_found P C t s h (clear_left (grow C P) (flat (walk C) ps) s c);
}

pub pushes-++ : (u v : List ℕ) (k : Cut) → pushes (u ++ v) k ≡ pushes u (pushes v k)
pushes-++ [] v k = refl
pushes-++ (b ∷ u) v k = ap (later b) (pushes-++ u v k)

pass_seq : (P : List ℕ) (u v s : List ℕ) (ps qs : List (List ℕ)) → Pass P ps u (v ++ s) → Pass P qs v s → Pass P ps (u ++ v) s
pass_seq P u v s ps qs a b = record {
  clear = rw append_assoc a.clear;
  found = ap (cut P) (append_assoc u v s) ∙ a.found ∙ ap (pushes u) b.found ∙ sym (pushes-++ u v (cut P s));
}

-- THE LAW: a search for P in a text of a shape, and on
pub through : (P : List ℕ) {sh : Shape} {t : List ℕ} → In sh t → (s : List ℕ) (ps : List (List ℕ)) → Clear (goes P ps sh) s → Pass P ps t s
through P (the {l = l}) s ps c = pass_lit P l s ps c
through P (all {C = C} {t = t} h) s ps c = pass_run P C t s ps h c
through P (left {a = a} {b = b} i) s ps c = through P i s ps (clear_left (goes P ps a) (goes P ps b) s c)
through P (right {a = a} {b = b} i) s ps c = through P i s ps (clear_right (goes P ps a) (goes P ps b) s c)
through P (both {a = a} {b = b} {u = u} {v = v} i j) s ps c =
    let r = through P j s (goes P ps a) c in
    pass_seq P u v s ps (goes P ps a) (through P i (v ++ s) ps r.clear) r

-- a partial match that the coming text l refutes
abbrev pub clash : List ℕ → List ℕ → Bool
clash [] l = false
clash (x ∷ q) [] = false
clash (x ∷ q) (y ∷ l) = cond (eqb x y) (clash q l) true

abbrev pub pending : List ℕ → Bool
pending [] = false
pending (x ∷ q) = true

clash_ok : (q l s : List ℕ) → T (clash q l) → begins q (l ++ s) ≡ false
clash_ok [] l s h = absurd h
clash_ok (x ∷ q) [] s h = absurd h
clash_ok (x ∷ q) (y ∷ l) s h = unless (eqb x y) (begins q (l ++ s)) (λ e. clash_ok q l s (only (eqb x y) e h))
  where
    only : (k : Bool) → T k → T (cond k (clash q l) true) → T (clash q l)
    only true e h = h
    only false e h = absurd e

clashes_ok : (l s : List ℕ) (ps : List (List ℕ)) → T (every (λ q. clash q l) ps) → Clear ps (l ++ s)
clashes_ok l s [] h = tt
clashes_ok l s (q ∷ ps) h =
    (clash_ok q l s (and_left (clash q l) (every (λ q. clash q l) ps) h), clashes_ok l s ps (and_right (clash q l) (every (λ q. clash q l) ps) h))

pending_ok : (ps : List (List ℕ)) → T (every pending ps) → Clear ps []
pending_ok [] h = tt
pending_ok ([] ∷ ps) h = absurd h
pending_ok ((x ∷ q) ∷ ps) h = (refl, pending_ok ps h)

pushes_nowhere : (t : List ℕ) → pushes t nowhere ≡ nowhere
pushes_nowhere [] = refl
pushes_nowhere (b ∷ t) = ap (later b) (pushes_nowhere t)

pub pushes_at : (t a b : List ℕ) → pushes t (at a b) ≡ at (t ++ a) b
pushes_at [] a b = refl
pushes_at (c ∷ t) a b = ap (later c) (pushes_at t a b)

-- 1. P does not occur
abbrev pub free : List ℕ → Shape → Bool
free P sh = every pending (P ∷ goes P [] sh)

pub absent : (P : List ℕ) {sh : Shape} {t : List ℕ} → In sh t → T (free P sh) → cut P t ≡ nowhere
absent P {sh} {t} i h =
    let c = pending_ok (P ∷ goes P [] sh) h in
    ap (cut P) (sym (append-nil t)) ∙ (through P i [] [] c.1).found
    ∙ ap (λ (k : Bool). pushes t (if k then at [] [] else nowhere)) c.0 ∙ pushes_nowhere t

-- 2. P does not begin before the text l that comes next
abbrev pub clears : List ℕ → List ℕ → Shape → Bool
clears P l sh = every (λ q. clash q l) (goes P [] sh)

skip : (P l : List ℕ) {sh : Shape} {t : List ℕ} → In sh t → T (clears P l sh) → (s : List ℕ) → cut P (t ++ (l ++ s)) ≡ pushes t (cut P (l ++ s))
skip P l {sh} i h s = (through P i (l ++ s) [] (clashes_ok l s (goes P [] sh) h)).found

begins_self : (P s : List ℕ) → begins P (P ++ s) ≡ true
begins_self [] s = refl
begins_self (x ∷ P) s = same (eqb x x) (eqb_refl x) ∙ begins_self P s
  where
    same : (k : Bool) → T k → k && begins P (P ++ s) ≡ begins P (P ++ s)
    same true e = refl
    same false e = absurd e

after_self : (P s : List ℕ) → after P (P ++ s) ≡ s
after_self [] s = refl
after_self (x ∷ P) s = after_self P s

find_self : (P s : List ℕ) → cut P (P ++ s) ≡ at [] s
find_self [] [] = refl
find_self [] (c ∷ s) = refl
find_self (x ∷ P) s =
    ap (λ (k : Bool). if k then at [] (after P (P ++ s)) else later x (cut (x ∷ P) (P ++ s))) (begins_self (x ∷ P) s) ∙ ap (at []) (after_self P s)

-- 3. P occurs first behind the shape
pub first : (P : List ℕ) {sh : Shape} {t : List ℕ} → In sh t → T (clears P P sh) → (s : List ℕ) → cut P (t ++ (P ++ s)) ≡ at t s
first P {sh} {t} i h s =
    skip P P i h s ∙ ap (pushes t) (find_self P s) ∙ pushes_at t [] s ∙ ap (λ (a : List ℕ). at a s) (append-nil t)
