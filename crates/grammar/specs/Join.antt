-- Pieces put together: nothing, other values, the same texts in other words, one after the other, one of two by the first byte.
-- Each is a piece again, by the laws of its parts.
use Rattle.std.specs.Prelude.{ℕ, Bool, true, false, cond, ◌||◌, not, List, [], ◌∷◌, ◌++◌, ◌⊎◌, ◌≡◌, refl, T, eqb}
use Rattle.std.proofs.Common.{append_assoc, inl, inr, subst, sym, ap, ◌∙◌}
use Rattle.grammar.specs.Piece.{member, apart, within, stops, heads, apart_ok, stops_within, stops_heads, Answer, got, stuck, Alike, alike_self, Full, Good, Some, Piece}

-- ── nothing: the value b ──
abbrev pub yield : {B : Type 0} (E : B → List ℕ) (b : B) → Piece true [] B E
yield E b = record {
  In = λ a t. (a ≡ b) × (t ≡ []);
  read = λ t. got b t;
  good = λ t. record { text = []; is = (refl, refl); split = refl; local = λ x al. refl };
  complete = λ a u r i s. rw (i.0, i.1);
  leads = λ a u i. subst (λ (z : List ℕ). T (heads true [] z)) (sym i.1) tt;
  some = record { value = b; text = []; is = (refl, refl) };
}

-- ── other values ──
abbrev pub mapped : {A B : Type 0} → (A → B) → Answer A → Answer B
mapped f (got a r) = got (f a) r
mapped f (stuck r) = stuck r

pub record Image {A B : Type 0} (f : A → B) (In : A → List ℕ → Type 0) (b : B) (t : List ℕ) : Type 0 where
  pub value : A
  pub is : In value t
  pub says : f value ≡ b

pub image_good : {A B : Type 0} (f : A → B) (In : A → List ℕ → Type 0) (read : List ℕ → Answer A) (t : List ℕ) (p : Answer A) → Good In read t p →
    Good (Image f In) (λ x. mapped f (read x)) t (mapped f p)
image_good f In read t (got a r) g = record { text = g.text; is = record { value = a; is = g.is; says = refl }; split = g.split; local = λ x al. ap (mapped f) (g.local x al) }
image_good f In read t (stuck r) g = record {
  text = g.text;
  split = g.split;
  value = f g.value;
  more = g.more;
  is = record { value = g.value; is = g.is; says = refl };
  local = λ x al. ap (mapped f) (g.local x al);
}

module _ {n : Bool} {F : List ℕ} {A B : Type 0} {E : A → List ℕ} (f : A → B) (E' : B → List ℕ) (P : Piece n F A E)
    (sub : (a : A) → T (within (E a) (E' (f a)))) where
  pub map_complete : (b : B) (u r : List ℕ) → Image f P.In b u → T (stops (E' b) r) → mapped f (P.read (u ++ r)) ≡ got b r
  map_complete b u r i s =
      ap (mapped f) (P.complete i.value u r i.is (stops_within (E i.value) (E' (f i.value)) r (sub i.value) (subst (λ (z : B). T (stops (E' z) r)) (sym i.says) s)))
      ∙ ap (λ (z : B). got z r) i.says

  abbrev pub map : Piece n F B E'
  map = record {
    In = Image f P.In;
    read = λ x. mapped f (P.read x);
    good = λ t. image_good f P.In P.read t (P.read t) (P.good t);
    complete = map_complete;
    leads = λ b u i. P.leads i.value u i.is;
    some = record { value = f P.some.value; text = P.some.text; is = record { value = P.some.value; is = P.some.is; says = refl } };
  }

-- ── the same texts in other words ──
module _ {n : Bool} {F : List ℕ} {A : Type 0} {E : A → List ℕ} (P : Piece n F A E) (In' : A → List ℕ → Type 0)
    (to : (a : A) (t : List ℕ) → P.In a t → In' a t) (from : (a : A) (t : List ℕ) → In' a t → P.In a t) where
  pub as_good : (t : List ℕ) (p : Answer A) → Good P.In P.read t p → Good In' P.read t p
  as_good t (got a r) g = record { text = g.text; is = to a g.text g.is; split = g.split; local = g.local }
  as_good t (stuck r) g = record { text = g.text; split = g.split; value = g.value; more = g.more; is = to g.value (g.text ++ g.more) g.is; local = g.local }

  abbrev pub restate : Piece n F A E
  restate = record {
    In = In';
    read = P.read;
    good = λ t. as_good t (P.read t) (P.good t);
    complete = λ a u r i s. P.complete a u r (from a u i) s;
    leads = λ a u i. P.leads a u (from a u i);
    some = record { value = P.some.value; text = P.some.text; is = to P.some.value P.some.text P.some.is };
  }

-- ── one after the other ──
pub record Then {A B : Type 0} (In : A → List ℕ → Type 0) (Next : A → B → List ℕ → Type 0) (b : B) (t : List ℕ) : Type 0 where
  pub value : A
  pub front : List ℕ
  pub back : List ℕ
  pub is : In value front
  pub next : Next value b back
  pub split : front ++ back ≡ t

abbrev pub after : {A B : Type 0} → (A → List ℕ → Answer B) → Answer A → Answer B
after f (got a r) = f a r
after f (stuck r) = stuck r

-- of readers that need not be pieces: what follows is good at the rest only
module _ {A B : Type 0} (In : A → List ℕ → Type 0) (read : List ℕ → Answer A) (Next : A → B → List ℕ → Type 0) (go : A → List ℕ → Answer B)
    (some : (a : A) → Some (Next a)) where
  chain : (t r : List ℕ) (a : A) → Full In read t a r → (q : Answer B) → Good (Next a) (go a) r q → Good (Then In Next) (λ x. after go (read x)) t q
  chain t r a f (got b s) g = record {
    text = f.text ++ g.text;
    is = record { value = a; front = f.text; back = g.text; is = f.is; next = g.is; split = refl };
    split = append_assoc f.text g.text s ∙ ap (λ (z : List ℕ). f.text ++ z) g.split ∙ f.split;
    local = λ x al. ap (λ (z : List ℕ). after go (read z)) (append_assoc f.text g.text x)
        ∙ ap (after go) (f.local (g.text ++ x) (subst (λ (z : List ℕ). Alike z (g.text ++ x)) g.split (alike_self s x g.text al)))
        ∙ g.local x al;
  }
  chain t r a f (stuck s) g = record {
    text = f.text ++ g.text;
    value = g.value;
    more = g.more;
    is = record { value = a; front = f.text; back = g.text ++ g.more; is = f.is; next = g.is; split = sym (append_assoc f.text g.text g.more) };
    split = append_assoc f.text g.text s ∙ ap (λ (z : List ℕ). f.text ++ z) g.split ∙ f.split;
    local = λ x al. ap (λ (z : List ℕ). after go (read z)) (append_assoc f.text g.text x)
        ∙ ap (after go) (f.local (g.text ++ x) (subst (λ (z : List ℕ). Alike z (g.text ++ x)) g.split (alike_self s x g.text al)))
        ∙ g.local x al;
  }

  pub chains : (t : List ℕ) (p : Answer A) → Good In read t p → ((a : A) (r : List ℕ) → Full In read t a r → Good (Next a) (go a) r (go a r)) →
      Good (Then In Next) (λ x. after go (read x)) t (after go p)
  chains t (got a r) f g = chain t r a f (go a r) (g a r f)
  chains t (stuck r) f g = record {
    text = f.text;
    split = f.split;
    value = (some f.value).value;
    more = f.more ++ (some f.value).text;
    is = record {
      value = f.value;
      front = f.text ++ f.more;
      back = (some f.value).text;
      is = f.is;
      next = (some f.value).is;
      split = append_assoc f.text f.more (some f.value).text;
    };
    local = λ x al. ap (after go) (f.local x al);
  }

module _ {F : List ℕ} {A B : Type 0} {E : A → List ℕ} {E' : B → List ℕ} (P : Piece false F A E) (n : A → Bool) (G : A → List ℕ)
    (Q : (a : A) → Piece (n a) (G a) B E') (sep : (a : A) → T (apart (G a) (E a))) (nul : (a : A) (b : B) → T (n a) → T (within (E a) (E' b))) where
  abbrev pub bind_in : B → List ℕ → Type 0
  bind_in = Then P.In (λ a. (Q a).In)

  pub bind_complete : (b : B) (u r : List ℕ) → bind_in b u → T (stops (E' b) r) → after (λ a. (Q a).read) (P.read (u ++ r)) ≡ got b r
  bind_complete b u r i s =
      ap (λ (z : List ℕ). after (λ a. (Q a).read) (P.read z)) (ap (λ (z : List ℕ). z ++ r) (sym i.split) ∙ append_assoc i.front i.back r)
      ∙ ap (after (λ a. (Q a).read)) (P.complete i.value i.front (i.back ++ r) i.is
      (stops_heads (n i.value) (G i.value) (E i.value) (E' b) i.back r (sep i.value) (nul i.value b) ((Q i.value).leads b i.back i.next) s))
      ∙ (Q i.value).complete b i.back r i.next s

  pub bind_leads : (b : B) (u : List ℕ) → bind_in b u → T (heads false F u)
  bind_leads b u i = subst (λ (z : List ℕ). T (heads false F z)) i.split (longer i.front (P.leads i.value i.front i.is))
    where
      longer : (v : List ℕ) → T (heads false F v) → T (heads false F (v ++ i.back))
      longer [] h = absurd h
      longer (c ∷ v) h = h

  abbrev pub bind : Piece false F B E'
  bind = record {
    In = bind_in;
    read = λ x. after (λ a. (Q a).read) (P.read x);
    good = λ t. chains P.In P.read (λ a. (Q a).In) (λ a. (Q a).read) (λ a. (Q a).some) t (P.read t) (P.good t) (λ a r f. (Q a).good r);
    complete = bind_complete;
    leads = bind_leads;
    some = let s = P.some in let q = (Q s.value).some in
        record { value = q.value; text = s.text ++ q.text; is = record { value = s.value; front = s.text; back = q.text; is = s.is; next = q.is; split = refl } };
  }

-- ── one of two, by the first byte ──
abbrev pub fork : {A : Type 0} → List ℕ → (List ℕ → Answer A) → (List ℕ → Answer A) → List ℕ → Answer A
fork F f g [] = stuck []
fork F f g (c ∷ t) = cond (member c F) (f (c ∷ t)) (g (c ∷ t))

pub fork_left : {A : Type 0} (F : List ℕ) (f g : List ℕ → Answer A) (t : List ℕ) → T (heads false F t) → fork F f g t ≡ f t
fork_left F f g [] h = absurd h
fork_left F f g (c ∷ t) h = by (member c F) h
  where
    by : (k : Bool) → T k → cond k (f (c ∷ t)) (g (c ∷ t)) ≡ f (c ∷ t)
    by true h = refl
    by false h = absurd h

pub fork_right : {A : Type 0} (F : List ℕ) (f g : List ℕ → Answer A) (c : ℕ) (t : List ℕ) → T (not (member c F)) → fork F f g (c ∷ t) ≡ g (c ∷ t)
fork_right F f g c t h = by (member c F) h
  where
    by : (k : Bool) → T (not k) → cond k (f (c ∷ t)) (g (c ∷ t)) ≡ g (c ∷ t)
    by true h = absurd h
    by false h = refl

pub heads_more : (F v w : List ℕ) → T (heads false F v) → T (heads false F (v ++ w))
heads_more F [] w h = absurd h
heads_more F (c ∷ v) w h = h

pub heads_apart : {A : Type 0} (F G : List ℕ) (f g : List ℕ → Answer A) (v : List ℕ) → T (apart G F) → T (heads false G v) → fork F f g v ≡ g v
heads_apart F G f g [] a h = absurd h
heads_apart F G f g (c ∷ v) a h = fork_right F f g c v (apart_ok G F c a h)

-- the reader f at texts that begin with a byte that k accepts: good there, so good for any reader that agrees there
module _ {A : Type 0} (In In' : A → List ℕ → Type 0) (f h : List ℕ → Answer A) (c : ℕ) (t : List ℕ) (same : (x : List ℕ) → h (c ∷ x) ≡ f (c ∷ x))
    (to : (a : A) (u : List ℕ) → In a u → In' a u) where
  begins_same : (u r x : List ℕ) → u ++ r ≡ c ∷ t → Alike r x → h (u ++ x) ≡ f (u ++ x)
  begins_same [] [] x e al = absurd al
  begins_same [] (d ∷ r) [] e al = absurd al
  begins_same [] (d ∷ r) (b ∷ x) e al = let z : b ≡ c = cc in rw z (same x)
  begins_same (d ∷ u) r x e al = let z : d ≡ c = cc in rw z (same (u ++ x))

  pub moved : (p : Answer A) → Good In f (c ∷ t) p → Good In' h (c ∷ t) p
  moved (got a r) g = record { text = g.text; is = to a g.text g.is; split = g.split; local = λ x al. begins_same g.text r x g.split al ∙ g.local x al }
  moved (stuck r) g = record {
    text = g.text;
    split = g.split;
    value = g.value;
    more = g.more;
    is = to g.value (g.text ++ g.more) g.is;
    local = λ x al. begins_same g.text r x g.split al ∙ g.local x al;
  }

pub member_left : (c : ℕ) (X Y : List ℕ) → T (member c X) → T (member c (X ++ Y))
member_left c [] Y h = absurd h
member_left c (x ∷ X) Y h = by (eqb c x) (member_left c X Y) h
  where
    by : (k : Bool) → (T (member c X) → T (member c (X ++ Y))) → T (k || member c X) → T (k || member c (X ++ Y))
    by true f h = tt
    by false f h = f h

pub member_right : (c : ℕ) (X Y : List ℕ) → T (member c Y) → T (member c (X ++ Y))
member_right c [] Y h = h
member_right c (x ∷ X) Y h = by (eqb c x) (member_right c X Y h)
  where
    by : (k : Bool) → T (member c (X ++ Y)) → T (k || member c (X ++ Y))
    by true h = tt
    by false h = h

module _ {F G : List ℕ} {A : Type 0} {E : A → List ℕ} (P : Piece false F A E) (Q : Piece false G A E) (sep : T (apart G F)) where
  abbrev pub either_in : A → List ℕ → Type 0
  either_in a t = P.In a t ⊎ Q.In a t

  abbrev pub either_read : List ℕ → Answer A
  either_read = fork F P.read Q.read

  pub either_good : (t : List ℕ) → Good either_in either_read t (either_read t)
  either_good [] = record { text = []; split = refl; value = P.some.value; more = P.some.text; is = inl P.some.is; local = λ x al. absurd al }
  either_good (c ∷ t) = by (member c F) (λ x. refl)
    where
      by : (k : Bool) → ((x : List ℕ) → either_read (c ∷ x) ≡ cond k (P.read (c ∷ x)) (Q.read (c ∷ x))) → Good either_in either_read (c ∷ t) (cond k (P.read (c ∷ t)) (Q.read (c ∷ t)))
      by true e = moved P.In either_in P.read either_read c t e (λ a u i. inl i) (P.read (c ∷ t)) (P.good (c ∷ t))
      by false e = moved Q.In either_in Q.read either_read c t e (λ a u i. inr i) (Q.read (c ∷ t)) (Q.good (c ∷ t))

  pub either_complete : (a : A) (u r : List ℕ) → either_in a u → T (stops (E a) r) → either_read (u ++ r) ≡ got a r
  either_complete a u r (inl i) s = fork_left F P.read Q.read (u ++ r) (heads_more F u r (P.leads a u i)) ∙ P.complete a u r i s
  either_complete a u r (inr i) s = heads_apart F G P.read Q.read (u ++ r) sep (heads_more G u r (Q.leads a u i)) ∙ Q.complete a u r i s

  both_heads : (u : List ℕ) → T (heads false F u) ⊎ T (heads false G u) → T (heads false (F ++ G) u)
  both_heads [] (inl h) = h
  both_heads [] (inr h) = h
  both_heads (c ∷ u) (inl h) = member_left c F G h
  both_heads (c ∷ u) (inr h) = member_right c F G h

  pub either_leads : (a : A) (u : List ℕ) → either_in a u → T (heads false (F ++ G) u)
  either_leads a u (inl i) = both_heads u (inl (P.leads a u i))
  either_leads a u (inr i) = both_heads u (inr (Q.leads a u i))

  abbrev pub either : Piece false (F ++ G) A E
  either = record {
    In = either_in;
    read = either_read;
    good = either_good;
    complete = either_complete;
    leads = either_leads;
    some = record { value = P.some.value; text = P.some.text; is = inl P.some.is };
  }
