-- A list of pieces, and the piece that ends it. The reader has fuel, which is enough; `turn` is its equation without.
use Rattle.std.specs.Prelude.{ℕ, zero, suc, ◌≤◌, ◌<◌, Bool, true, false, cond, List, [], ◌∷◌, ◌++◌, ◌≡◌, refl, T, length}
use Rattle.std.proofs.Common.{arith, not-suc-le-zero, append_assoc, subst, sym, ap, ◌∙◌, length-append}
use Rattle.grammar.specs.Piece.{member, apart, stops, heads, stops_heads, Answer, got, stuck, Full, Good, Some, Piece}
use Rattle.grammar.specs.Join.{after, chains, Then, mapped, Image, image_good, fork, fork_left, heads_apart, heads_more, moved, member_left, member_right}

pub record Ended (A B : Type 0) : Type 0 where
  pub items : List A
  pub last : B

abbrev pub ended : {A B : Type 0} → B → Ended A B
ended b = record { items = []; last = b }

abbrev pub first : {A B : Type 0} → A → Ended A B → Ended A B
first a e = record { items = a ∷ e.items; last = e.last }

-- the texts of the items one after the other, then that of the end
abbrev pub Row : {A B : Type 0} → (A → List ℕ → Type 0) → (B → List ℕ → Type 0) → List A → B → List ℕ → Type 0
Row In End [] b t = End b t
Row In End (x ∷ xs) b t = Then In (λ a c v. (a ≡ x) × Row In End xs c v) b t

-- an item is not empty
pub shorter : {F : List ℕ} {A : Type 0} {E : A → List ℕ} (P : Piece false F A E) (t r : List ℕ) (a : A) → Full P.In P.read t a r → length r < length t
shorter {F} P t r a f = by f.text (P.leads a f.text f.is) f.split
  where
    by : (u : List ℕ) → T (heads false F u) → u ++ r ≡ t → length r < length t
    by [] h e = absurd h
    by (c ∷ u) h e = let l = ap length (sym e) in let m = length-append u r in omega arith

module _ {F G : List ℕ} {A B : Type 0} {E : A → List ℕ} {E' : B → List ℕ} (P : Piece false F A E) (Q : Piece false G B E')
    (sep : T (apart G F)) (fol : (a : A) → T (apart (F ++ G) (E a))) where
  abbrev pub until_in : Ended A B → List ℕ → Type 0
  until_in e t = Row P.In Q.In e.items e.last t

  abbrev pub loop : ℕ → List ℕ → Answer (Ended A B)
  loop zero t = stuck t
  loop (suc k) t = fork F (λ x. after (λ a r. mapped (first a) (loop k r)) (P.read x)) (λ x. mapped ended (Q.read x)) t

  -- the fuel suffices
  abbrev pub until_read : List ℕ → Answer (Ended A B)
  until_read t = loop (suc (length t)) t

  abbrev pub again : List ℕ → Answer (Ended A B)
  again x = after (λ a r. mapped (first a) (until_read r)) (P.read x)

  abbrev pub finish : List ℕ → Answer (Ended A B)
  finish x = mapped ended (Q.read x)

  step : (k m : ℕ) (t : List ℕ) (p : Answer A) → Good P.In P.read t p → ((r : List ℕ) → length r < length t → loop k r ≡ loop m r) →
      after (λ a r. mapped (first a) (loop k r)) p ≡ after (λ a r. mapped (first a) (loop m r)) p
  step k m t (got a r) g h = ap (mapped (first a)) (h r (shorter P t r a g))
  step k m t (stuck r) g h = refl

  pub enough : (k m : ℕ) (t : List ℕ) → length t < k → length t < m → loop k t ≡ loop m t
  enough zero m t h g = absurd (not-suc-le-zero h)
  enough (suc k) zero t h g = absurd (not-suc-le-zero g)
  enough (suc k) (suc m) [] h g = refl
  enough (suc k) (suc m) (c ∷ t) h g =
      ap (λ (z : Answer (Ended A B)). cond (member c F) z (finish (c ∷ t)))
      (step k m (c ∷ t) (P.read (c ∷ t)) (P.good (c ∷ t)) (λ r q. enough k m r (omega arith) (omega arith)))

  step' : (k : ℕ) (t : List ℕ) (p : Answer A) → Good P.In P.read t p → length t ≤ k →
      after (λ a r. mapped (first a) (loop k r)) p ≡ after (λ a r. mapped (first a) (until_read r)) p
  step' k t (got a r) g h = let q = shorter P t r a g in ap (mapped (first a)) (enough k (suc (length r)) r (omega arith) (omega arith))
  step' k t (stuck r) g h = refl

  -- THE EQUATION of the loop
  pub turn : (t : List ℕ) → until_read t ≡ fork F again finish t
  turn [] = refl
  turn (c ∷ t) = ap (λ (z : Answer (Ended A B)). cond (member c F) z (finish (c ∷ t))) (step' (suc (length t)) (c ∷ t) (P.read (c ∷ t)) (P.good (c ∷ t)) (omega arith))

  into : (e : Ended A B) (u : List ℕ) → Then P.In (λ a. Image (first a) until_in) e u → until_in e u
  into e u i = subst (λ (z : Ended A B). until_in z u) i.next.says
      (record { value = i.value; front = i.front; back = i.back; is = i.is; next = (refl, i.next.is); split = i.split })

  stop : (e : Ended A B) (u : List ℕ) → Image ended Q.In e u → until_in e u
  stop e u i = subst (λ (z : Ended A B). until_in z u) i.says i.is

  any : (a : A) → Some (Image (first a) until_in)
  any a = record { value = first a (ended Q.some.value); text = Q.some.text; is = record { value = ended Q.some.value; is = Q.some.is; says = refl } }

  pub until_good : (k : ℕ) (t : List ℕ) → length t < k → Good until_in until_read t (until_read t)
  until_good zero t h = absurd (not-suc-le-zero h)
  until_good (suc k) [] h = record { text = []; split = refl; value = ended Q.some.value; more = Q.some.text; is = Q.some.is; local = λ x al. absurd al }
  until_good (suc k) (c ∷ t) h = subst (Good until_in until_read (c ∷ t)) (sym (turn (c ∷ t))) (by (member c F) (λ x. turn (c ∷ x)) (λ r q. until_good k r (omega arith)))
    where
      by : (b : Bool) → ((x : List ℕ) → until_read (c ∷ x) ≡ cond b (again (c ∷ x)) (finish (c ∷ x))) →
          ((r : List ℕ) → length r < length (c ∷ t) → Good until_in until_read r (until_read r)) →
          Good until_in until_read (c ∷ t) (cond b (again (c ∷ t)) (finish (c ∷ t)))
      by true e ih = moved (Then P.In (λ a. Image (first a) until_in)) until_in again until_read c t e into (again (c ∷ t))
          (chains P.In P.read (λ a. Image (first a) until_in) (λ a r. mapped (first a) (until_read r)) any (c ∷ t) (P.read (c ∷ t)) (P.good (c ∷ t))
          (λ a r f. image_good (first a) until_in until_read r (until_read r) (ih r (shorter P (c ∷ t) r a f))))
      by false e ih = moved (Image ended Q.In) until_in finish until_read c t e stop (finish (c ∷ t))
          (image_good ended Q.In Q.read (c ∷ t) (Q.read (c ∷ t)) (Q.good (c ∷ t)))

  front_heads : (u : List ℕ) → T (heads false F u) → T (heads false (F ++ G) u)
  front_heads [] h = h
  front_heads (c ∷ u) h = member_left c F G h

  back_heads : (u : List ℕ) → T (heads false G u) → T (heads false (F ++ G) u)
  back_heads [] h = h
  back_heads (c ∷ u) h = member_right c F G h

  pub row_leads : (xs : List A) (b : B) (u : List ℕ) → Row P.In Q.In xs b u → T (heads false (F ++ G) u)
  row_leads [] b u i = back_heads u (Q.leads b u i)
  row_leads (x ∷ xs) b u i = subst (λ (z : List ℕ). T (heads false (F ++ G) z)) i.split
      (heads_more (F ++ G) i.front i.back (front_heads i.front (P.leads i.value i.front i.is)))

  pub row_complete : (xs : List A) (b : B) (u r : List ℕ) → Row P.In Q.In xs b u → T (stops (E' b) r) → until_read (u ++ r) ≡ got (record { items = xs; last = b }) r
  row_complete [] b u r i s =
      turn (u ++ r) ∙ heads_apart F G again finish (u ++ r) sep (heads_more G u r (Q.leads b u i)) ∙ ap (mapped ended) (Q.complete b u r i s)
  row_complete (x ∷ xs) b u r i s =
      ap until_read (ap (λ (z : List ℕ). z ++ r) (sym i.split) ∙ append_assoc i.front i.back r)
      ∙ turn (i.front ++ (i.back ++ r))
      ∙ fork_left F again finish (i.front ++ (i.back ++ r)) (heads_more F i.front (i.back ++ r) (P.leads i.value i.front i.is))
      ∙ ap (after (λ a r. mapped (first a) (until_read r))) (P.complete i.value i.front (i.back ++ r) i.is
      (stops_heads false (F ++ G) (E i.value) [] i.back r (fol i.value) absurd (row_leads xs b i.back i.next.1) (none r)))
      ∙ ap (mapped (first i.value)) (row_complete xs b i.back r i.next.1 s)
      ∙ ap (λ (z : A). got (record { items = z ∷ xs; last = b }) r) i.next.0
    where
      none : (r : List ℕ) → T (stops [] r)
      none [] = tt
      none (c ∷ r) = tt

  abbrev pub until : Piece false (F ++ G) (Ended A B) (λ e. E' e.last)
  until = record {
    In = until_in;
    read = until_read;
    good = λ t. until_good (suc (length t)) t (omega arith);
    complete = λ e u r i s. row_complete e.items e.last u r i s;
    leads = λ e u i. row_leads e.items e.last u i;
    some = record { value = ended Q.some.value; text = Q.some.text; is = Q.some.is };
  }
