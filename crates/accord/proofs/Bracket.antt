-- The cut at the matching bracket, and its computed test over shapes: the depth behind each part.
use Rattle.std.specs.Prelude.{if◌then◌else◌, Option, None, Some}
use mathlib.Core.Path.{◌≡◌, refl, ap, subst, sym, ◌∙◌}
use Prim.Native.Nat.{ℕ, suc}
use mathlib.Core.Bool.{Bool, true, false, cond, ◌||◌, not}
use mathlib.Core.List.{List, [], ◌∷◌, ◌++◌, append_assoc, append-nil}
use lib.Dec.{T, eqb, eqb→eq}
use Rattle.lexis.specs.Text.{Cut, at, later}
use Rattle.lexis.proofs.Seeking.{turned}
use Rattle.meaning.specs.Parts.{shallower, depth, close}
use Rattle.grammar.specs.Tests.{every, and_left, and_right, TNotEq}
use Rattle.accord.proofs.Shape.{Shape, In, lit, run, alt, seq, the, all, left, right, both, pushes, pushes-++, pushes_at}

abbrev pub moves : ℕ → List ℕ → Option ℕ
moves d [] = Some d
moves d (c ∷ s) = elim (depth d c) [ None ↦ None | Some e ↦ moves e s ]

abbrev agree : Option ℕ → Option ℕ → Option ℕ
agree None o = None
agree (Some d) None = None
agree (Some d) (Some e) = cond (eqb d e) (Some d) None

abbrev pub deep : ℕ → Shape → Option ℕ
deep d (lit l) = moves d l
deep d (run C) = cond (C 60 || C 62) None (Some d)
deep d (alt a b) = agree (deep d a) (deep d b)
deep d (seq a b) = elim (deep d a) [ None ↦ None | Some e ↦ deep e b ]

-- the cut k of a text that begins with t goes on behind t, at the depth found
abbrev pub Reach : Option ℕ → Cut → List ℕ → List ℕ → Type 0
Reach None k t s = Unit {0}
Reach (Some e) k t s = k ≡ pushes t (close e s)

lift : (c : ℕ) (o : Option ℕ) (k : Cut) (t s : List ℕ) → Reach o k t s → Reach o (later c k) (c ∷ t) s
lift c None k t s r = tt
lift c (Some e) k t s r = ap (later c) r

lit_ok : (l : List ℕ) (d : ℕ) (s : List ℕ) → Reach (moves d l) (close d (l ++ s)) l s
lit_ok [] d s = refl
lit_ok (c ∷ l) d s = step (λ e. lit_ok l e s) (depth d c)
  where
    step : ((e : ℕ) → Reach (moves e l) (close e (l ++ s)) l s) → (o : Option ℕ) →
        Reach (elim o [ None ↦ None | Some e ↦ moves e l ]) (elim o [ None ↦ at [] (l ++ s) | Some e ↦ later c (close e (l ++ s)) ]) (c ∷ l) s
    step ih None = tt
    step ih (Some e) = lift c (moves e l) (close e (l ++ s)) l s (ih e)

-- a byte of a class that lacks x is not x
pub lacks : (C : ℕ → Bool) (x : ℕ) → T (not (C x)) → (c : ℕ) → T (C c) → T (not (eqb x c))
lacks C x n c h = go (eqb x c) (λ e. no_both (C x) n (subst (λ (z : ℕ). T (C z)) (sym (eqb→eq x c e)) h))
  where
    no_both : (k : Bool) → T (not k) → T k → ⊥
    no_both true n h = n
    no_both false n h = h

    go : (k : Bool) → (T k → ⊥) → T (not k)
    go true f = f tt
    go false f = tt

pub apart : (C : ℕ → Bool) (x b : ℕ) → T (not (C x)) → T (C b) → eqb b x ≡ false
apart C x b n h = turned b x ∙ TNotEq (eqb x b) (lacks C x n b h)

run_ok : (C : ℕ → Bool) → T (not (C 60)) → T (not (C 62)) → (t : List ℕ) → T (every C t) → (d : ℕ) (s : List ℕ) → close d (t ++ s) ≡ pushes t (close d s)
run_ok C n m [] h d s = refl
run_ok C n m (b ∷ t) h d s =
    ap (λ (o : Option ℕ). elim o as (λ _. Cut) [ None ↦ at [] (t ++ s) | Some e ↦ later b (close e (t ++ s)) ])
    (ap (λ (k : Bool). if k then Some (suc d) else if eqb b 62 then shallower d else Some d) (apart C 60 b n (and_left (C b) (every C t) h))
    ∙ ap (λ (k : Bool). if k then shallower d else Some d) (apart C 62 b m (and_left (C b) (every C t) h)))
    ∙ ap (later b) (run_ok C n m t (and_right (C b) (every C t) h) d s)

run_reach : (C : ℕ → Bool) (t : List ℕ) → T (every C t) → (d : ℕ) (s : List ℕ) → Reach (cond (C 60 || C 62) None (Some d)) (close d (t ++ s)) t s
run_reach C t h d s = go (C 60) (C 62) (λ n m. run_ok C n m t h d s)
  where
    go : (x y : Bool) → (T (not x) → T (not y) → close d (t ++ s) ≡ pushes t (close d s)) → Reach (cond (x || y) None (Some d)) (close d (t ++ s)) t s
    go true y f = tt
    go false true f = tt
    go false false f = f tt tt

same : (k : Bool) (d e : ℕ) → (T k → d ≡ e) → (c : Cut) (t s : List ℕ) → c ≡ pushes t (close e s) → Reach (cond k (Some d) None) c t s
same true d e q c t s r = r ∙ ap (λ (z : ℕ). pushes t (close z s)) (sym (q tt))
same false d e q c t s r = tt

agree_left : (o p : Option ℕ) (k : Cut) (t s : List ℕ) → Reach o k t s → Reach (agree o p) k t s
agree_left None p k t s r = tt
agree_left (Some d) None k t s r = tt
agree_left (Some d) (Some e) k t s r = same (eqb d e) d d (λ _. refl) k t s r

agree_right : (o p : Option ℕ) (k : Cut) (t s : List ℕ) → Reach p k t s → Reach (agree o p) k t s
agree_right None p k t s r = tt
agree_right (Some d) None k t s r = tt
agree_right (Some d) (Some e) k t s r = same (eqb d e) d e (eqb→eq d e) k t s r

chain : (b : Shape) (o : Option ℕ) (k : Cut) (u v s : List ℕ) → Reach o k u (v ++ s) → ((e : ℕ) → Reach (deep e b) (close e (v ++ s)) v s) →
    Reach (elim o [ None ↦ None | Some e ↦ deep e b ]) k (u ++ v) s
chain b None k u v s r f = tt
chain b (Some e) k u v s r f = on (deep e b) (f e)
  where
    on : (o : Option ℕ) → Reach o (close e (v ++ s)) v s → Reach o k (u ++ v) s
    on None q = tt
    on (Some g) q = r ∙ ap (pushes u) q ∙ sym (pushes-++ u v (close g s))

-- THE LAW: the depth behind a text of the shape
pub inside : {sh : Shape} {t : List ℕ} → In sh t → (d : ℕ) (s : List ℕ) → Reach (deep d sh) (close d (t ++ s)) t s
inside (the {l = l}) d s = lit_ok l d s
inside (all {C = C} {t = t} h) d s = run_reach C t h d s
inside (left {a = a} {b = b} {t = t} i) d s = agree_left (deep d a) (deep d b) (close d (t ++ s)) t s (inside i d s)
inside (right {a = a} {b = b} {t = t} i) d s = agree_right (deep d a) (deep d b) (close d (t ++ s)) t s (inside i d s)
inside (both {a = a} {b = b} {u = u} {v = v} i j) d s =
    rw (append_assoc u v s) (chain b (deep d a) (close d (u ++ (v ++ s))) u v s (inside i d (v ++ s)) (λ e. inside j e s))

abbrev zeroth : Option ℕ → Bool
zeroth None = false
zeroth (Some d) = eqb d 0

abbrev pub level : Shape → Bool
level sh = zeroth (deep 0 sh)

pub enclosed_by : {sh : Shape} {t : List ℕ} → In sh t → T (level sh) → (s : List ℕ) → close 0 (t ++ (62 ∷ s)) ≡ at t s
enclosed_by {sh} {t} i h s = go (deep 0 sh) h (inside i 0 (62 ∷ s)) ∙ pushes_at t [] s ∙ ap (λ (a : List ℕ). at a s) (append-nil t)
  where
    go : (o : Option ℕ) → T (zeroth o) → Reach o (close 0 (t ++ (62 ∷ s))) t (62 ∷ s) → close 0 (t ++ (62 ∷ s)) ≡ pushes t (at [] s)
    go None h r = absurd h
    go (Some d) h r = r ∙ ap (λ (z : ℕ). pushes t (close z (62 ∷ s))) (eqb→eq d 0 h)
