-- A text with a place for the mark is read as the text without it: one pass takes the mark out, and nothing else is changed but
-- the attribute.
use Rattle.std.specs.Prelude.{if◌then◌else◌, Option, None, Some}
use Prim.Native.Nat.{ℕ, suc, ◌-◌}
use native.Mathlib.Omega.{arith}
use mathlib.Core.Bool.{Bool, true, false, ◌&&◌, not}
use mathlib.Core.List.{List, [], ◌∷◌, ◌++◌, append_assoc}
use mathlib.Core.Path.{◌≡◌, refl, subst, sym, ap, ◌∙◌}
use lib.Dec.{T}
use lib.ListN.{length}
use Rattle.lexis.specs.Text.{bytes, cut, Cut, nowhere, at, later, begins, after, trim}
use Rattle.meaning.specs.Strict.{may}
use Rattle.meaning.specs.Parts.{each, less_all, remove}
use Rattle.meaning.specs.Found.{Found, with_attribute}
use Rattle.meaning.specs.Ordinary.{mark, unmarked, passes, parse}
use Rattle.grammar.specs.Tests.{and_left, and_right}
use Rattle.accord.proofs.Shape.{Shape, In, lit, seq, the, both, absent, first, free, clears}
use Rattle.accord.proofs.Num.{vacant}

-- ── a text with a place for the mark ──
pub record Hole (a b : Shape) (g : List ℕ → List ℕ) : Type 0 where
  pub front : List ℕ
  pub tail : List ℕ
  pub is_front : In a front
  pub is_tail : In b tail
  pub split : (r : List ℕ) → front ++ (r ++ tail) ≡ g r

abbrev pub here : {b : Shape} {v : List ℕ} → In b v → Hole (lit []) b (λ r. r ++ v)
here {v = v} j = record { front = []; tail = v; is_front = the; is_tail = j; split = λ r. refl }

infixr 60 ◌◂◌
abbrev pub ◌◂◌ : {a b c : Shape} {u : List ℕ} {g : List ℕ → List ℕ} → In c u → Hole a b g → Hole (seq c a) b (λ r. u ++ g r)
◌◂◌ {u = u} i h = record {
  front = u ++ h.front;
  tail = h.tail;
  is_front = both i h.is_front;
  is_tail = h.is_tail;
  split = λ r. append_assoc u h.front (r ++ h.tail) ∙ ap (λ (z : List ℕ). u ++ z) (h.split r);
}

abbrev pub inside : {a b c : Shape} {v : List ℕ} {g : List ℕ → List ℕ} → Hole a b g → In c v → Hole a (seq b c) (λ r. g r ++ v)
inside {v = v} h j = record {
  front = h.front;
  tail = h.tail ++ v;
  is_front = h.is_front;
  is_tail = both h.is_tail j;
  split = λ r. ap (λ (z : List ℕ). h.front ++ z) (sym (append_assoc r h.tail v)) ∙ sym (append_assoc h.front (r ++ h.tail) v) ∙ ap (λ (z : List ℕ). z ++ v) (h.split r);
}

-- ── the mark taken out ──

abbrev pub the_mark : List ℕ
the_mark = bytes ", #cuda_tile.ptr_attr<none>"

-- what is left of s, parted at the first m, once every m is taken out
abbrev Less : List ℕ → List ℕ → List ℕ → Cut → Type 0
Less m l s nowhere = l ≡ s
Less m l s (at u t) = l ≡ u ++ less_all m 0 t

less_later : (m l s : List ℕ) (b : ℕ) (k : Cut) → Less m l s k → Less m (b ∷ l) (b ∷ s) (later b k)
less_later m l s b nowhere e = ap (λ (z : List ℕ). b ∷ z) e
less_later m l s b (at u t) e = ap (λ (z : List ℕ). b ∷ z) e

passed : (m p s : List ℕ) → less_all m (length p) s ≡ less_all m 0 (after p s)
passed m [] s = refl
passed m (c ∷ p) [] = refl
passed m (c ∷ p) (b ∷ s) = passed m p s

one_less : (n : ℕ) → suc n - 1 ≡ n
one_less n = omega arith

removed : (x : ℕ) (p s : List ℕ) → Less (x ∷ p) (remove (x ∷ p) s) s (cut (x ∷ p) s)
removed x p [] = refl
removed x p (b ∷ s) = go (begins (x ∷ p) (b ∷ s)) (removed x p s)
  where
    go : (k : Bool) → Less (x ∷ p) (remove (x ∷ p) s) s (cut (x ∷ p) s) →
        Less (x ∷ p) (if k then less_all (x ∷ p) (length (x ∷ p) - 1) s else b ∷ less_all (x ∷ p) 0 s) (b ∷ s) (if k then at [] (after p s) else later b (cut (x ∷ p) s))
    go true h = ap (λ (n : ℕ). less_all (x ∷ p) n s) (one_less (length p)) ∙ passed (x ∷ p) p s
    go false h = less_later (x ∷ p) (remove (x ∷ p) s) s b (cut (x ∷ p) s) h

remove_at : (x : ℕ) (p s u t : List ℕ) → cut (x ∷ p) s ≡ at u t → cut (x ∷ p) t ≡ nowhere → remove (x ∷ p) s ≡ u ++ t
remove_at x p s u t e f =
    subst (Less (x ∷ p) (remove (x ∷ p) s) s) e (removed x p s)
    ∙ ap (λ (z : List ℕ). u ++ z) (subst (Less (x ∷ p) (remove (x ∷ p) t) t) f (removed x p t))

abbrev pass_by : ℕ → List ℕ → Cut → Option Found
pass_by n s nowhere = unmarked s
pass_by n s (at u t) = each with_attribute (passes n (remove the_mark s))

pass : (n : ℕ) (s : List ℕ) → passes (suc n) s ≡ pass_by n (trim s) (cut the_mark (trim s))
unfolding mark
pass n s = go (cut the_mark (trim s))
  where
    go : (k : Cut) → elim k as (λ _. Option Found) [ nowhere ↦ unmarked (trim s) | at u t ↦ each with_attribute (passes n (remove the_mark (trim s))) ] ≡ pass_by n (trim s) k
    go nowhere = refl
    go (at u t) = refl

-- a text that is trimmed, and isn't empty
pub record Trimmed (t : List ℕ) : Type 0 where
  pub same : trim t ≡ t
  pub some : T (not (vacant t))

-- enough passes for a mark
long : (t : List ℕ) → T (not (vacant t)) → (R : Option Found) → ((k : ℕ) → passes (suc (suc k)) t ≡ R) → parse t ≡ R
unfolding parse
long [] e R f = absurd e
long (c ∷ t) e R f = f (length t)

abbrev pub attach : Bool → Found → Found
attach true = with_attribute
attach false = λ r. r

attach_none : (o : Option Found) → o ≡ each (attach false) o
attach_none None = refl
attach_none (Some r) = refl

pub hole_in : {a b : Shape} {g : List ℕ → List ℕ} → Hole a b g → In (seq a b) (g [])
hole_in {a} {b} h = subst (In (seq a b)) (h.split []) (both h.is_front h.is_tail)

-- all that is to be computed of a hole's shapes
abbrev pub fit : Shape → Shape → Bool
fit a b = clears the_mark the_mark a && free the_mark b && free the_mark (seq a b)

module _ {a b : Shape} {g : List ℕ → List ℕ} (h : Hole a b g) (t : T (fit a b)) (e : (r : List ℕ) → Trimmed (g r)) where
  t1 : T (clears the_mark the_mark a && free the_mark b)
  t1 = and_left (clears the_mark the_mark a && free the_mark b) (free the_mark (seq a b)) t

  -- the mark is found where it stands
  found : cut the_mark (h.front ++ (the_mark ++ h.tail)) ≡ at h.front h.tail
  found = first the_mark h.is_front (and_left (clears the_mark the_mark a) (free the_mark b) t1) h.tail

  -- one pass takes it out
  mark_pass : (k : ℕ) → passes (suc k) (g the_mark) ≡ each with_attribute (passes k (g []))
  mark_pass k =
      pass k (g the_mark)
      ∙ ap (λ (t : List ℕ). pass_by k t (cut the_mark t)) ((e the_mark).same ∙ sym (h.split the_mark))
      ∙ ap (pass_by k (h.front ++ (the_mark ++ h.tail))) found
      ∙ ap (λ (t : List ℕ). each with_attribute (passes k t))
      (remove_at 44 (bytes " #cuda_tile.ptr_attr<none>") (h.front ++ (the_mark ++ h.tail)) h.front h.tail found
      (absent the_mark h.is_tail (and_right (clears the_mark the_mark a) (free the_mark b) t1)) ∙ h.split [])

  -- a text with no mark is read at once
  plain_pass : (k : ℕ) → passes (suc k) (g []) ≡ unmarked (g [])
  plain_pass k =
      pass k (g []) ∙ ap (λ (t : List ℕ). pass_by k t (cut the_mark t)) (e []).same
      ∙ ap (pass_by k (g [])) (absent the_mark (hole_in h) (and_right (clears the_mark the_mark a && free the_mark b) (free the_mark (seq a b)) t))

  -- THE LAW of a text with a place for the mark: it is read as the text with none
  pub reads : (m : Bool) → parse (g (may m the_mark)) ≡ each (attach m) (unmarked (g []))
  reads true = long (g the_mark) (e the_mark).some _ (λ k. mark_pass (suc k) ∙ ap (each with_attribute) (plain_pass k))
  reads false = long (g []) (e []).some _ (λ k. plain_pass (suc k) ∙ attach_none (unmarked (g [])))
