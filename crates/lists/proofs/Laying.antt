-- Lists laid into arrays, over the capacity: one entry more, and what a loop over the parts between the bytes x keeps.
-- The parts that are passed stand in what is kept; the list so far is laid from them.

use mathlib.Core.Path.{◌≡◌, refl, sym, ap, subst, ◌∙◌}
use mathlib.Core.Bool.{true}
use mathlib.Core.List as L
use mathlib.Core.List.{List, [], ◌∷◌, ◌++◌, append_assoc, map-append}
use Prim.Native.Nat.{ℕ, suc, ◌+◌, ◌≤◌, ◌<◌}
use native.Mathlib.Numerals.{add-one}
use native.Mathlib.Omega.{arith}
use lib.Dec.{eqb}
use lib.IntN.{ℤ}
use lib.ListN.{length, take, drop, set, length-drop, length-append}
use lib.Seq.{take_all, set_out}
use Rattle.lexis.specs.Text.{Text, until, split}
use Rattle.lexis.proofs.Seeking.{until_take}
use Rattle.lexis.proofs.Splitting.{split_more, split_last}
use Rattle.meaning.specs.Parts.{last, front}
use Rattle.meaning.proofs.Slots.{slot}
use Rattle.meaning.specs.Found.{Came, read, fell, Entry, stands, padded, counted, fallen, unused}
use Rattle.lists.specs.Laid.{Laid, laid}
use Rattle.lists.specs.Push.{told, push}
use Rattle.lists.specs.declared.row.Tally.{Tally}

-- ── one entry more ──

abbrev pub value : Entry → ℤ
value e = e.value

counted_more : (es : List Entry) (e : Entry) → fallen es + counted e.came ≡ fallen (es ++ e ∷ [])
counted_more [] e = omega arith
counted_more (f ∷ es) e = let h : fallen es + counted e.came ≡ fallen (es ++ e ∷ []) = counted_more es e in omega arith

told_is : (n : ℕ) (c : Came) → told (record { fell = n }) c ≡ record { fell = n + counted c }
told_is n read = ap {B = Tally} (λ (m : ℕ). record { fell = m }) {x = n} {y = n + 0} (omega arith)
told_is n fell = refl

pub laid_more : (w : ℕ) (es : List Entry) (e : Entry) → push (laid w (stands es)) e ≡ laid w (stands (es ++ e ∷ []))
laid_more w es e =
    let m : L.map value (es ++ e ∷ []) ≡ L.map value es ++ e.value ∷ [] = map-append value es (e ∷ []) in
    let k : length (L.map value es) + 1 ≡ length (L.map value es ++ e.value ∷ []) = sym (length-append (L.map value es) (e.value ∷ [])) in
    λ i. record {
      values = (slot w (L.map value es) e.value ∙ ap (padded w) (sym m)) i;
      row = record {
        len = (k ∙ ap length (sym m)) i;
        stood = true;
        tally = (told_is (fallen es) e.came ∙ ap {B = Tally} (λ (n : ℕ). record { fell = n }) (counted_more es e)) i;
      };
    }

-- ── what a loop keeps ──

counted_few : (c : Came) → counted c ≤ 1
counted_few read = omega arith
counted_few fell = omega arith

pub few_of : (es : List Entry) → fallen es ≤ length (L.map value es)
few_of [] = omega arith
few_of (e ∷ es) = let h : fallen es ≤ length (L.map value es) = few_of es in let k = counted_few e.came in omega arith

pub front_of : (ps : List Text) (p : Text) → front (ps ++ p ∷ []) ≡ ps
front_of [] p = refl
front_of (q ∷ []) p = refl
front_of (q ∷ r ∷ ps) p = ap (λ (l : List Text). q ∷ l) (front_of (r ∷ ps) p)

pub last_of : (ps : List Text) (p : Text) → last (ps ++ p ∷ []) ≡ p
last_of [] p = refl
last_of (q ∷ []) p = refl
last_of (q ∷ r ∷ ps) p = last_of (r ∷ ps) p

-- at the capacity w: the parts of s that are passed, t behind them, and the list l of their entries
module _ (w x : ℕ) (said : Text → Entry) where
  pub record Kept (s t : Text) (l : Laid) : Type 0 where
    pub passed : List Text
    pub parts : split x s ≡ passed ++ split x t
    pub is : l ≡ laid w (stands (L.map said passed))
    pub room : l.row.len + length t ≤ length s
    pub few : l.row.tally.fell ≤ l.row.len

  pub begun : {s : Text} {l : Laid} → l ≡ laid w unused → Kept s s l
  begun e = record { passed = []; parts = refl; is = e; room = rw e (omega arith); few = rw e (omega arith) }

  -- the next part is k bytes, and l' is the list with it
  module _ {s t : Text} {l l' : Laid} {k : ℕ} {e : Entry} (g : Kept s t l) (u : k ≡ length (until (eqb x) t)) (p : e ≡ said (take k t)) (q : l' ≡ push l e) where
    first : take k t ≡ until (eqb x) t
    first = rw (u, until_take (eqb x) t)

    grown : l' ≡ laid w (stands (L.map said (g.passed ++ take k t ∷ [])))
    grown =
        q ∙ (λ i. push (g.is i) (p i)) ∙ laid_more w (L.map said g.passed) (said (take k t))
        ∙ ap (λ (es : List Entry). laid w (stands es)) (sym (map-append said g.passed (take k t ∷ [])))

    pub step : {t' : Text} → t' ≡ drop (k + 1) t → k < length t → Kept s t' l'
    step r h = subst (λ (y : Text). Kept s y l') (sym r) (record {
      passed = g.passed ++ take k t ∷ [];
      parts =
          g.parts ∙ ap (λ (ps : List Text). g.passed ++ ps) (split_more x t (rw u at h) ∙ sym (λ i. first i ∷ split x (drop (suc (u i)) t)))
          ∙ sym (append_assoc g.passed (take k t ∷ []) (split x (drop (suc k) t)))
          ∙ ap (λ (n : ℕ). (g.passed ++ take k t ∷ []) ++ split x (drop n t)) (sym (add-one k));
      is = grown;
      room = rw (ap (λ (m : Laid). m.row.len) q, length-drop) (omega (arith, g.room));
      few = rw grown (few_of (L.map said (g.passed ++ take k t ∷ [])));
    })

    pub end : length t ≤ k → l' ≡ laid w (stands (L.map said (split x s)))
    end h = grown ∙ ap (λ (ps : List Text). laid w (stands (L.map said ps)))
        (sym (g.parts ∙ ap (λ (ps : List Text). g.passed ++ ps) (split_last x t (rw u at h) ∙ ap (λ (y : Text). y ∷ []) (sym first))))

  -- t is the last part
  module _ {s t : Text} {l : Laid} (g : Kept s t l) (h : length t ≤ length (until (eqb x) t)) where
    alone : split x s ≡ g.passed ++ t ∷ []
    alone =
        g.parts ∙ ap (λ (ps : List Text). g.passed ++ ps)
        (split_last x t h ∙ ap (λ (y : Text). y ∷ []) (sym (until_take (eqb x) t) ∙ take_all (length (until (eqb x) t)) t h))

    pub dims_front : l ≡ laid w (stands (L.map said (front (split x s))))
    dims_front = g.is ∙ ap (λ (ps : List Text). laid w (stands (L.map said ps))) (sym (ap front alone ∙ front_of g.passed t))

    pub part_last : t ≡ last (split x s)
    part_last = sym (ap last alone ∙ last_of g.passed t)

  pub last_is : (t : Text) {k : ℕ} → k ≡ length (until (eqb x) t) → length t ≤ k → length t ≤ length (until (eqb x) t)
  last_is t u h = rw u at h

-- past the end storing changes nothing
pub unset : (l : List ℤ) (i : ℕ) (a : ℤ) → length l ≤ i → set l i a ≡ l
unset l i a h = set_out l i a h
