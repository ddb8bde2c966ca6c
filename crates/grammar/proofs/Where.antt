-- The place where a text stops being strict: the length of its longest beginning that begins some strict form.
-- There is one for every text, and no other. Shown from `longest`, which holds of every piece.
use Rattle.std.specs.Prelude.{ℕ, suc, ◌+◌, ◌-◌, ◌≤◌, ◌<◌, List, [], ◌∷◌, ◌++◌, ◌≡◌, refl, length, take, drop}
use Rattle.std.proofs.Common.{arith, subst, sym, ap, ◌∙◌, length-append, length-drop}
use Rattle.std.proofs.Math.Seq.{take-append_seam, drop-append_seam, take-append-add}
use Rattle.meaning.specs.Meant.{mean}
use Rattle.grammar.specs.Piece.{Alike, left, longest}
use Rattle.grammar.proofs.Whole.{reader, read}
use Rattle.grammar.specs.Where.{Beginning, Stops, Place}

pub stops : (t : List ℕ) → Stops t (left (read t))
stops t = let l = longest reader t in let b = l.begin in record {
  text = l.text;
  split = l.split;
  begin = record { form = b.is.form; fine = b.is.fine; more = b.more; text = sym b.is.spells };
  most = λ c s x e g. l.most (c ∷ x) (subst (λ (z : List ℕ). Alike z (c ∷ x)) (sym e) refl)
      (record { value = mean g.form; more = g.more; is = record { form = g.form; fine = g.fine; spells = sym g.text; says = refl } });
}

pub place : (t : List ℕ) (p : ℕ) → p ≤ length t → left (read t) ≡ drop p t → Place t p
place t p h e =
    let s = stops t in
    let l : length s.text ≡ p = (let a = length-append s.text (left (read t)) in let b = ap length s.split in let c = ap length e in let d = length-drop p t in omega arith) in
    record {
      inside = h;
      begins = subst Beginning (sym (take-append_seam s.text (left (read t))) ∙ (λ i. take (l i) (s.split i))) s.begin;
      most = λ k q n b. further (left (read t)) s.text s.split l s.most k q n b;
    }
  where
    further : (r u : List ℕ) → u ++ r ≡ t → length u ≡ p → ((c : ℕ) (s x : List ℕ) → r ≡ c ∷ s → Beginning (u ++ (c ∷ x)) → ⊥) → (k : ℕ) → p < k → k ≤ length t → Beginning (take k t) → ⊥
    further [] u s l m k q n b = let a = ap length (s) in let d = length-append u [] in let f : ⊥ = omega arith in f
    further (c ∷ r) u s l m k q n b = m c r (take (k - p - 1) r) refl
        (subst Beginning ((λ i. take (num i) (sym s i)) ∙ take-append-add u (c ∷ r) (suc (k - p - 1))) b)
      where
        num : k ≡ length u + suc (k - p - 1)
        num = omega arith

pub stopped : (t : List ℕ) → Place t (length (stops t).text)
stopped t =
    let s = stops t in
    place t (length s.text) (let a = ap length s.split in let b = length-append s.text (left (read t)) in omega arith)
    (sym (ap (drop (length s.text)) (sym s.split) ∙ drop-append_seam s.text (left (read t))))

pub one_place : (t : List ℕ) (p q : ℕ) → Place t p → Place t q → p ≡ q
one_place t p q h k =
    let a : p < q → ⊥ = λ l. h.most q l k.inside k.begins in
    let b : q < p → ⊥ = λ l. k.most p l h.inside h.begins in
    omega arith
