-- Laws of the mark passes: what is left without marks is shorter or the text itself; the passes of the definition are those of the code with
-- the attribute set once; fuel past the length says the same.
use Rattle.std.specs.Prelude.{if◌then◌else◌, Option, None, Some}
use Prim.Native.Nat.{ℕ, zero, suc, ◌≤◌, ◌<◌}
use native.Mathlib.Nat.{not-suc-le-zero}
use native.Mathlib.Omega.{arith}
use mathlib.Core.Bool.{Bool, true, false, false≢true}
use mathlib.Core.Path.{◌≡◌, refl, sym, ap, ◌∙◌}
use borrow.Author.Tests.{le-leb, lt-leb}
use lib.Dec.{leb}
use lib.ListN.{length, take}
use lib.Seq.{length-take-le}
use Rattle.lexis.specs.Text.{Text, trim, Cut, nowhere, at, cut, place, found, occurs}
use Rattle.lexis.proofs.Seeking.{cut_nowhere, nowhere_short}
use Rattle.lexis.proofs.Trimming.{trim_within}
use Rattle.meaning.specs.Found.{Found, with_attribute}
use Rattle.meaning.specs.Parts.{each, remove}
use Rattle.meaning.specs.Ordinary.{unmarked, mark, passes, parse, refused, judged}
use Rattle.meaning.specs.declared.Reading.{Reading}
use Rattle.meaning.specs.declared.Refusal.TheVariants.{TooLong}
use Rattle.port.specs.Carried.{carried, answered}
use Rattle.port.specs.Passes.{Rewritten, reads_on}
use Rattle.port.proofs.Making.{marked, answered_is}
use Rattle.port.proofs.Removal.{remove_less, remove_none, remove_without, remove_within, mark_length}

-- ── what is left of s without its marks ──

some_byte : 0 < length mark
some_byte = omega (arith, mark_length)

module _ (s : Text) where
  pub less : occurs mark s ≡ true → length (remove mark s) < length s
  less e = omega (arith, mark_length, remove_less mark some_byte s e)

  -- as long as it was: it has none
  pub without : length s ≤ length (remove mark s) → occurs mark s ≡ false
  without h = by (occurs mark s) refl
    where
      by : (b : Bool) → occurs mark s ≡ b → b ≡ false
      by true e = let k = less e in let f : ⊥ = omega arith in absurd f
      by false e = refl

  pub itself : length s ≤ length (remove mark s) → s ≡ remove mark s
  itself h = sym (remove_without mark some_byte s (without h))

  -- shorter: it has one
  pub with_one : length (remove mark s) < length s → occurs mark s ≡ true
  with_one h = by (occurs mark s) refl
    where
      by : (b : Bool) → occurs mark s ≡ b → b ≡ true
      by true e = refl
      by false e = let k = ap length (remove_without mark some_byte s e) in let f : ⊥ = omega arith in absurd f

-- ── one pass ──

abbrev pass : Option Found → Option Found → Cut → Option Found
pass a b c = elim c [ nowhere ↦ a | at u t ↦ b ]

module _ (a b : Option Found) where
  at_one : (c : Cut) → found c ≡ true → pass a b c ≡ b
  at_one nowhere e = absurd (false≢true e)
  at_one (at u t) e = refl

  at_none : (c : Cut) → found c ≡ false → pass a b c ≡ a
  at_none nowhere e = refl
  at_none (at u t) e = absurd (false≢true (sym e))

  alike : (d : Option Found) (c : Cut) → (found c ≡ true → b ≡ d) → pass a b c ≡ pass a d c
  alike d nowhere f = refl
  alike d (at u t) f = f refl

-- fuel past the length says the same
enough : (n m : ℕ) (s : Text) → length s < n → length s < m → reads_on n s ≡ reads_on m s
enough zero m s h k = absurd (not-suc-le-zero h)
enough (suc n) zero s h k = absurd (not-suc-le-zero k)
enough (suc n) (suc m) s h k =
    alike (unmarked (trim s)) (reads_on n (remove mark (trim s))) (reads_on m (remove mark (trim s))) (cut mark (trim s))
    (λ e. let w = less (trim s) e in let t = trim_within s in enough n m (remove mark (trim s)) (omega arith) (omega arith))

-- ── the attribute, once for all passes ──

twice : (o : Option Found) → each with_attribute (each with_attribute o) ≡ each with_attribute o
unfolding with_attribute
twice None = refl
twice (Some t) = refl

once : (n : ℕ) (s : Text) → each with_attribute (passes n s) ≡ each with_attribute (reads_on n s)
once zero s = refl
once (suc n) s = by (cut mark (trim s)) (once n (remove mark (trim s)))
  where
    by : (c : Cut) → each with_attribute (passes n (remove mark (trim s))) ≡ each with_attribute (reads_on n (remove mark (trim s)))
        → each with_attribute (pass (unmarked (trim s)) (each with_attribute (passes n (remove mark (trim s)))) c)
        ≡ each with_attribute (pass (unmarked (trim s)) (reads_on n (remove mark (trim s))) c)
    by nowhere e = refl
    by (at u t) e = twice (passes n (remove mark (trim s))) ∙ e

-- ── for the reader: u is the trimmed text, t what is read on ──

module _ (s u t : Text) (q : u ≡ trim s) (e : t ≡ remove mark u) where
  -- without a mark
  module _ (h : length t ≡ length u) where
    same_text : t ≡ u
    same_text = e ∙ sym (itself u (let k = ap length e in omega arith))

    no_mark : occurs mark (trim s) ≡ false
    no_mark = ap (occurs mark) (sym q) ∙ without u (let k = ap length e in omega arith)

    pub read_here : (n : ℕ) → unmarked t ≡ reads_on (suc n) s
    read_here n = ap unmarked (same_text ∙ q) ∙ sym (at_none (unmarked (trim s)) (reads_on n (remove mark (trim s))) (cut mark (trim s)) no_mark)

    parse_here : unmarked t ≡ parse s
    unfolding parse
    parse_here = ap unmarked (same_text ∙ q) ∙ sym (at_none (unmarked (trim s)) (each with_attribute (passes (length s) (remove mark (trim s)))) (cut mark (trim s)) no_mark)

    pub unmarked_answer : {x : Reading} → length s ≤ 1024 → x ≡ answered false (each (carried 8) (unmarked t))
        → x ≡ (if leb (length s) 1024 then judged 8 (parse s) else refused 8 TooLong 0)
    unmarked_answer l f = f ∙ answered_is false (unmarked t) ∙ ap (judged 8) (plain (unmarked t) ∙ parse_here)
        ∙ sym (ap (λ (b : Bool). if b then judged 8 (parse s) else refused 8 TooLong 0) (le-leb (length s) 1024 l))
      where
        plain : (o : Option Found) → each (marked false) o ≡ o
        plain None = refl
        plain (Some x) = refl

  -- with one
  module _ (h : length t ≡ length u → ⊥) where
    one_mark : occurs mark (trim s) ≡ true
    one_mark = ap (occurs mark) (sym q) ∙ with_one u (let k = ap length e in let w = remove_within mark u in omega arith)

    pub shorter : length t < length s
    shorter = let k = ap length e in let w = less u (ap (occurs mark) q ∙ one_mark) in let z = ap length q in let v = trim_within s in omega arith

    pub read_next : (n m : ℕ) → length s ≤ n → length t ≤ m → reads_on (suc m) t ≡ reads_on (suc n) s
    read_next n m l k =
        let w = shorter in
        enough (suc m) n t (omega arith) (omega arith) ∙ ap (reads_on n) (e ∙ ap (remove mark) q)
        ∙ sym (at_one (unmarked (trim s)) (reads_on n (remove mark (trim s))) (cut mark (trim s)) one_mark)

    pub marked_answer : {x : Reading} (m : ℕ) → length t ≤ m → length s ≤ 1024 → x ≡ answered true (each (carried 8) (reads_on (suc m) t))
        → x ≡ (if leb (length s) 1024 then judged 8 (parse s) else refused 8 TooLong 0)
    unfolding parse
    marked_answer m k l f =
        let w = shorter in
        let r : reads_on (suc m) t ≡ reads_on (length s) (remove mark (trim s)) = enough (suc m) (length s) t (omega arith) (omega arith) ∙ ap (reads_on (length s)) (e ∙ ap (remove mark) q) in
        f ∙ answered_is true (reads_on (suc m) t)
        ∙ ap (λ (o : Option Found). judged 8 (each with_attribute o)) r
        ∙ ap (judged 8) (sym (once (length s) (remove mark (trim s)))
        ∙ sym (at_one (unmarked (trim s)) (each with_attribute (passes (length s) (remove mark (trim s)))) (cut mark (trim s)) one_mark))
        ∙ sym (ap (λ (b : Bool). if b then judged 8 (parse s) else refused 8 TooLong 0) (le-leb (length s) 1024 l))

pub over_long : (s : Text) {x : Reading} → 1024 < length s → x ≡ refused 8 TooLong 0 → x ≡ (if leb (length s) 1024 then judged 8 (parse s) else refused 8 TooLong 0)
over_long s h e = e ∙ sym (ap (λ (b : Bool). if b then judged 8 (parse s) else refused 8 TooLong 0) (lt-leb (length s) 1024 h))

-- ── what the code knows of the room ──

module _ {s room : Text} {n : ℕ} (g : Rewritten s room n) where
  pub to_room : n < length s → take n room ≡ remove mark s
  to_room h = g.is h

  pub to_text : length s ≤ n → s ≡ remove mark s
  to_text h = itself s (let k = g.left in omega arith)

pub rewritten : (s : Text) {room : Text} {n : ℕ} → n ≤ length room → take n room ≡ remove mark s → Rewritten s room n
rewritten s {room} {n} h e = record { left = sym (length-take-le n room h) ∙ ap length e; fits = λ k. h; is = λ k. e }

pub unwritten : (s room : Text) → place (cut mark s) ≡ None → Rewritten s room (length s)
unwritten s room e = record {
  left = ap length (sym (remove_none mark some_byte s (cut_nowhere mark s e)));
  fits = λ k. let f : ⊥ = omega arith in absurd f;
  is = λ k. let f : ⊥ = omega arith in absurd f;
}

-- what is read on stands in the room, where it is shorter
pub on_room : {u room t : Text} {m : ℕ} → Rewritten u room m → t ≡ remove mark u → (length t ≡ length u → ⊥) → t ≡ take m room
on_room {u} g e h = e ∙ sym (g.is (let k = ap length e in let l = g.left in let w = remove_within mark u in omega arith))

-- a text that is shorter than a mark has none
pub too_short : (s : Text) → length s < 27 → place (cut mark s) ≡ None
too_short s h = nowhere_short mark s (omega (arith, mark_length))
