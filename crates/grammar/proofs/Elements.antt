-- Scalar names, what stands in a pointer, and what stands in a tile; each with what ends it.
use Rattle.std.specs.Prelude.{ℕ, Bool, false, List, ◌++◌, ◌⊎◌, ◌≡◌, refl, T, ℤ}
use Rattle.std.proofs.Common.{append_assoc, inl, inr, subst, sym, ap, ◌∙◌, ltb→lt}
use Rattle.lexis.specs.Text.{bytes}
use Rattle.scalars.specs.declared.scalar.Scalar.{Scalar}
use Rattle.scalars.specs.declared.scalar.Scalar.TheVariants.{I1}
use Rattle.meaning.specs.Strict.{◌⊕◌, nth, Name, word, words, scalars, scalar_of, Element}
use Rattle.grammar.specs.Piece.{apart, Piece}
use Rattle.grammar.specs.Join.{map, bind, restate}
use Rattle.grammar.specs.Until.{Ended}
use Rattle.grammar.specs.Table.{table, Among, sound_table}
use Rattle.grammar.specs.Spelt.{Spelt, always, listed, listed_to, listed_from, two, in_two, quiet, zipped, zipped_to, zipped_from, among_left, among_right, among_split}
use Rattle.grammar.specs.Several.{figs?, Both}
use Rattle.grammar.proofs.Several.{dims_then}
use Rattle.grammar.specs.Elements.{six, ends, Core, closed, Kern, plain, point, kern_e, flat_core, flat_end, firsts, kern_f, front, core_text, core_mean}

-- ── names ──
abbrev pub named : Piece false (bytes "ibft") Scalar six
named = table six (bytes "ibft") (zipped (λ (s : Scalar). s) words scalars) tt

pub name_to : (s : Scalar) (t : List ℕ) → named.In s t → Spelt always word scalar_of s t
name_to s t i = let p = zipped_to (λ (s : Scalar). s) I1 words scalars s t i in
    record { form = record { index = p.index; within = p.inside }; fine = tt; spells = p.word; says = p.value }

pub name_from : (s : Scalar) (t : List ℕ) → Spelt always word scalar_of s t → named.In s t
name_from s t n = zipped_from (λ (s : Scalar). s) I1 words scalars refl n.form.index (ltb→lt n.form.index 22 n.form.within) s t n.spells n.says

abbrev pub names : Piece false (bytes "ibft") Scalar six
names = restate named (Spelt always word scalar_of) name_to name_from

-- ── what stands in a pointer, and its end w: with or without the mark ──
abbrev pub close : (w : List ℕ) → T (sound_table {A = Bool} quiet (bytes ">,") (listed (ends w) (λ m. m) two)) → Scalar → Piece false (bytes ">,") Core quiet
close w h s = map (closed s) quiet (table quiet (bytes ">,") (listed (ends w) (λ m. m) two) h) (λ m. tt)

module _ (w : List ℕ) (h : T (sound_table {A = Bool} quiet (bytes ">,") (listed (ends w) (λ m. m) two))) where
  abbrev pub pointee_plain : Piece false (bytes "ibft") Core quiet
  pointee_plain = bind names (λ s. false) (λ s. bytes ">,") (close w h) (λ s. tt) (λ s b. absurd)

  abbrev pub pointee_text : Both Name Bool → List ℕ
  pointee_text p = word p.left ⊕ ends w p.right

  abbrev pub pointee_mean : Both Name Bool → Core
  pointee_mean p = closed (scalar_of p.left) p.right

  pub pointee_to : (c : Core) (t : List ℕ) → pointee_plain.In c t → Spelt always pointee_text pointee_mean c t
  pointee_to c t i =
      let m = listed_to (ends w) (λ (m : Bool). m) two i.next.value i.back i.next.is in
      record {
        form = record { left = i.is.form; right = m.form };
        fine = tt;
        spells = (λ j. (i.is.spells j) ++ (m.spells j)) ∙ i.split;
        says = (λ j. closed (i.is.says j) (m.says j)) ∙ i.next.says;
      }

  pub pointee_from : (c : Core) (t : List ℕ) → Spelt always pointee_text pointee_mean c t → pointee_plain.In c t
  pointee_from c t s = record {
    value = scalar_of s.form.left;
    front = word s.form.left;
    back = ends w s.form.right;
    is = record { form = s.form.left; fine = tt; spells = refl; says = refl };
    next = record {
      value = s.form.right;
      is = listed_from (ends w) (λ (m : Bool). m) two s.form.right (in_two s.form.right) s.form.right
          (ends w s.form.right) refl refl;
      says = s.says;
    };
    split = s.spells;
  }

  abbrev pub pointee : Piece false (bytes "ibft") Core quiet
  pointee = restate pointee_plain (Spelt always pointee_text pointee_mean) pointee_to pointee_from

-- ── a tile's element, with the tile's end ──
abbrev pub kern : Piece false (bytes "ibftp!") Kern kern_e
kern = table kern_e (bytes "ibftp!") (zipped plain words scalars ++ listed (front (bytes "ptr<")) (λ p. point) two) tt

abbrev pub kern_tail : (k : Kern) → Piece false (kern_f k) Core quiet
kern_tail (plain s) = table quiet (firsts (flat_end s)) (flat_end s) tt
kern_tail point = pointee (bytes ">>") tt

abbrev pub kern_sep : (k : Kern) → T (apart (kern_f k) (kern_e k))
kern_sep (plain s) = tt
kern_sep point = tt

abbrev pub core_plain : Piece false (bytes "ibftp!") Core quiet
core_plain = bind kern (λ k. false) kern_f kern_tail kern_sep (λ k b. absurd)

pub core_to : (c : Core) (t : List ℕ) → core_plain.In c t → Spelt always core_text core_mean c t
core_to c t i = by (among_split (zipped plain words scalars) (listed (front (bytes "ptr<")) (λ p. point) two) i.value i.front i.is)
  where
    on_plain : (s : Scalar) (b : List ℕ) → (kern_tail (plain s)).In c b → (n : Name) → scalar_of n ≡ s → word n ++ b ≡ t → Spelt always core_text core_mean c t
    on_plain s b (inl p) n e h = record { form = Element.plain n; fine = tt; spells = ap (λ (z : List ℕ). word n ++ z) p.0 ∙ h; says = ap flat_core e ∙ p.1 }
    on_plain s b (inr p) n e h = absurd p

    on_point : (b : List ℕ) → (kern_tail point).In c b → (p : Bool) → front (bytes "ptr<") p ++ b ≡ t → Spelt always core_text core_mean c t
    on_point b s p h = record {
      form = Element.pointer (record { front = p; name = s.form.left; marked = s.form.right });
      fine = tt;
      spells = text s.form.left s.form.right ∙ ap (λ (z : List ℕ). front (bytes "ptr<") p ++ z) s.spells ∙ h;
      says = s.says;
    }
      where
        text : (n : Name) (m : Bool) → core_text (Element.pointer (record { front = p; name = n; marked = m })) ≡ front (bytes "ptr<") p ++ (word n ⊕ ends (bytes ">>") m)
        text n m = simp append_assoc

    by : Among (zipped plain words scalars) i.value i.front ⊎ Among (listed (front (bytes "ptr<")) (λ p. point) two) i.value i.front → Spelt always core_text core_mean c t
    by (inl a) = let p = zipped_to plain I1 words scalars i.value i.front a in
        on_plain (nth I1 scalars p.index) i.back (subst (λ (k : Kern). (kern_tail k).In c i.back) (sym p.value) i.next) (record { index = p.index; within = p.inside }) refl
        (ap (λ (z : List ℕ). z ++ i.back) p.word ∙ i.split)
    by (inr a) = let p = listed_to (front (bytes "ptr<")) (λ p. point) two i.value i.front a in
        on_point i.back (subst (λ (k : Kern). (kern_tail k).In c i.back) (sym p.says) i.next) p.form (ap (λ (z : List ℕ). z ++ i.back) p.spells ∙ i.split)

pub core_from : (c : Core) (t : List ℕ) → Spelt always core_text core_mean c t → core_plain.In c t
core_from c t s = by s.form s.spells s.says
  where
    by : (e : Element) → core_text e ≡ t → core_mean e ≡ c → core_plain.In c t
    by (Element.plain n) h e = record {
      value = plain (scalar_of n);
      front = word n;
      back = bytes ">";
      is = among_left (zipped plain words scalars) (listed (front (bytes "ptr<")) (λ p. point) two) (plain (scalar_of n)) (word n)
          (zipped_from plain I1 words scalars refl n.index (ltb→lt n.index 22 n.within) (plain (scalar_of n)) (word n) refl refl);
      next = inl (refl, e);
      split = h;
    }
    by (Element.pointer p) h e = record {
      value = point;
      front = front (bytes "ptr<") p.front;
      back = word p.name ⊕ ends (bytes ">>") p.marked;
      is = among_right (zipped plain words scalars) (listed (front (bytes "ptr<")) (λ p. point) two) point (front (bytes "ptr<") p.front)
          (listed_from (front (bytes "ptr<")) (λ p. point) two p.front (in_two p.front) point (front (bytes "ptr<") p.front) refl refl);
      next = record { form = record { left = p.name; right = p.marked }; fine = tt; spells = refl; says = e };
      split = text p.front p.name p.marked ∙ h;
    }
      where
        text : (f : Bool) (n : Name) (m : Bool) → front (bytes "ptr<") f ++ (word n ⊕ ends (bytes ">>") m) ≡ core_text (Element.pointer (record { front = f; name = n; marked = m }))
        text f n m = simp append_assoc

abbrev pub core : Piece false (bytes "ibftp!") Core quiet
core = restate core_plain (Spelt always core_text core_mean) core_to core_from

-- what stands in a tile, with its end
abbrev pub tile_inside : Piece false (figs? ++ bytes "ibftp!") (Ended ℤ Core) quiet
tile_inside = dims_then core tt always core_text core_mean (λ c t i. i) (λ c t i. i)
