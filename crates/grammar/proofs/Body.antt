-- What stands in a tensor view, with its end: dimensions, name, strides (which may be absent at rank 0 only), mark.
use Rattle.std.specs.Prelude.{ℕ, Bool, true, false, ◌&&◌, List, [], ◌∷◌, ◌++◌, ◌⊎◌, ◌≡◌, refl, T, ℤ}
use Rattle.std.proofs.Common.{append_assoc, append-nil, inl, inr, subst, sym, ap, ◌∙◌}
use mathlib.Core.List as L
use Rattle.lexis.specs.Text.{bytes}
use Rattle.meaning.specs.Strict as S
use Rattle.scalars.specs.declared.scalar.Scalar.{Scalar}
use Rattle.meaning.specs.Decimal.{Dim, dim, size, in64}
use Rattle.meaning.specs.Strict.{◌⊕◌, Commas, comma, commas, values, dims, Name, word, scalar_of, mark, Tensor, Strides, body}
use Rattle.meaning.specs.Meant.{each_of, tensor_ok, meant_strides}
use Rattle.grammar.specs.Tests.{and_left, and_right, and_in}
use Rattle.grammar.specs.Piece.{apart, Piece}
use Rattle.grammar.specs.Join.{bind, yield, restate}
use Rattle.grammar.specs.Until.{Ended, ended}
use Rattle.grammar.specs.Table.{table, Among}
use Rattle.grammar.specs.Spelt.{Spelt, always, listed, listed_to, listed_from, two, in_two, quiet, among_left, among_right, among_split}
use Rattle.grammar.specs.Several.{figs?, Both}
use Rattle.grammar.proofs.Several.{dim64, dims_then, list_then}
use Rattle.grammar.specs.Pair.{pair, turned, respelt, chosen}
use Rattle.grammar.specs.Elements.{six, ends}
use Rattle.grammar.proofs.Elements.{names}

abbrev pub id : {A : Type 0} → A → A
id a = a

-- the strides' list with what ends it
abbrev pub bracket : List ℕ → Bool → List ℕ
bracket w m = bytes "]" ⊕ ends w m

abbrev pub brackets : Piece false (bytes "]") Bool quiet
brackets = chosen quiet (bytes "]") (bracket (bytes ">")) id two in_two tt

abbrev pub strides_list : Piece false figs? (Ended ℤ Bool) quiet
strides_list = list_then dim64 tt in64 dim size (λ a t i. i) (λ a t i. i) brackets tt (λ a. tt) always (bracket (bytes ">")) id (λ b t i. i) (λ b t i. i)

abbrev pub sl_ok : Both (Commas Dim) Bool → Bool
sl_ok p = each_of in64 (values p.left) && true

abbrev pub sl_text : Both (Commas Dim) Bool → List ℕ
sl_text p = commas dim p.left ⊕ bracket (bytes ">") p.right

abbrev pub sl_mean : Both (Commas Dim) Bool → Ended ℤ Bool
sl_mean p = record { items = L.map size (values p.left); last = p.right }

abbrev pub intro : Bool → List ℕ
intro s = comma s ⊕ bytes "strides=["

abbrev pub must : Piece false (bytes ",") (Ended ℤ Bool) quiet
must = pair (chosen quiet (bytes ",") intro (λ (s : Bool). s) two in_two tt) (λ s. false) (λ s. figs?) (λ s. strides_list) (λ s. tt) (λ s b. absurd)
    always intro id (λ s. sl_ok) sl_text (λ s. sl_mean) (λ a t i. i) (λ a t i. i) (λ a b t i. i) (λ a b t i. i)

-- ── after the name ──
abbrev pub rest_text : Both Strides Bool → List ℕ
rest_text p = S.strides p.left (ends (bytes ">") p.right)

abbrev pub rest_mean : Both Strides Bool → Ended ℤ Bool
rest_mean p = record { items = meant_strides p.left; last = p.right }

abbrev pub ok0 : Both Strides Bool → Bool
ok0 p = tensor_ok [] p.left

abbrev pub given_ok : Strides → Bool
given_ok Strides.absent = false
given_ok (Strides.given s c) = each_of in64 (values c)

abbrev pub ok1 : Both Strides Bool → Bool
ok1 p = given_ok p.left

pub must_to : (e : Ended ℤ Bool) (t : List ℕ) → must.In e t → Spelt ok1 rest_text rest_mean e t
must_to e t s = record {
  form = record { left = Strides.given s.form.left s.form.right.left; right = s.form.right.right };
  fine = and_left (each_of in64 (values s.form.right.left)) true s.fine;
  spells = sym (append_assoc (comma s.form.left) (bytes "strides=[") (sl_text s.form.right)) ∙ s.spells;
  says = s.says;
}

pub must_from : (e : Ended ℤ Bool) (t : List ℕ) → Spelt ok1 rest_text rest_mean e t → must.In e t
must_from e t s = by s.form.left s.form.right s.fine s.spells s.says
  where
    by : (g : Strides) (m : Bool) → T (given_ok g) → rest_text (record { left = g; right = m }) ≡ t → rest_mean (record { left = g; right = m }) ≡ e → must.In e t
    by Strides.absent m h p q = absurd h
    by (Strides.given s c) m h p q = record {
      form = record { left = s; right = record { left = c; right = m } };
      fine = and_in (each_of in64 (values c)) true h tt;
      spells = append_assoc (comma s) (bytes "strides=[") (sl_text (record { left = c; right = m })) ∙ p;
      says = q;
    }

abbrev pub needed : Piece false (bytes ",") (Ended ℤ Bool) quiet
needed = restate must (Spelt ok1 rest_text rest_mean) must_to must_from

pub data Turn : Type 0 where
  close : Bool → Turn
  list : Turn

abbrev pub turn_n : Turn → Bool
turn_n (close m) = true
turn_n list = false

abbrev pub turn_f : Turn → List ℕ
turn_f (close m) = []
turn_f list = figs?

abbrev pub turn_q : (u : Turn) → Piece (turn_n u) (turn_f u) (Ended ℤ Bool) quiet
turn_q (close m) = yield quiet (ended m)
turn_q list = strides_list

abbrev pub turn_sep : (u : Turn) → T (apart (turn_f u) [])
turn_sep (close m) = tt
turn_sep list = tt

abbrev pub maybe_plain : Piece false (bytes ">,") (Ended ℤ Bool) quiet
maybe_plain = bind (table quiet (bytes ">,") (listed (ends (bytes ">")) close two ++ listed intro (λ s. list) two) tt) turn_n turn_f turn_q turn_sep (λ u b h. tt)

pub maybe_to : (e : Ended ℤ Bool) (t : List ℕ) → maybe_plain.In e t → Spelt ok0 rest_text rest_mean e t
maybe_to e t i = by (among_split (listed (ends (bytes ">")) close two) (listed intro (λ s. list) two) i.value i.front i.is)
  where
    by : Among (listed (ends (bytes ">")) close two) i.value i.front ⊎ Among (listed intro (λ s. list) two) i.value i.front → Spelt ok0 rest_text rest_mean e t
    by (inl a) = let p = listed_to (ends (bytes ">")) close two i.value i.front a in
        let q : (turn_q (close p.form)).In e i.back = subst (λ (u : Turn). (turn_q u).In e i.back) (sym p.says) i.next in
        record {
          form = record { left = Strides.absent; right = p.form };
          fine = tt;
          spells = sym (append-nil (ends (bytes ">") p.form)) ∙
              (λ j. (p.spells j) ++ (sym q.1 j)) ∙ i.split;
          says = sym q.0;
        }
    by (inr a) = let p = listed_to intro (λ s. list) two i.value i.front a in
        let q : (turn_q list).In e i.back = subst (λ (u : Turn). (turn_q u).In e i.back) (sym p.says) i.next in
        record {
          form = record { left = Strides.given p.form q.form.left; right = q.form.right };
          fine = and_left (each_of in64 (values q.form.left)) true q.fine;
          spells = sym (append_assoc (comma p.form) (bytes "strides=[") (sl_text q.form)) ∙ (λ j. (p.spells j) ++ (q.spells j)) ∙ i.split;
          says = q.says;
        }

pub maybe_from : (e : Ended ℤ Bool) (t : List ℕ) → Spelt ok0 rest_text rest_mean e t → maybe_plain.In e t
maybe_from e t s = by s.form.left s.form.right s.fine s.spells s.says
  where
    by : (g : Strides) (m : Bool) → T (tensor_ok [] g) → rest_text (record { left = g; right = m }) ≡ t → rest_mean (record { left = g; right = m }) ≡ e → maybe_plain.In e t
    by Strides.absent m h p q = record {
      value = close m;
      front = ends (bytes ">") m;
      back = [];
      is = among_left (listed (ends (bytes ">")) close two) (listed intro (λ s. list) two) (close m) (ends (bytes ">") m)
          (listed_from (ends (bytes ">")) close two m (in_two m) (close m) (ends (bytes ">") m) refl refl);
      next = (sym q, refl);
      split = append-nil (ends (bytes ">") m) ∙ p;
    }
    by (Strides.given s c) m h p q = record {
      value = list;
      front = intro s;
      back = sl_text (record { left = c; right = m });
      is = among_right (listed (ends (bytes ">")) close two) (listed intro (λ s. list) two) list (intro s) (listed_from intro (λ s. list) two s (in_two s) list (intro s) refl refl);
      next = record { form = record { left = c; right = m }; fine = and_in (each_of in64 (values c)) true h tt; spells = refl; says = q };
      split = append_assoc (comma s) (bytes "strides=[") (sl_text (record { left = c; right = m })) ∙ p;
    }

abbrev pub optional : Piece false (bytes ">,") (Ended ℤ Bool) quiet
optional = restate maybe_plain (Spelt ok0 rest_text rest_mean) maybe_to maybe_from

-- ── the whole ──
pub record Tens : Type 0 where
  pub shape : List ℤ
  pub element : Scalar
  pub strides : List ℤ
  pub attribute : Bool

abbrev pub after_f : List ℤ → List ℕ
after_f [] = bytes ">,"
after_f (z ∷ zs) = bytes ","

abbrev pub after : (zs : List ℤ) → Piece false (after_f zs) (Ended ℤ Bool) quiet
after [] = optional
after (z ∷ zs) = needed

abbrev pub after_ok : List ℤ → Both Strides Bool → Bool
after_ok [] = ok0
after_ok (z ∷ zs) = ok1

pub after_to : (zs : List ℤ) (e : Ended ℤ Bool) (t : List ℕ) → (after zs).In e t → Spelt (after_ok zs) rest_text rest_mean e t
after_to [] e t i = i
after_to (z ∷ zs) e t i = i

pub after_from : (zs : List ℤ) (e : Ended ℤ Bool) (t : List ℕ) → Spelt (after_ok zs) rest_text rest_mean e t → (after zs).In e t
after_from [] e t i = i
after_from (z ∷ zs) e t i = i

pub after_sep : (zs : List ℤ) → T (apart (after_f zs) (bytes "6"))
after_sep [] = tt
after_sep (z ∷ zs) = tt

abbrev pub tens : Ended ℤ Scalar → Ended ℤ Bool → Tens
tens e a = record { shape = e.items; element = e.last; strides = a.items; attribute = a.last }

abbrev pub dims_name : Piece false (figs? ++ bytes "ibft") (Ended ℤ Scalar) six
dims_name = dims_then names tt always word scalar_of (λ c t i. i) (λ c t i. i)

abbrev pub dn_ok : Both (List Dim) Name → Bool
dn_ok p = each_of in64 p.left && true

abbrev pub dn_text : Both (List Dim) Name → List ℕ
dn_text p = dims p.left ⊕ word p.right

abbrev pub dn_mean : Both (List Dim) Name → Ended ℤ Scalar
dn_mean p = record { items = L.map size p.left; last = scalar_of p.right }

abbrev pub body_pair : Piece false (figs? ++ bytes "ibft") Tens quiet
body_pair = pair dims_name (λ e. false) (λ e. after_f e.items) (λ e. turned (tens e) quiet (after e.items) (λ a. tt) (after_ok e.items) rest_text
    rest_mean (after_to e.items) (after_from e.items))
    (λ e. after_sep e.items) (λ e b. absurd) dn_ok dn_text dn_mean (λ e. after_ok e.items) rest_text (λ e p. tens e (rest_mean p)) (λ a t i. i) (λ a t i. i) (λ a b t i. i) (λ a b t i. i)

abbrev pub body_ok : Tensor → Bool
body_ok t = tensor_ok t.shape t.strides

abbrev pub body_text : Tensor → List ℕ
body_text t = body t ⊕ bytes ">"

abbrev pub body_mean : Tensor → Tens
body_mean t = record { shape = L.map size t.shape; element = scalar_of t.name; strides = meant_strides t.strides; attribute = t.marked }

push5 : (a b c d e f : List ℕ) → (a ++ (b ++ (c ++ (d ++ e)))) ++ f ≡ a ++ (b ++ (c ++ (d ++ (e ++ f))))
push5 a b c d e f = simp append_assoc

strides_end : (g : Strides) (m : Bool) → S.strides g (mark m) ++ bytes ">" ≡ S.strides g (ends (bytes ">") m)
strides_end Strides.absent m = refl
strides_end (Strides.given s c) m = push5 (comma s) (bytes "strides=[") (commas dim c) (bytes "]") (mark m) (bytes ">")

text_same : (ds : List Dim) (n : Name) (g : Strides) (m : Bool) →
    (dims ds ⊕ word n ⊕ S.strides g (mark m)) ++ bytes ">" ≡ (dims ds ⊕ word n) ++ S.strides g (ends (bytes ">") m)
text_same ds n g m = append_assoc (dims ds) (word n ⊕ S.strides g (mark m)) (bytes ">")
    ∙ ap (λ (z : List ℕ). dims ds ++ z) (append_assoc (word n) (S.strides g (mark m)) (bytes ">") ∙ ap (λ (z : List ℕ). word n ++ z) (strides_end g m))
    ∙ sym (append_assoc (dims ds) (word n) (S.strides g (ends (bytes ">") m)))

abbrev BodyS : Type 0
BodyS = Both (Both (List Dim) Name) (Both Strides Bool)

abbrev to_tensor : BodyS → Tensor
to_tensor p = record { shape = p.left.left; name = p.left.right; strides = p.right.left; marked = p.right.right }

abbrev of_tensor : Tensor → BodyS
of_tensor t = record { left = record { left = t.shape; right = t.name }; right = record { left = t.strides; right = t.marked } }

fine_to : (ds : List Dim) (g : Strides) (m : Bool) → T ((each_of in64 ds && true) && after_ok (L.map size ds) (record { left = g; right = m })) → T (tensor_ok ds g)
fine_to [] Strides.absent m h = tt
fine_to (d ∷ ds) Strides.absent m h = and_right ((each_of in64 (d ∷ ds)) && true) false h
fine_to [] (Strides.given s c) m h = h
fine_to (d ∷ ds) (Strides.given s c) m h = and_in (each_of in64 (d ∷ ds)) (each_of in64 (values c))
    (and_left (each_of in64 (d ∷ ds)) true (and_left (each_of in64 (d ∷ ds) && true) (each_of in64 (values c)) h))
    (and_right (each_of in64 (d ∷ ds) && true) (each_of in64 (values c)) h)

fine_from : (ds : List Dim) (g : Strides) (m : Bool) → T (tensor_ok ds g) → T ((each_of in64 ds && true) && after_ok (L.map size ds) (record { left = g; right = m }))
fine_from [] Strides.absent m h = tt
fine_from (d ∷ ds) Strides.absent m h = absurd h
fine_from [] (Strides.given s c) m h = h
fine_from (d ∷ ds) (Strides.given s c) m h = and_in (each_of in64 (d ∷ ds) && true) (each_of in64 (values c))
    (and_in (each_of in64 (d ∷ ds)) true (and_left (each_of in64 (d ∷ ds)) (each_of in64 (values c)) h) tt)
    (and_right (each_of in64 (d ∷ ds)) (each_of in64 (values c)) h)

pub body_to : (e : Tens) (t : List ℕ) → body_pair.In e t → Spelt body_ok body_text body_mean e t
body_to = respelt to_tensor (λ s h. fine_to s.left.left s.right.left s.right.right h)
    (λ s. text_same s.left.left s.left.right s.right.left s.right.right) (λ s. refl)

pub body_from : (e : Tens) (t : List ℕ) → Spelt body_ok body_text body_mean e t → body_pair.In e t
body_from = respelt of_tensor (λ s h. fine_from s.shape s.strides s.marked h) (λ s. sym (text_same s.shape s.name s.strides s.marked)) (λ s. refl)

abbrev pub tensor_inside : Piece false (figs? ++ bytes "ibft") Tens quiet
tensor_inside = restate body_pair (Spelt body_ok body_text body_mean) body_to body_from
