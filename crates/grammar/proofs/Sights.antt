-- The three views from the entries of a list to the end of the tensor view: padding, introduction, tensor view.
use Rattle.std.specs.Prelude.{ℕ, Bool, true, false, ◌&&◌, List, [], ◌∷◌, ◌++◌, ◌≡◌, refl, T, ℤ}
use Rattle.std.proofs.Common.{append_assoc, inl, inr, sym, ap, ◌∙◌, ltb→lt}
use Rattle.lexis.specs.Text.{bytes}
use Rattle.meaning.specs.declared.Padding.{Padding}
use Rattle.meaning.specs.declared.Padding.TheVariants as P
use Rattle.meaning.specs.Strict.{◌⊕◌, comma, Place, pad, pads, paddings, padding_of, Tensor, body, Pads, pad_text, Intro, intro_text}
use Rattle.meaning.specs.Meant.{meant_pads}
use Rattle.grammar.specs.Tests.{and_left, and_right, and_in}
use Rattle.grammar.specs.Piece.{Piece}
use Rattle.grammar.specs.Join.{restate}
use Rattle.grammar.specs.Until.{Ended}
use Rattle.grammar.specs.Table.{table, Among, sound_table}
use Rattle.grammar.specs.Spelt.{Spelt, always, listed, Mem, quiet, zipped, zipped_to, zipped_from}
use Rattle.grammar.specs.Several.{figs?, Both}
use Rattle.grammar.proofs.Several.{nothing}
use Rattle.grammar.specs.Pair.{pair, turned, respelt, chosen}
use Rattle.grammar.proofs.Body.{Tens, tensor_inside, body_ok, body_text, body_mean}

-- ── how the tensor view comes: after a padding, or at once ──
pub data Mid : Type 0 where
  padded bare : Mid

pub data MidS : Type 0 where
  padding : MidS
  opens : Intro → MidS

abbrev pub mid_word : MidS → List ℕ
mid_word padding = bytes "padding_value="
mid_word (opens i) = intro_text i ⊕ bytes "tensor_view<"

abbrev pub mid_of : MidS → Mid
mid_of padding = padded
mid_of (opens i) = bare

abbrev pub mid_text : ℕ → Both Bool MidS → List ℕ
mid_text x p = (x ∷ []) ⊕ comma p.left ⊕ mid_word p.right

abbrev pub mid_mean : Both Bool MidS → Mid
mid_mean p = mid_of p.right

abbrev pub couple : {X Y : Type 0} → X → Y → Both X Y
couple x y = record { left = x; right = y }

abbrev pub eight : List (Both Bool MidS)
eight = couple false padding ∷ couple true padding ∷ couple false (opens Intro.bare) ∷ couple true (opens Intro.bare) ∷ couple false (opens Intro.prefixed) ∷ couple true (opens Intro.prefixed)
    ∷ couple false (opens Intro.named) ∷ couple true (opens Intro.named) ∷ []

pub in_eight : (p : Both Bool MidS) → Mem p eight
in_eight p = by p.left p.right
  where
    by : (b : Bool) (m : MidS) → Mem (couple b m) eight
    by false padding = inl refl
    by true padding = inr (inl refl)
    by false (opens Intro.bare) = inr (inr (inl refl))
    by true (opens Intro.bare) = inr (inr (inr (inl refl)))
    by false (opens Intro.prefixed) = inr (inr (inr (inr (inl refl))))
    by true (opens Intro.prefixed) = inr (inr (inr (inr (inr (inl refl)))))
    by false (opens Intro.named) = inr (inr (inr (inr (inr (inr (inl refl))))))
    by true (opens Intro.named) = inr (inr (inr (inr (inr (inr (inr (inl refl)))))))

abbrev pub mid : (x : ℕ) → T (sound_table quiet (x ∷ []) (listed (mid_text x) mid_mean eight)) → Piece false (x ∷ []) Mid quiet
mid x h = chosen quiet (x ∷ []) (mid_text x) mid_mean eight in_eight h

-- ── the padding ──
abbrev pub padded_names : Piece false (bytes "znp") Padding quiet
padded_names = restate (table quiet (bytes "znp") (zipped (λ (s : Padding). s) pads paddings) tt) (Spelt always pad padding_of) to from
  where
    to : (s : Padding) (t : List ℕ) → Among (zipped (λ (s : Padding). s) pads paddings) s t → Spelt always pad padding_of s t
    to s t i = let p = zipped_to (λ (s : Padding). s) P.Zero pads paddings s t i in
        record { form = record { index = p.index; within = p.inside }; fine = tt; spells = p.word; says = p.value }

    from : (s : Padding) (t : List ℕ) → Spelt always pad padding_of s t → Among (zipped (λ (s : Padding). s) pads paddings) s t
    from s t n = zipped_from (λ (s : Padding). s) P.Zero pads paddings refl n.form.index (ltb→lt n.form.index 5 n.form.within) s t n.spells n.says

abbrev pub lead_text : Both Bool Intro → List ℕ
lead_text p = comma p.left ⊕ intro_text p.right ⊕ bytes "tensor_view<"

abbrev pub ways : List (Both Bool Intro)
ways = couple false Intro.bare ∷ couple true Intro.bare ∷ couple false Intro.prefixed ∷ couple true Intro.prefixed ∷ couple false Intro.named ∷ couple true Intro.named ∷ []

pub in_ways : (p : Both Bool Intro) → Mem p ways
in_ways p = by p.left p.right
  where
    by : (b : Bool) (m : Intro) → Mem (couple b m) ways
    by false Intro.bare = inl refl
    by true Intro.bare = inr (inl refl)
    by false Intro.prefixed = inr (inr (inl refl))
    by true Intro.prefixed = inr (inr (inr (inl refl)))
    by false Intro.named = inr (inr (inr (inr (inl refl))))
    by true Intro.named = inr (inr (inr (inr (inr (inl refl)))))

abbrev pub lead : Piece false (bytes ",") (Unit {0}) quiet
lead = chosen quiet (bytes ",") lead_text (λ p. tt) ways in_ways tt

-- ── the tensor view, and the padding before it ──
pub record Sight : Type 0 where
  pub padding : Padding
  pub tens : Tens

abbrev pub sight : Padding → Tens → Sight
sight p t = record { padding = p; tens = t }

pub data TensS : Type 0 where
  alone : Tensor → TensS
  after : Place 5 → Bool → Intro → Tensor → TensS

abbrev pub ts_ok : Mid → TensS → Bool
ts_ok bare (alone t) = body_ok t
ts_ok bare (after p s i t) = false
ts_ok padded (alone t) = false
ts_ok padded (after p s i t) = body_ok t

abbrev pub ts_text : TensS → List ℕ
ts_text (alone t) = body_text t
ts_text (after p s i t) = pad p ⊕ lead_text (couple s i) ⊕ body_text t

abbrev pub ts_mean : TensS → Sight
ts_mean (alone t) = sight P.Absent (body_mean t)
ts_mean (after p s i t) = sight (padding_of p) (body_mean t)

abbrev pub ts_f : Mid → List ℕ
ts_f bare = figs? ++ bytes "ibft"
ts_f padded = bytes "znp"

abbrev pub plain_tens : (p : Padding) → Piece false (figs? ++ bytes "ibft") Sight quiet
plain_tens p = turned (sight p) quiet tensor_inside (λ a. tt) body_ok body_text body_mean (λ a t i. i) (λ a t i. i)

abbrev pub padded_tens : Piece false (bytes "znp") Sight quiet
padded_tens = pair padded_names (λ p. false) (λ p. bytes ",")
    (λ p. pair lead (λ u. false) (λ u. figs? ++ bytes "ibft") (λ u. plain_tens p) (λ u. tt) (λ u b. absurd)
    always lead_text (λ s. tt) (λ u. body_ok) body_text (λ u t. sight p (body_mean t)) (λ a t i. i) (λ a t i. i) (λ a b t i. i) (λ a b t i. i))
    (λ p. tt) (λ p b. absurd) always pad padding_of (λ p q. true && body_ok q.right) (λ q. lead_text q.left ⊕ body_text q.right) (λ p q. sight p (body_mean q.right))
    (λ a t i. i) (λ a t i. i) (λ a b t i. i) (λ a b t i. i)

pub bare_to : (v : Sight) (t : List ℕ) → (plain_tens P.Absent).In v t → Spelt (ts_ok bare) ts_text ts_mean v t
bare_to = respelt alone (λ s h. h) (λ s. refl) (λ s. refl)

pub bare_from : (v : Sight) (t : List ℕ) → Spelt (ts_ok bare) ts_text ts_mean v t → (plain_tens P.Absent).In v t
bare_from v t s = by s.form s.fine s.spells s.says
  where
    by : (f : TensS) → T (ts_ok bare f) → ts_text f ≡ t → ts_mean f ≡ v → (plain_tens P.Absent).In v t
    by (alone x) h p q = record { form = x; fine = h; spells = p; says = q }
    by (after a b c d) h p q = absurd h

pub padded_to : (v : Sight) (t : List ℕ) → padded_tens.In v t → Spelt (ts_ok padded) ts_text ts_mean v t
padded_to = respelt (λ s. after s.left s.right.left.left s.right.left.right s.right.right) (λ s h. h) (λ s. refl) (λ s. refl)

pub padded_from : (v : Sight) (t : List ℕ) → Spelt (ts_ok padded) ts_text ts_mean v t → padded_tens.In v t
padded_from v t s = by s.form s.fine s.spells s.says
  where
    by : (f : TensS) → T (ts_ok padded f) → ts_text f ≡ t → ts_mean f ≡ v → padded_tens.In v t
    by (alone x) h p q = absurd h
    by (after a b c d) h p q = record { form = couple a (couple (couple b c) d); fine = h; spells = p; says = q }

abbrev pub tens_part : (m : Mid) → Piece false (ts_f m) Sight quiet
tens_part bare = restate (plain_tens P.Absent) (Spelt (ts_ok bare) ts_text ts_mean) bare_to bare_from
tens_part padded = restate padded_tens (Spelt (ts_ok padded) ts_text ts_mean) padded_to padded_from

pub tens_to : (m : Mid) (v : Sight) (t : List ℕ) → (tens_part m).In v t → Spelt (ts_ok m) ts_text ts_mean v t
tens_to bare v t i = i
tens_to padded v t i = i

pub tens_from : (m : Mid) (v : Sight) (t : List ℕ) → Spelt (ts_ok m) ts_text ts_mean v t → (tens_part m).In v t
tens_from bare v t i = i
tens_from padded v t i = i

-- ── a list that ends with the coming of the tensor view, and the tensor view ──
pub record Scene : Type 0 where
  pub list : List ℤ
  pub sight : Sight

abbrev pub scene : Ended ℤ Mid → Sight → Scene
scene e v = record { list = e.items; sight = v }

pub record SceneS (X : Type 0) : Type 0 where
  pub list : X
  pub space : Bool
  pub padding : Pads
  pub intro : Intro
  pub tensor : Tensor

module _ {F : List ℕ} {X : Type 0} (P : Piece false F (Ended ℤ Mid) quiet) (x : ℕ) (ok : X → Bool) (text : X → List ℕ) (mean : X → List ℤ) where
  abbrev pub front_ok : Both X (Both Bool MidS) → Bool
  front_ok p = ok p.left && true

  abbrev pub front_text : Both X (Both Bool MidS) → List ℕ
  front_text p = text p.left ⊕ mid_text x p.right

  abbrev pub front_mean : Both X (Both Bool MidS) → Ended ℤ Mid
  front_mean p = record { items = mean p.left; last = mid_mean p.right }

  module _ (to : (e : Ended ℤ Mid) (t : List ℕ) → P.In e t → Spelt front_ok front_text front_mean e t) (from : (e : Ended ℤ Mid) (t : List ℕ) → Spelt front_ok front_text front_mean e t → P.In e t) where
    abbrev pub scene_pair : Piece false F Scene quiet
    scene_pair = pair P (λ e. false) (λ e. ts_f e.last) (λ e. turned (scene e) quiet (tens_part e.last) (λ a. tt) (ts_ok e.last) ts_text ts_mean (tens_to e.last) (tens_from e.last))
        (λ e. nothing (ts_f e.last)) (λ e b. absurd) front_ok front_text front_mean (λ e. ts_ok e.last) ts_text (λ e s. scene e (ts_mean s)) to from (λ a b t i. i) (λ a b t i. i)

    abbrev pub scene_ok : SceneS X → Bool
    scene_ok s = ok s.list && body_ok s.tensor

    abbrev pub scene_text : SceneS X → List ℕ
    scene_text s = text s.list ⊕ (x ∷ []) ⊕ comma s.space ⊕ pad_text s.padding ⊕ intro_text s.intro ⊕ bytes "tensor_view<" ⊕ body s.tensor ⊕ bytes ">"

    abbrev pub scene_mean : SceneS X → Scene
    scene_mean s = record { list = mean s.list; sight = sight (meant_pads s.padding) (body_mean s.tensor) }

    push3 : (a b c d : List ℕ) → (a ++ (b ++ c)) ++ d ≡ a ++ (b ++ (c ++ d))
    push3 a b c d = simp append_assoc

    words_bare : (l c i r : List ℕ) → l ++ ((x ∷ []) ++ (c ++ ([] ++ (i ++ (bytes "tensor_view<" ++ r))))) ≡ (l ++ ((x ∷ []) ++ (c ++ (i ++ bytes "tensor_view<")))) ++ r
    words_bare l c i r = sym (append_assoc l (x ∷ (c ++ (i ++ bytes "tensor_view<"))) r ∙ ap (λ (z : List ℕ). l ++ (x ∷ z)) (push3 c i (bytes "tensor_view<") r))

    words_pad : (l c p c' i r : List ℕ) → l ++ ((x ∷ []) ++ (c ++ ((bytes "padding_value=" ++ (p ++ c')) ++ (i ++ (bytes "tensor_view<" ++ r))))) ≡
        (l ++ ((x ∷ []) ++ (c ++ bytes "padding_value="))) ++ (p ++ ((c' ++ (i ++ bytes "tensor_view<")) ++ r))
    words_pad l c p c' i r =
        ap (λ (z : List ℕ). l ++ (x ∷ (c ++ z))) (push3 (bytes "padding_value=") p c' (i ++ (bytes "tensor_view<" ++ r)) ∙ ap
        (λ (z : List ℕ). bytes "padding_value=" ++ (p ++ z)) (sym (push3 c' i (bytes "tensor_view<") r)))
        ∙ ap (λ (z : List ℕ). l ++ (x ∷ z)) (sym (append_assoc c (bytes "padding_value=") (p ++ ((c' ++ (i ++ bytes "tensor_view<")) ++ r))))
        ∙ sym (append_assoc l (x ∷ (c ++ bytes "padding_value=")) (p ++ ((c' ++ (i ++ bytes "tensor_view<")) ++ r)))

    pub scene_to : (v : Scene) (t : List ℕ) → scene_pair.In v t → Spelt scene_ok scene_text scene_mean v t
    scene_to v t s = by s.form.left.left s.form.left.right.left s.form.left.right.right s.form.right s.fine s.spells s.says
      where
        by : (l : X) (c : Bool) (m : MidS) (f : TensS) → T ((ok l && true) && ts_ok (mid_of m) f) → (text l ⊕ mid_text x (couple c m)) ⊕ ts_text f ≡ t →
            scene (record { items = mean l; last = mid_of m }) (ts_mean f) ≡ v →
            Spelt scene_ok scene_text scene_mean v t
        by l c padding (alone r) h p q = absurd (and_right (ok l && true) false h)
        by l c padding (after a b i r) h p q = record {
          form = record { list = l; space = c; padding = Pads.given a b; intro = i; tensor = r };
          fine = and_in (ok l) (body_ok r) (and_left (ok l) true (and_left (ok l && true) (body_ok r) h)) (and_right (ok l && true) (body_ok r) h);
          spells = words_pad (text l) (comma c) (pad a) (comma b) (intro_text i) (body_text r) ∙ p;
          says = q;
        }
        by l c (opens i) (alone r) h p q = record {
          form = record { list = l; space = c; padding = Pads.absent; intro = i; tensor = r };
          fine = and_in (ok l) (body_ok r) (and_left (ok l) true (and_left (ok l && true) (body_ok r) h)) (and_right (ok l && true) (body_ok r) h);
          spells = words_bare (text l) (comma c) (intro_text i) (body_text r) ∙ p;
          says = q;
        }
        by l c (opens i) (after a b j r) h p q = absurd (and_right (ok l && true) false h)

    pub scene_from : (v : Scene) (t : List ℕ) → Spelt scene_ok scene_text scene_mean v t → scene_pair.In v t
    scene_from v t s = by s.form.list s.form.space s.form.padding s.form.intro s.form.tensor s.fine s.spells s.says
      where
        by : (l : X) (c : Bool) (a : Pads) (i : Intro) (r : Tensor) → T (ok l && body_ok r) → scene_text (record { list = l; space = c; padding = a; intro = i; tensor = r }) ≡ t →
            scene_mean (record { list = l; space = c; padding = a; intro = i; tensor = r }) ≡ v → scene_pair.In v t
        by l c Pads.absent i r h p q = record {
          form = couple (couple l (couple c (opens i))) (alone r);
          fine = and_in (ok l && true) (body_ok r) (and_in (ok l) true (and_left (ok l) (body_ok r) h) tt) (and_right (ok l) (body_ok r) h);
          spells = sym (words_bare (text l) (comma c) (intro_text i) (body_text r)) ∙ p;
          says = q;
        }
        by l c (Pads.given a b) i r h p q = record {
          form = couple (couple l (couple c padding)) (after a b i r);
          fine = and_in (ok l && true) (body_ok r) (and_in (ok l) true (and_left (ok l) (body_ok r) h) tt) (and_right (ok l) (body_ok r) h);
          spells = sym (words_pad (text l) (comma c) (pad a) (comma b) (intro_text i) (body_text r)) ∙ p;
          says = q;
        }

    abbrev pub scenery : Piece false F Scene quiet
    scenery = restate scene_pair (Spelt scene_ok scene_text scene_mean) scene_to scene_from
