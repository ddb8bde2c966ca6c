-- THE STRICT READER, put together: it reads exactly the strict forms (`strict_sound`, `strict_complete`).
-- Shown by turning what is read into a form and back, kind by kind.
use Rattle.std.specs.Prelude.{ℕ, Bool, true, false, ◌&&◌, List, [], ◌∷◌, ◌++◌, ◌≡◌, refl, T, ℤ, pos}
use Rattle.std.proofs.Common.{append_assoc, append-nil, subst, sym, ap, ◌∙◌}
use mathlib.Core.List as L
use Rattle.lexis.specs.Text.{bytes}
use Rattle.scalars.specs.declared.scalar.Scalar.TheVariants.{I1}
use Rattle.meaning.specs.declared.Kind.TheVariants as K
use Rattle.meaning.specs.declared.Padding.TheVariants as P
use Rattle.meaning.specs.Decimal.{decimal, Dim, size, in32, in64}
use Rattle.meaning.specs.Strict.{◌⊕◌, Commas, comma, commas, values, Entries, entries, entries_of, word, cuda, Element, Form, spell, View, pad_text, intro_text, body, dims, element}
use Rattle.meaning.specs.Meant.{each_of, Any, mean, ok, Strict, meant_tile, any}
use Rattle.grammar.specs.Tests.{and_left, and_right, and_in}
use Rattle.grammar.specs.Piece.{Answer, got, apart, within, Piece, sound, whole}
use Rattle.grammar.specs.Join.{map, bind, yield, restate}
use Rattle.grammar.specs.Until.{Ended}
use Rattle.grammar.specs.Spelt.{Spelt, always}
use Rattle.grammar.specs.Several.{figs, figs?, Both}
use Rattle.grammar.proofs.Several.{map_same}
use Rattle.grammar.specs.Elements.{six, Core, core_mean}
use Rattle.grammar.proofs.Elements.{pointee, pointee_text, pointee_mean, tile_inside}
use Rattle.grammar.proofs.Body.{id, Tens, tensor_inside, body_ok, body_text, body_mean}
use Rattle.grammar.proofs.Sights.{couple, SceneS}
use Rattle.grammar.proofs.Insides.{mp_text, sp_text, tile_ok, tile_text, tile_scene_ok, tile_scene_mean, walk_ok, walk_text}
use Rattle.grammar.proofs.Insides.{walk_scene_ok, walk_scene_mean, sighted, partition_inside, gather_inside, tt_ok, tt_text, wr_ok, strided_inside}
use Rattle.grammar.specs.Head.{Head, HeadS, head_text, head_mean, head_e, head_f, head_plain, head_to, head_from, scalar, token, ptr, tile, tensor, partition, gather, strided}

-- ── what follows it ──
abbrev pub head_n : Head → Bool
head_n (scalar s) = true
head_n token = true
head_n ptr = false
head_n tile = false
head_n tensor = false
head_n partition = false
head_n gather = false
head_n strided = false

abbrev pub next_f : Head → List ℕ
next_f (scalar s) = []
next_f token = []
next_f ptr = bytes "ibft"
next_f tile = figs? ++ bytes "ibftp!"
next_f tensor = figs? ++ bytes "ibft"
next_f partition = figs
next_f gather = figs
next_f strided = figs

abbrev pub ptr_any : Core → Any
ptr_any c = any K.Pointer c.element false c.attribute [] [] [] [] [] (pos 0) P.Absent

abbrev pub tile_any : Ended ℤ Core → Any
tile_any e = any K.Tile e.last.element e.last.pointer e.last.attribute e.items [] [] [] [] (pos 0) P.Absent

abbrev pub tensor_any : Tens → Any
tensor_any t = any K.TensorView t.element false t.attribute t.shape t.strides [] [] [] (pos 0) P.Absent

abbrev pub next : (h : Head) → Piece (head_n h) (next_f h) Any six
next (scalar s) = yield six (any K.Scalar s false false [] [] [] [] [] (pos 0) P.Absent)
next token = yield six (any K.Token I1 false false [] [] [] [] [] (pos 0) P.Absent)
next ptr = map ptr_any six (pointee (bytes ">") tt) (λ a. tt)
next tile = map tile_any six tile_inside (λ a. tt)
next tensor = map tensor_any six tensor_inside (λ a. tt)
next partition = map id six partition_inside (λ a. tt)
next gather = map id six gather_inside (λ a. tt)
next strided = map id six strided_inside (λ a. tt)

abbrev pub next_sep : (h : Head) → T (apart (next_f h) (head_e h))
next_sep (scalar s) = tt
next_sep token = tt
next_sep ptr = tt
next_sep tile = tt
next_sep tensor = tt
next_sep partition = tt
next_sep gather = tt
next_sep strided = tt

abbrev pub next_nul : (h : Head) (a : Any) → T (head_n h) → T (within (head_e h) (bytes "6"))
next_nul (scalar s) a n = tt
next_nul token a n = tt
next_nul ptr a n = tt
next_nul tile a n = tt
next_nul tensor a n = tt
next_nul partition a n = tt
next_nul gather a n = tt
next_nul strided a n = tt

abbrev pub all_plain : Piece false head_f Any six
all_plain = bind head_plain head_n next_f next next_sep next_nul

-- ── these are the strict forms ──
abbrev pub glue : List (List ℕ) → List ℕ → List ℕ
glue [] r = r
glue (x ∷ xs) r = x ++ glue xs r

pub glue_more : (xs : List (List ℕ)) (r s : List ℕ) → glue xs r ++ s ≡ glue xs (r ++ s)
glue_more [] r s = refl
glue_more (x ∷ xs) r s = append_assoc x (glue xs r) s ∙ ap (λ (z : List ℕ). x ++ z) (glue_more xs r s)

abbrev pub Said : Any → List ℕ → Type 0
Said = Spelt ok spell mean

map_text : (e c p i b c' m : List ℕ) →
    (e ++ (bytes ")" ++ (c ++ (p ++ (i ++ (bytes "tensor_view<" ++ (b ++ bytes ">"))))))) ++ ((c' ++ bytes "dim_map=[") ++ (m ++ bytes "]>"))
    ≡ (e ++ (bytes ")" ++ (c ++ (p ++ (i ++ (bytes "tensor_view<" ++ (b ++ (bytes ">" ++ (c' ++ (bytes "dim_map=[" ++ (m ++ bytes "]"))))))))))) ++ bytes ">"
map_text e c p i b c' m =
    glue_more (e ∷ bytes ")" ∷ c ∷ p ∷ i ∷ bytes "tensor_view<" ∷ b ∷ []) (bytes ">") ((c' ++ bytes "dim_map=[") ++ (m ++ bytes "]>"))
    ∙ ap (λ (z : List ℕ). glue (e ∷ bytes ")" ∷ c ∷ p ∷ i ∷ bytes "tensor_view<" ∷ b ∷ bytes ">" ∷ []) z) (append_assoc c' (bytes "dim_map=[") (m ++ bytes "]>"))
    ∙ sym (glue_more (e ∷ bytes ")" ∷ c ∷ p ∷ i ∷ bytes "tensor_view<" ∷ b ∷ bytes ">" ∷ c' ∷ bytes "dim_map=[" ∷ m ∷ []) (bytes "]") (bytes ">"))

sparse_text : (e c p i b c' m : List ℕ) →
    (e ++ (bytes ")" ++ (c ++ (p ++ (i ++ (bytes "tensor_view<" ++ (b ++ bytes ">"))))))) ++ ((c' ++ bytes "sparse_dim=") ++ (m ++ bytes ">"))
    ≡ (e ++ (bytes ")" ++ (c ++ (p ++ (i ++ (bytes "tensor_view<" ++ (b ++ (bytes ">" ++ (c' ++ (bytes "sparse_dim=" ++ m)))))))))) ++ bytes ">"
sparse_text e c p i b c' m =
    glue_more (e ∷ bytes ")" ∷ c ∷ p ∷ i ∷ bytes "tensor_view<" ∷ b ∷ []) (bytes ">") ((c' ++ bytes "sparse_dim=") ++ (m ++ bytes ">"))
    ∙ ap (λ (z : List ℕ). glue (e ∷ bytes ")" ∷ c ∷ p ∷ i ∷ bytes "tensor_view<" ∷ b ∷ bytes ">" ∷ []) z) (append_assoc c' (bytes "sparse_dim=") (m ++ bytes ">"))
    ∙ sym (glue_more (e ∷ bytes ")" ∷ c ∷ p ∷ i ∷ bytes "tensor_view<" ∷ b ∷ bytes ">" ∷ c' ∷ bytes "sparse_dim=" ∷ []) m (bytes ">"))

-- e: the tile; c: its comma; w: the traversal strides; k: their comma
walk_spells : (e c w k p i b c' m : List ℕ) →
    (e ++ (bytes ")" ++ (c ++ bytes "traversal_strides=["))) ++ ((w ++ (bytes "]" ++ (k ++ (p ++ (i ++ (bytes "tensor_view<" ++ (b ++ bytes ">")))))))
    ++ ((c' ++ bytes "dim_map=[") ++ (m ++ bytes "]>")))
    ≡ (e ++ (bytes ")" ++ (c ++ ((bytes "traversal_strides=[" ++ (w ++ (bytes "]" ++ k))) ++
    (p ++ (i ++ (bytes "tensor_view<" ++ (b ++ (bytes ">" ++ (c' ++ (bytes "dim_map=[" ++ (m ++ bytes "]")))))))))))) ++ bytes ">"
walk_spells e c w k p i b c' m =
    glue_more (e ∷ bytes ")" ∷ c ∷ []) (bytes "traversal_strides=[") ((w ++ (bytes "]" ++ (k ++ (p ++ (i ++ (bytes "tensor_view<" ++ (b ++ bytes ">")))))))
    ++ ((c' ++ bytes "dim_map=[") ++ (m ++ bytes "]>")))
    ∙ ap (λ (z : List ℕ). glue (e ∷ bytes ")" ∷ c ∷ bytes "traversal_strides=[" ∷ []) z)
    (glue_more (w ∷ bytes "]" ∷ k ∷ p ∷ i ∷ bytes "tensor_view<" ∷ b ∷ []) (bytes ">") ((c' ++ bytes "dim_map=[") ++ (m ++ bytes "]>"))
    ∙ ap (λ (z : List ℕ). glue (w ∷ bytes "]" ∷ k ∷ p ∷ i ∷ bytes "tensor_view<" ∷ b ∷ bytes ">" ∷ []) z) (append_assoc c' (bytes "dim_map=[") (m ++ bytes "]>")))
    ∙ sym (glue_more (e ∷ bytes ")" ∷ c ∷ (bytes "traversal_strides=[" ++ (w ++ (bytes "]" ++ k))) ∷ p ∷ i ∷ bytes "tensor_view<" ∷ b ∷ bytes ">" ∷ c' ∷ bytes "dim_map=[" ∷ m ∷ [])
    (bytes "]") (bytes ">")
    ∙ ap (λ (z : List ℕ). glue (e ∷ bytes ")" ∷ c ∷ []) z) (glue_more (bytes "traversal_strides=[" ∷ w ∷ bytes "]" ∷ []) k
    (glue (p ∷ i ∷ bytes "tensor_view<" ∷ b ∷ bytes ">" ∷ c' ∷ bytes "dim_map=[" ∷ m ∷ []) (bytes "]>"))))

tile_mean : (ds : List Dim) (e : Element) → meant_tile ds e ≡ tile_any (record { items = L.map size ds; last = core_mean e })
tile_mean ds (Element.plain n) = refl
tile_mean ds (Element.pointer p) = refl

abbrev viewed : Bool → SceneS Entries → Bool → View
viewed p s c = record { front = p; tile = s.list; space = s.space; padding = s.padding; intro = s.intro; tensor = s.tensor; space' = c }

abbrev walked : Bool → Both Entries Bool → SceneS (Commas ℤ) → Bool → View
walked p e s c = record { front = p; tile = e.left; space = e.right; padding = s.padding; intro = s.intro; tensor = s.tensor; space' = c }

map_spell : (p : Bool) (s : SceneS Entries) (c : Bool) (m : Commas ℤ) →
    spell (Form.partition (viewed p s c) m) ≡ head_text (partition p) ++ (tile_text s ++ mp_text (couple c (couple m tt)))
map_spell p s c m = ap (λ (z : List ℕ). cuda p ++ (bytes "partition_view<tile=(" ++ z))
    (sym (map_text (entries s.list) (comma s.space) (pad_text s.padding) (intro_text s.intro) (body s.tensor) (comma c) (commas decimal m)))
    ∙ sym (append_assoc (cuda p) (bytes "partition_view<tile=(") (tile_text s ++ mp_text (couple c (couple m tt))))

sparse_spell : (p : Bool) (s : SceneS Entries) (c : Bool) (z : ℤ) →
    spell (Form.gather (viewed p s c) z) ≡ head_text (gather p) ++ (tile_text s ++ sp_text (couple c z))
sparse_spell p s c z = ap (λ (w : List ℕ). cuda p ++ (bytes "gather_scatter_view<tile=(" ++ w))
    (sym (sparse_text (entries s.list) (comma s.space) (pad_text s.padding) (intro_text s.intro) (body s.tensor) (comma c) (decimal z)))
    ∙ sym (append_assoc (cuda p) (bytes "gather_scatter_view<tile=(") (tile_text s ++ sp_text (couple c z)))

walk_spell : (p : Bool) (e : Both Entries Bool) (s : SceneS (Commas ℤ)) (c : Bool) (m : Commas ℤ) →
    spell (Form.strided (walked p e s c) s.list s.space m) ≡ head_text (strided p) ++ (tt_text e ++ (walk_text s ++ mp_text (couple c (couple m tt))))
walk_spell p e s c m = ap (λ (w : List ℕ). cuda p ++ (bytes "strided_view<tile=(" ++ w))
    (sym (walk_spells (entries e.left) (comma e.right) (commas decimal s.list) (comma s.space) (pad_text s.padding) (intro_text s.intro) (body s.tensor) (comma c) (commas decimal m)))
    ∙ sym (append_assoc (cuda p) (bytes "strided_view<tile=(") (tt_text e ++ (walk_text s ++ mp_text (couple c (couple m tt)))))

pub all_to : (a : Any) (t : List ℕ) → all_plain.In a t → Said a t
all_to a t i = by h.form i.back (subst (λ (k : Head). (next k).In a i.back) (sym h.says) i.next) (ap (λ (z : List ℕ). z ++ i.back) h.spells ∙ i.split)
  where
    h : Spelt always head_text head_mean i.value i.front
    h = head_to i.value i.front i.is

    by : (f : HeadS) (b : List ℕ) → (next (head_mean f)).In a b → head_text f ++ b ≡ t → Said a t
    by (scalar n) b q e = record { form = Form.scalar n; fine = tt; spells = sym (append-nil (word n)) ∙ ap (λ (z : List ℕ). word n ++ z) (sym q.1) ∙ e; says = sym q.0 }
    by (token p) b q e = record { form = Form.token p; fine = tt; spells = sym (append-nil (head_text (token p))) ∙ ap (λ (z : List ℕ). head_text (token p) ++ z) (sym q.1) ∙ e; says = sym q.0 }
    by (ptr p) b q e = let s = q.is in record {
      form = Form.ptr (record { front = p; name = s.form.left; marked = s.form.right });
      fine = tt;
      spells = sym (append_assoc (cuda p) (bytes "ptr<") (pointee_text (bytes ">") tt s.form)) ∙ ap (λ (z : List ℕ). head_text (ptr p) ++ z) s.spells ∙ e;
      says = ap ptr_any s.says ∙ q.says;
    }
    by (tile p) b q e = let s = q.is in record {
      form = Form.tile p s.form.left s.form.right;
      fine = and_left (each_of in64 s.form.left) true s.fine;
      spells = sym (append_assoc (cuda p) (bytes "tile<") (dims s.form.left ⊕ element s.form.right ⊕ bytes ">")) ∙ ap (λ (z : List ℕ). head_text (tile p) ++ z) s.spells ∙ e;
      says = tile_mean s.form.left s.form.right ∙ ap tile_any s.says ∙ q.says;
    }
    by (tensor p) b q e = let s = q.is in record {
      form = Form.tensor p s.form;
      fine = s.fine;
      spells = sym (append_assoc (cuda p) (bytes "tensor_view<") (body_text s.form)) ∙ ap (λ (z : List ℕ). head_text (tensor p) ++ z) s.spells ∙ e;
      says = ap tensor_any s.says ∙ q.says;
    }
    by (partition p) b q e = let s = q.is in let sc = s.form.left in let m = s.form.right.right.left in
        record {
          form = Form.partition (viewed p sc s.form.right.left) m;
          fine = and_in (tile_scene_ok sc) (each_of in32 (values m)) (and_left (tile_scene_ok sc) (each_of in32 (values m) && true) s.fine)
              (and_left (each_of in32 (values m)) true (and_right (tile_scene_ok sc) (each_of in32 (values m) && true) s.fine));
          spells = map_spell p sc s.form.right.left m ∙ ap (λ (z : List ℕ). head_text (partition p) ++ z) s.spells ∙ e;
          says = ap (λ (z : List ℤ). sighted K.Partition (tile_scene_mean sc).list (tile_scene_mean sc).sight z [] (pos 0)) (sym (map_same (values m))) ∙ s.says ∙ q.says;
        }
    by (gather p) b q e = let s = q.is in let sc = s.form.left in let z = s.form.right.right in
        record {
          form = Form.gather (viewed p sc s.form.right.left) z;
          fine = s.fine;
          spells = sparse_spell p sc s.form.right.left z ∙ ap (λ (z : List ℕ). head_text (gather p) ++ z) s.spells ∙ e;
          says = s.says ∙ q.says;
        }
    by (strided p) b q e = let s = q.is in let en = s.form.left in let sc = s.form.right.left in let m = s.form.right.right.right.left in
        let h1 = and_left (tt_ok en) (wr_ok s.form.right) s.fine in
        let h2 = and_right (tt_ok en) (wr_ok s.form.right) s.fine in
        let h3 = and_left (walk_scene_ok sc) (each_of in32 (values m) && true) h2 in
        let h4 = and_left (each_of in32 (values m)) true (and_right (walk_scene_ok sc) (each_of in32 (values m) && true) h2) in
        record {
          form = Form.strided (walked p en sc s.form.right.right.left) sc.list sc.space m;
          fine = and_in ((tile_ok en.left && body_ok sc.tensor) && walk_ok sc.list) (each_of in32 (values m))
              (and_in (tile_ok en.left && body_ok sc.tensor) (walk_ok sc.list)
              (and_in (tile_ok en.left) (body_ok sc.tensor) (and_left (tile_ok en.left) true h1) (and_right (walk_ok sc.list) (body_ok sc.tensor) h3))
              (and_left (walk_ok sc.list) (body_ok sc.tensor) h3)) h4;
          spells = walk_spell p en sc s.form.right.right.left m ∙ ap (λ (z : List ℕ). head_text (strided p) ++ z) s.spells ∙ e;
          says = (λ j. sighted K.Strided (entries_of en.left) (walk_scene_mean sc).sight (sym (map_same (values m)) j) (sym (map_same (values sc.list)) j) (pos 0)) ∙ s.says ∙ q.says;
        }

abbrev scene_of : {X : Type 0} → X → Bool → View → SceneS X
scene_of x c v = record { list = x; space = c; padding = v.padding; intro = v.intro; tensor = v.tensor }

at_head : (a : Any) (t : List ℕ) (f : HeadS) (b : List ℕ) → (next (head_mean f)).In a b → head_text f ++ b ≡ t → all_plain.In a t
at_head a t f b q e = record {
  value = head_mean f;
  front = head_text f;
  back = b;
  is = head_from (head_mean f) (head_text f)
      (record { form = f; fine = tt; spells = refl; says = refl });
  next = q;
  split = e;
}

pub all_from : (a : Any) (t : List ℕ) → Said a t → all_plain.In a t
all_from a t s = by s.form s.fine s.spells s.says
  where
    by : (f : Form) → T (ok f) → spell f ≡ t → mean f ≡ a → all_plain.In a t
    by (Form.scalar n) h e q = at_head a t (scalar n) [] (sym q, refl) (append-nil (word n) ∙ e)
    by (Form.token p) h e q = at_head a t (token p) [] (sym q, refl) (append-nil (head_text (token p)) ∙ e)
    by (Form.ptr p) h e q = at_head a t (ptr p.front) (pointee_text (bytes ">") tt (couple p.name p.marked))
        (record { value = pointee_mean (bytes ">") tt (couple p.name p.marked); is = record { form = couple p.name p.marked; fine = tt; spells = refl; says = refl }; says = q })
        (append_assoc (cuda p.front) (bytes "ptr<") (pointee_text (bytes ">") tt (couple p.name p.marked)) ∙ e)
    by (Form.tile p ds el) h e q = at_head a t (tile p) (dims ds ⊕ element el ⊕ bytes ">")
        (record {
          value = record { items = L.map size ds; last = core_mean el };
          is = record { form = couple ds el; fine = and_in (each_of in64 ds) true h tt; spells = refl; says = refl };
          says = sym (tile_mean ds el) ∙ q;
        })
        (append_assoc (cuda p) (bytes "tile<") (dims ds ⊕ element el ⊕ bytes ">") ∙ e)
    by (Form.tensor p x) h e q = at_head a t (tensor p) (body_text x)
        (record { value = body_mean x; is = record { form = x; fine = h; spells = refl; says = refl }; says = q }) (append_assoc (cuda p) (bytes "tensor_view<") (body_text x) ∙ e)
    by (Form.partition v m) h e q = let sc = scene_of v.tile v.space v in
        at_head a t (partition v.front) (tile_text sc ++ mp_text (couple v.space' (couple m tt)))
        (record {
          value = a;
          is = record {
            form = couple sc (couple v.space' (couple m tt));
            fine = and_in (tile_scene_ok sc) (each_of in32 (values m) && true) (and_left (tile_scene_ok sc) (each_of in32 (values m)) h)
                (and_in (each_of in32 (values m)) true (and_right (tile_scene_ok sc) (each_of in32 (values m)) h) tt);
            spells = refl;
            says = ap (λ (z : List ℤ). sighted K.Partition (tile_scene_mean sc).list (tile_scene_mean sc).sight z [] (pos 0)) (map_same (values m)) ∙ q;
          };
          says = refl;
        })
        (sym (map_spell v.front sc v.space' m) ∙ e)
    by (Form.gather v z) h e q = let sc = scene_of v.tile v.space v in
        at_head a t (gather v.front) (tile_text sc ++ sp_text (couple v.space' z))
        (record { value = a; is = record { form = couple sc (couple v.space' z); fine = h; spells = refl; says = q }; says = refl })
        (sym (sparse_spell v.front sc v.space' z) ∙ e)
    by (Form.strided v c k m) h e q = let sc = scene_of c k v in let en = couple v.tile v.space in
        let h1 = and_left ((tile_ok v.tile && body_ok v.tensor) && walk_ok c) (each_of in32 (values m)) h in
        let h2 = and_right ((tile_ok v.tile && body_ok v.tensor) && walk_ok c) (each_of in32 (values m)) h in
        let h3 = and_left (tile_ok v.tile && body_ok v.tensor) (walk_ok c) h1 in
        let h4 = and_right (tile_ok v.tile && body_ok v.tensor) (walk_ok c) h1 in
        at_head a t (strided v.front) (tt_text en ++ (walk_text sc ++ mp_text (couple v.space' (couple m tt))))
        (record {
          value = a;
          is = record {
            form = couple en (couple sc (couple v.space' (couple m tt)));
            fine = and_in (tt_ok en) (walk_scene_ok sc && (each_of in32 (values m) && true)) (and_in (tile_ok v.tile) true (and_left (tile_ok v.tile) (body_ok v.tensor) h3) tt)
                (and_in (walk_scene_ok sc) (each_of in32 (values m) && true) (and_in (walk_ok c) (body_ok v.tensor) h4 (and_right (tile_ok v.tile) (body_ok v.tensor) h3))
                (and_in (each_of in32 (values m)) true h2 tt));
            spells = refl;
            says = (λ j. sighted K.Strided (entries_of v.tile) (walk_scene_mean sc).sight (map_same (values m) j) (map_same (values c) j) (pos 0)) ∙ q;
          };
          says = refl;
        })
        (sym (walk_spell v.front en sc v.space' m) ∙ e)

-- THE STRICT READER
abbrev pub reader : Piece false head_f Any six
reader = restate all_plain Said all_to all_from

abbrev pub read : List ℕ → Answer Any
read = reader.read

pub strict_sound : (t : List ℕ) (a : Any) → read t ≡ got a [] → Strict t a
strict_sound t a e = let s = sound reader t a e in record { form = s.form; fine = s.fine; text = sym s.spells; says = sym s.says }

pub strict_complete : (t : List ℕ) (a : Any) → Strict t a → read t ≡ got a []
strict_complete t a s = whole reader t a (record { form = s.form; fine = s.fine; spells = sym s.text; says = sym s.says })
