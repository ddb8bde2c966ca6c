-- On the text of every well-formed strict form the ordinary reading finds its meaning, and every count is zero: the content of each
-- form is read by `Inner` and `Outer`, the brackets and the mark by `Outside`.
use Prim.Native.Nat.{ℕ, ◌+◌}
use native.Mathlib.Omega.{arith}
use mathlib.Core.Bool.{Bool, true, false, ◌&&◌}
use mathlib.Core.List.{List, [], ◌∷◌, map, append_assoc, append-nil}
use Rattle.std.specs.Prelude.{Some}
use mathlib.Core.Path.{◌≡◌, refl, ap, sym, ◌∙◌}
use lib.Dec.{T, ltb→lt}
use lib.ListN.{get_or}
use lib.IntN.{ℤ, pos}
use Rattle.lexis.specs.Text.{bytes}
use Rattle.scalars.specs.Names.{scalar_name}
use Rattle.scalars.specs.declared.scalar.Scalar.{Scalar}
use Rattle.scalars.specs.declared.scalar.Scalar.TheVariants.{I1}
use Rattle.meaning.specs.declared.Kind.{Kind}
use Rattle.meaning.specs.declared.Kind.TheVariants as K
use Rattle.meaning.specs.declared.Padding.{Padding}
use Rattle.meaning.specs.declared.Padding.TheVariants.{Absent}
use Rattle.meaning.specs.declared.Note.{Note}
use Rattle.meaning.specs.Decimal.{size, in32}
use Rattle.meaning.specs.Strict as Form
use Rattle.meaning.specs.Strict.{◌⊕◌, may, cuda, dims, Name, word, words, scalars, values, scalar_of, entries_of, Form, spell}
use Rattle.meaning.specs.Meant.{Any, any, each_of, tensor_ok, view_ok, ok, mean, meant_strides, meant_pads}
use Rattle.meaning.specs.Parts.{each}
use Rattle.meaning.specs.Found.{Entry, Clause, stands, Found, unreadable, lacking, fallen, counts, unnoted, made, plain, token, with_attribute}
use Rattle.meaning.specs.Found as F
use Rattle.meaning.specs.Tile as Tile
use Rattle.meaning.specs.Tile.{tile_of}
use Rattle.meaning.specs.Views as W
use Rattle.meaning.specs.Ordinary as O
use Rattle.meaning.specs.Ordinary.{parse}
use Rattle.grammar.specs.Tests.{and_left, and_right}
use Rattle.accord.proofs.Shape.{Shape, lit, alt, the, left, right}
use Rattle.accord.proofs.Names.{table, name_word}
use Rattle.accord.proofs.Lists.{exact}
use Rattle.accord.proofs.Forms.{◌▸◌, ◌&◌, say, dims_in, strs_in, entries_in, name_in, may_in, comma_in, comma_shape, strides_shape, body, body_shape}
use Rattle.accord.proofs.Forms.{pad_in, pad_shape, intro_in, intro_shape, end, no_travel, travel_of, map_of, sparse_of, Sight, tile_shape, inside}
use Rattle.accord.proofs.Inner.{tile_plain, tile_pointer, strides_found, tensor_found, tensor_read}
use Rattle.accord.proofs.Outer.{view_found, with, partition_read, gather_read, strided_read}
use Rattle.accord.proofs.Hole as H
use Rattle.accord.proofs.Hole.{Hole, here, ◌◂◌, the_mark, attach}
use Rattle.accord.proofs.Outside as B
use Rattle.accord.proofs.Outside.{opening, reading, fits, bracketed}

-- ── what a reading finds: the type, and the counts ──

pub record Shown : Type 0 where
  pub type : Any
  pub note : Note

unfoldable pub shown : Found → Shown
shown t = record {
  type = any t.kind t.element t.pointer t.attribute (F.values t.shape) (F.values t.strides) (F.values t.tile) (F.values t.map)
      (F.values t.traversal) (get_or (F.values t.sparse) 0 (pos 0)) t.padding;
  note = counts t;
}

-- a type with nothing defaulted
abbrev pub sure : Any → Shown
sure a = record { type = a; note = unnoted }

abbrev attributed : Any → Any
attributed a = any a.kind a.element a.pointer true a.shape a.strides a.tile a.map a.traversal a.sparse a.padding

-- a clause that holds l, and adds to no count
record Clean (c : Clause) (l : List ℤ) : Type 0 where
  holds : F.values c ≡ l
  readable : unreadable c ≡ 0
  whole : lacking c ≡ 0

clean : (l : List ℤ) → Clean (stands (exact l)) l
clean l = record { holds = by l; readable = fine l; whole = refl }
  where
    by : (l : List ℤ) → map (λ (e : Entry). e.value) (exact l) ≡ l
    by [] = refl
    by (z ∷ l) = ap (λ (k : List ℤ). z ∷ k) (by l)

    fine : (l : List ℤ) → fallen (exact l) ≡ 0
    fine [] = refl
    fine (z ∷ l) = let h : fallen (exact l) ≡ 0 = fine l in omega arith

clean_strides : (st : Form.Strides) → Clean (strides_found st) (meant_strides st)
clean_strides Form.Strides.absent = record { holds = refl; readable = refl; whole = refl }
clean_strides (Form.Strides.given s c) = clean (map size (values c))

module _ (k : Kind) (e : Scalar) (p : Bool) {cs cr ct cm cu cz : Clause} {s r t m u z : List ℤ} (o : Padding)
    (hs : Clean cs s) (hr : Clean cr r) (ht : Clean ct t) (hm : Clean cm m) (hu : Clean cu u) (hz : Clean cz z) where
  clean_plain : shown (made k e p cs cr ct cm cu cz o) ≡ sure (any k e p false s r t m u (get_or z 0 (pos 0)) o)
  unfolding shown made counts
  clean_plain = λ i. record {
    type = any k e p false (hs.holds i) (hr.holds i) (ht.holds i) (hm.holds i) (hu.holds i) (get_or (hz.holds i) 0 (pos 0)) o;
    note = record {
      a = hs.readable i + hr.readable i;
      b = ht.readable i;
      c = hm.readable i + hu.readable i + hz.readable i;
      d = hr.whole i + hm.whole i + hu.whole i + hz.whole i;
    };
  }

  -- a mark changes the attribute and nothing else
  clean_made : (b : Bool) → shown (attach b (made k e p cs cr ct cm cu cz o)) ≡ sure (any k e p b s r t m u (get_or z 0 (pos 0)) o)
  unfolding shown made counts with_attribute
  clean_made true = ap (λ (x : Shown). record { type = attributed x.type; note = x.note }) clean_plain
  clean_made false = clean_plain

-- ── what is shown of it ──
plain_shown : (k : Kind) (e : Scalar) (m : Bool) → shown (attach m (plain k e)) ≡ sure (any k e false m [] [] [] [] [] (pos 0) Absent)
unfolding plain
plain_shown k e m = clean_made k e false Absent (clean []) (clean []) (clean []) (clean []) (clean []) (clean []) m

tile_shown : (p : Bool) (l : List ℤ) (e : Scalar) (m : Bool) → shown (attach m (tile_of p (stands (exact l)) e)) ≡ sure (any K.Tile e p m l [] [] [] [] (pos 0) Absent)
unfolding tile_of
tile_shown p l e m = clean_made K.Tile e p Absent (clean l) (clean []) (clean []) (clean []) (clean []) (clean []) m

tensor_shown : (t : Form.Tensor) → shown (attach t.marked (Tile.tensor_found (tensor_found t)))
    ≡ sure (any K.TensorView (scalar_of t.name) false t.marked (map size t.shape) (meant_strides t.strides) [] [] [] (pos 0) Absent)
unfolding Tile.tensor_found
tensor_shown t = clean_made K.TensorView (scalar_of t.name) false Absent (clean (map size t.shape)) (clean_strides t.strides) (clean []) (clean []) (clean []) (clean []) t.marked

view_shown : (k : Kind) (v : Form.View) (a u z : List ℤ) → let t = v.tensor in
    shown (attach t.marked (W.view_of k (stands (exact a)) (stands (exact u)) (stands (exact z)) (view_found v)))
    ≡ sure (any k (scalar_of t.name) false t.marked (map size t.shape) (meant_strides t.strides) (entries_of v.tile) a u (get_or z 0 (pos 0)) (meant_pads v.padding))
unfolding W.view_of
view_shown k v a u z = clean_made k (scalar_of v.tensor.name) false (meant_pads v.padding) (clean (map size v.tensor.shape)) (clean_strides v.tensor.strides)
    (clean (entries_of v.tile)) (clean a) (clean u) (clean z) v.tensor.marked

token_shown : shown token ≡ sure (any K.Token I1 false false [] [] [] [] [] (pos 0) Absent)
unfolding token
token_shown = plain_shown K.Token I1 false

-- ── the mark in its place ──
-- at the content's end
abbrev at_end : Hole (lit []) (lit []) (λ r. r)
at_end = record { front = []; tail = []; is_front = the; is_tail = the; split = λ r. append-nil r }

strides_hole : (st : Form.Strides) → Hole strides_shape (lit []) (Form.strides st)
strides_hole Form.Strides.absent = record { front = []; tail = []; is_front = left the; is_tail = the; split = λ r. append-nil r }
strides_hole (Form.Strides.given s c) = or_given (comma_in s ◂ say (bytes "strides=[") ◂ strs_in c ◂ say (bytes "]") ◂ at_end)
  where
    or_given : {a b c : Shape} {g : List ℕ → List ℕ} → Hole a b g → Hole (alt c a) b g
    or_given h = record { front = h.front; tail = h.tail; is_front = right h.is_front; is_tail = h.is_tail; split = h.split }

body_hole : (t : Form.Tensor) → Hole body_shape (lit []) (body t)
body_hole t = dims_in t.shape ◂ name_in t.name ◂ strides_hole t.strides

abbrev before_mark : Shape
before_mark = tile_shape (pad_shape ▸ intro_shape ▸ lit (bytes "tensor_view<") ▸ body_shape)

view_hole : (w : Sight) → Hole before_mark (lit [] ▸ lit (bytes ">") ▸ comma_shape ▸ end) (inside w)
view_hole w = say (bytes "tile=(") ◂ entries_in w.view.tile ◂ say (bytes ")") ◂ comma_in w.view.space ◂ w.middle.is ◂ pad_in w.view.padding
    ◂ intro_in w.view.intro ◂ say (bytes "tensor_view<") ◂ H.inside (body_hole w.view.tensor) (say (bytes ">") & comma_in w.view.space' & w.end.is)

-- ── each form ──
-- a form with brackets: its hole, its text, what is found in it and what is shown of that
module _ (f : B.Bracketed) {a c : Shape} {g : List ℕ → List ℕ} (h : Hole a c g) (k : T (fits f a c)) (b m : Bool) where
  formed : {s : List ℕ} {t : Found} {x : Any} → g (may m the_mark) ⊕ bytes ">" ≡ s → reading f (g []) ≡ Some t → shown (attach m t) ≡ sure x →
      each shown (parse (cuda b ⊕ opening f ⊕ s)) ≡ Some (sure x)
  formed e q p =
      ap (λ (s : List ℕ). each shown (parse (cuda b ⊕ opening f ⊕ s))) (sym e) ∙ ap (each shown) (bracketed f h k b m ∙ ap (each (attach m)) q) ∙ ap Some p

scalar_reads : (n : Name) → parse (word n) ≡ Some (plain K.Scalar (scalar_of n))
unfolding parse O.mark O.unmarked O.forms scalar_name
scalar_reads n = table parse (λ s. Some (plain K.Scalar s)) words scalars refl n.index (ltb→lt n.index 22 n.within)

token_reads : (b : Bool) → parse (cuda b ⊕ bytes "token") ≡ Some token
unfolding parse O.mark O.unmarked
token_reads true = refl
token_reads false = refl

pointer_reads : (n : Name) → O.pointer (word n ⊕ []) ≡ Some (plain K.Pointer (scalar_of n))
unfolding O.pointer
pointer_reads n = ap (λ (s : List ℕ). each (plain K.Pointer) (scalar_name s)) (append-nil (word n)) ∙ ap (each (plain K.Pointer)) (name_word n)

tensor_reads : (t : Form.Tensor) → T (tensor_ok t.shape t.strides) → Tile.tensor_view (body t []) ≡ Some (Tile.tensor_found (tensor_found t))
unfolding Tile.tensor_view
tensor_reads t h = ap (each Tile.tensor_found) (tensor_read t h)

pub agrees : (f : Form) → T (ok f) → each shown (parse (spell f)) ≡ Some (sure (mean f))
agrees (Form.scalar n) h = ap (each shown) (scalar_reads n) ∙ ap Some (plain_shown K.Scalar (scalar_of n) false)
agrees (Form.token b) h = ap (each shown) (token_reads b) ∙ ap Some token_shown
agrees (Form.ptr p) h =
    formed B.pointer (name_in p.name ◂ at_end) tt p.front p.marked (append_assoc (word p.name) (Form.mark p.marked) (bytes ">"))
    (pointer_reads p.name) (plain_shown K.Pointer (scalar_of p.name) p.marked)
agrees (Form.tile b ds (Form.plain n)) h =
    formed B.tile (dims_in ds ◂ here (name_in n)) tt b false (append_assoc (dims ds) (word n) (bytes ">")) (tile_plain ds n h) (tile_shown false (map size ds) (scalar_of n) false)
agrees (Form.tile b ds (Form.pointer p)) h =
    formed B.tile (dims_in ds ◂ may_in p.front (bytes "!cuda_tile.") ◂ say (bytes "ptr<") ◂ name_in p.name ◂ here (say (bytes ">"))) tt b p.marked
    (append_assoc (dims ds) (Form.pointer_text p) (bytes ">")) (tile_pointer ds p.front p.name h) (tile_shown true (map size ds) (scalar_of p.name) p.marked)
agrees (Form.tensor b t) h = formed B.tensor (body_hole t) tt b t.marked refl (tensor_reads t h) (tensor_shown t)
agrees (Form.partition v c) h =
    formed B.partition (view_hole (with v no_travel (map_of c))) tt v.front v.tensor.marked refl
    (partition_read v c (and_left (view_ok v) (each_of in32 (values c)) h) (and_right (view_ok v) (each_of in32 (values c)) h)) (view_shown K.Partition v (values c) [] [])
agrees (Form.gather v z) h =
    formed B.gather (view_hole (with v no_travel (sparse_of z))) tt v.front v.tensor.marked refl
    (gather_read v z (and_left (view_ok v) (in32 z) h) (and_right (view_ok v) (in32 z) h)) (view_shown K.GatherScatter v [] [] (z ∷ []))
agrees (Form.strided v c s d) h =
    let h2 = and_left (view_ok v && each_of in32 (values c)) (each_of in32 (values d)) h in
    formed B.strided (view_hole (with v (travel_of c s) (map_of d))) tt v.front v.tensor.marked refl
    (strided_read v c s d (and_left (view_ok v) (each_of in32 (values c)) h2) (and_right (view_ok v) (each_of in32 (values c)) h2)
    (and_right (view_ok v && each_of in32 (values c)) (each_of in32 (values d)) h)) (view_shown K.Strided v (values d) (values c) [])
