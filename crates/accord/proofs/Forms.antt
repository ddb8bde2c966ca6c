-- The shapes of a strict form's parts: each part's text lies in its shape. A text is taken without its mark.
use Prim.Native.Nat.{ℕ, zero, suc}
use mathlib.Core.Bool.{Bool, true, false, ◌||◌}
use mathlib.Core.List.{List, [], ◌∷◌, ◌++◌}
use lib.Dec.{T, eqb}
use lib.IntN.{ℤ}
use Rattle.lexis.specs.Text.{bytes}
use Rattle.meaning.specs.Decimal.{decimal, Dim, dim}
use Rattle.meaning.specs.Strict as Form
use Rattle.meaning.specs.Strict.{◌⊕◌, may, nth, words, pads, comma, Commas, commas, dims, Entries, entries, Name, word}
use Rattle.grammar.specs.Tests.{or_left}
use Rattle.accord.proofs.Shape.{Shape, In, lit, run, alt, seq, the, all, left, right, both}
use Rattle.accord.proofs.Num.{figure, decimal_figure}
use Rattle.accord.proofs.Lists.{dim_figure, dims_over, commas_over, entries_over}

-- ── shapes side by side ──
infixr 60 ◌▸◌
abbrev pub ◌▸◌ : Shape → Shape → Shape
a ▸ b = seq a b

infixr 60 ◌&◌
abbrev pub ◌&◌ : {a b : Shape} {u v : List ℕ} → In a u → In b v → In (seq a b) (u ++ v)
i & j = both i j

abbrev pub say : (l : List ℕ) → In (lit l) l
say l = the

-- a text of a shape
pub record Of (sh : Shape) : Type 0 where
  pub text : List ℕ
  pub is : In sh text

-- ── numerals and their lists ──
-- digits, `-`, `?`, `,`, ` `, `x`
abbrev pub num : ℕ → Bool
num c = figure c || (eqb c 44 || (eqb c 32 || eqb c 120))

figure_num : (c : ℕ) → T (figure c) → T (num c)
figure_num c h = or_left (figure c) (eqb c 44 || (eqb c 32 || eqb c 120)) h

pub dims_in : (ds : List Dim) → In (run num) (dims ds)
dims_in ds = all (dims_over num figure_num tt ds)

pub strs_in : (c : Commas Dim) → In (run num) (commas dim c)
strs_in c = all (commas_over num figure_num tt tt dim dim_figure c)

pub list_in : (c : Commas ℤ) → In (run num) (commas decimal c)
list_in c = all (commas_over num figure_num tt tt decimal decimal_figure c)

pub decimal_in : (z : ℤ) → In (run figure) (decimal z)
decimal_in z = all (decimal_figure z)

pub entries_in : (e : Entries) → In (run num) (entries e)
entries_in e = all (entries_over num figure_num tt tt tt e)

-- ── words ──
abbrev pub one_of : List (List ℕ) → Shape
one_of [] = lit []
one_of (x ∷ xs) = alt (lit x) (one_of xs)

pick_in : (ls : List (List ℕ)) (i : ℕ) → In (one_of ls) (nth [] ls i)
pick_in [] i = the
pick_in (x ∷ ls) zero = left the
pick_in (x ∷ ls) (suc i) = right (pick_in ls i)

pub name_in : (n : Name) → In (one_of words) (word n)
name_in n = pick_in words n.index

abbrev pub opt : Shape → Shape
opt a = alt a (lit [])

pub may_in : (b : Bool) (l : List ℕ) → In (opt (lit l)) (may b l)
may_in true l = left the
may_in false l = right the

abbrev pub comma_shape : Shape
comma_shape = lit (bytes ",") ▸ opt (lit (bytes " "))

pub comma_in : (s : Bool) → In comma_shape (comma s)
comma_in s = the & may_in s (bytes " ")

-- ── a tensor view ──
abbrev pub strides_shape : Shape
strides_shape = alt (lit []) (comma_shape ▸ lit (bytes "strides=[") ▸ run num ▸ lit (bytes "]") ▸ lit [])

strides_in : (s : Form.Strides) → In strides_shape (Form.strides s [])
strides_in Form.Strides.absent = left the
strides_in (Form.Strides.given s c) = right (comma_in s & the & strs_in c & the & the)

-- its content, with r for the mark
abbrev pub body : Form.Tensor → List ℕ → List ℕ
body t r = dims t.shape ⊕ word t.name ⊕ Form.strides t.strides r

abbrev pub body_shape : Shape
body_shape = run num ▸ one_of words ▸ strides_shape

pub body_in : (t : Form.Tensor) → In body_shape (body t [])
body_in t = dims_in t.shape & name_in t.name & strides_in t.strides

-- ── a view ──
abbrev pub pad_shape : Shape
pad_shape = alt (lit []) (lit (bytes "padding_value=") ▸ one_of pads ▸ comma_shape)

pub pad_in : (p : Form.Pads) → In pad_shape (Form.pad_text p)
pad_in Form.Pads.absent = left the
pad_in (Form.Pads.given p s) = right (the & pick_in pads p.index & comma_in s)

abbrev pub intro_shape : Shape
intro_shape = alt (lit []) (alt (lit (bytes "!cuda_tile.")) (lit (bytes "tensor_view=!cuda_tile.")))

pub intro_in : (i : Form.Intro) → In intro_shape (Form.intro_text i)
intro_in Form.bare = left the
intro_in Form.prefixed = right (left the)
intro_in Form.named = right (right the)

-- what the three have behind the tile, and at the end
abbrev pub middle : Shape
middle = alt (lit []) (lit (bytes "traversal_strides=[") ▸ run num ▸ lit (bytes "]") ▸ comma_shape)

abbrev pub end : Shape
end = alt (lit (bytes "dim_map=[") ▸ run num ▸ lit (bytes "]")) (lit (bytes "sparse_dim=") ▸ run figure)

abbrev pub no_travel : Of middle
no_travel = record { text = []; is = left the }

abbrev pub travel_of : Commas ℤ → Bool → Of middle
travel_of c s = record { text = Form.travel_text c s; is = right (the & list_in c & the & comma_in s) }

abbrev pub map_of : Commas ℤ → Of end
map_of c = record { text = Form.map_text c; is = left (the & list_in c & the) }

abbrev pub sparse_of : ℤ → Of end
sparse_of z = record { text = bytes "sparse_dim=" ⊕ decimal z; is = right (the & decimal_in z) }

-- what stands in a view's brackets
pub record Sight : Type 0 where
  pub view : Form.View
  pub middle : Of middle
  pub end : Of end

-- with a padding and an introduction, and r for the mark
abbrev pub whole : Sight → List ℕ → List ℕ → List ℕ → List ℕ
whole w p i r = Form.inner (entries w.view.tile) (comma w.view.space) w.middle.text p i (body w.view.tensor r) (comma w.view.space') w.end.text

-- the tile and the traversal, before a shape
abbrev pub tile_shape : Shape → Shape
tile_shape a = lit (bytes "tile=(") ▸ run num ▸ lit (bytes ")") ▸ comma_shape ▸ middle ▸ a

abbrev pub view_shape : Shape → Shape → Shape
view_shape p i = tile_shape (p ▸ i ▸ lit (bytes "tensor_view<") ▸ body_shape ▸ lit (bytes ">") ▸ comma_shape ▸ end)

pub whole_in : {p i : Shape} {tp ti : List ℕ} (w : Sight) → In p tp → In i ti → In (view_shape p i) (whole w tp ti [])
whole_in w ip ii = the & entries_in w.view.tile & the & comma_in w.view.space & w.middle.is & ip & ii & the & body_in w.view.tensor
    & the & comma_in w.view.space' & w.end.is

-- its own
abbrev pub inside : Sight → List ℕ → List ℕ
inside w = whole w (Form.pad_text w.view.padding) (Form.intro_text w.view.intro)
