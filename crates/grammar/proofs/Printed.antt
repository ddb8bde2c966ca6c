-- Every byte of a strict text is below 128, part by part.
use Prim.Native.Nat.{ℕ, suc}
use native.Mathlib.Omega.{arith}
use mathlib.Core.Bool.{Bool, true, false}
use mathlib.Core.List.{List, [], ◌∷◌, ◌++◌}
use Rattle.std.specs.Prelude.{None}
use mathlib.Core.Path.{◌≡◌, refl, sym, subst}
use borrow.Author.Tests.{lt-leb}
use lib.Dec.{T, leb, ltb, leb→le, lt→ltb, ltb→lt}
use lib.IntN.{ℤ}
use Rattle.lexis.specs.Text.{Text, bytes}
use Rattle.meaning.specs.Decimal.{decimal, Dim, dynamic, known, dim}
use Rattle.meaning.specs.Ordinary.{high_from}
use Rattle.meaning.specs.Strict as S
use Rattle.meaning.specs.Strict.{may, words, pads, Name, Place, word, pad, comma, Next, Commas, rest, commas, dims, xrest, Entries, by_x, by_comma}
use Rattle.meaning.specs.Strict.{entries, cuda, mark, Pointer, pointer_text, Element, element, Strides, strides, Tensor, body, Pads, pad_text, Intro, bare}
use Rattle.meaning.specs.Strict.{prefixed, named, intro_text, View, view_text, map_text, travel_text, Form, spell}
use Rattle.meaning.specs.Meant.{Any, Strict}
use Rattle.grammar.specs.Tests.{every, and_left, and_right, every-++, every_nth}
use Rattle.grammar.specs.Digits.{decimal_over}

-- ── bytes below 128 ──

abbrev low : ℕ → Bool
low b = ltb b 128

abbrev plain : Text → Bool
plain = every low

record Plain (t : Text) : Type 0 where
  within : T (plain t)

infixr 60 ◌also◌
◌also◌ : {a b : Text} → Plain a → Plain b → Plain (a ++ b)
◌also◌ {a} {b} p q = record { within = every-++ low a b p.within q.within }

quoted : (t : Text) → T (plain t) → Plain t
quoted t h = record { within = h }

nil : Plain []
nil = record { within = tt }

none_high : (k : ℕ) (t : Text) → T (plain t) → high_from k t ≡ None
none_high k [] h = refl
none_high k (b ∷ t) h =
    let e = lt-leb 128 b (ltb→lt b 128 (and_left (low b) (plain t) h)) in
    rw e (none_high (suc k) t (and_right (low b) (plain t) h))

-- ── numbers ──

decimal_plain : (z : ℤ) → Plain (decimal z)
decimal_plain z = record { within = decimal_over low (λ c h. lt→ltb c 128 (let k = leb→le c 57 (and_right (leb 48 c) (leb c 57) h) in omega arith)) tt z }

dim_plain : (d : Dim) → Plain (dim d)
dim_plain dynamic = quoted (bytes "?") tt
dim_plain (known z) = decimal_plain z

-- ── the parts of a form ──

may_plain : (b : Bool) {t : Text} → Plain t → Plain (may b t)
may_plain true h = h
may_plain false h = nil

word_plain : (n : Name) → Plain (word n)
word_plain n = record { within = every_nth plain [] tt words tt n.index }

pad_plain : (p : Place 5) → Plain (pad p)
pad_plain p = record { within = every_nth plain [] tt pads tt p.index }

comma_plain : (s : Bool) → Plain (comma s)
comma_plain s = quoted (bytes ",") tt also may_plain s (quoted (bytes " ") tt)

rest_plain : {A : Type 0} (f : A → Text) → ((a : A) → Plain (f a)) → (l : List (Next A)) → Plain (rest f l)
rest_plain f h [] = nil
rest_plain f h (n ∷ l) = comma_plain n.space also h n.entry also rest_plain f h l

commas_plain : {A : Type 0} (f : A → Text) → ((a : A) → Plain (f a)) → (c : Commas A) → Plain (commas f c)
commas_plain f h c = h c.head also rest_plain f h c.tail

dims_plain : (l : List Dim) → Plain (dims l)
dims_plain [] = nil
dims_plain (d ∷ l) = dim_plain d also quoted (bytes "x") tt also dims_plain l

xrest_plain : (l : List ℤ) → Plain (xrest l)
xrest_plain [] = nil
xrest_plain (z ∷ l) = quoted (bytes "x") tt also decimal_plain z also xrest_plain l

entries_plain : (e : Entries) → Plain (entries e)
entries_plain (by_x z l) = decimal_plain z also xrest_plain l
entries_plain (by_comma c) = commas_plain decimal decimal_plain c

cuda_plain : (b : Bool) → Plain (cuda b)
cuda_plain b = may_plain b (quoted (bytes "!cuda_tile.") tt)

mark_plain : (b : Bool) → Plain (mark b)
mark_plain b = may_plain b (quoted (bytes ", #cuda_tile.ptr_attr<none>") tt)

pointer_plain : (p : Pointer) → Plain (pointer_text p)
pointer_plain p = cuda_plain p.front also quoted (bytes "ptr<") tt also word_plain p.name also mark_plain p.marked also quoted (bytes ">") tt

element_plain : (e : Element) → Plain (element e)
element_plain (S.plain n) = word_plain n
element_plain (S.pointer p) = pointer_plain p

strides_plain : (s : Strides) {t : Text} → Plain t → Plain (strides s t)
strides_plain S.Strides.absent h = h
strides_plain (S.Strides.given s c) h = comma_plain s also quoted (bytes "strides=[") tt also commas_plain dim dim_plain c also quoted (bytes "]") tt also h

body_plain : (t : Tensor) → Plain (body t)
body_plain t = dims_plain t.shape also word_plain t.name also strides_plain t.strides (mark_plain t.marked)

pads_plain : (p : Pads) → Plain (pad_text p)
pads_plain S.Pads.absent = nil
pads_plain (S.Pads.given p s) = quoted (bytes "padding_value=") tt also pad_plain p also comma_plain s

intro_plain : (i : Intro) → Plain (intro_text i)
intro_plain bare = nil
intro_plain prefixed = quoted (bytes "!cuda_tile.") tt
intro_plain named = quoted (bytes "tensor_view=!cuda_tile.") tt

view_plain : (v : View) {m d : Text} → Plain m → Plain d → Plain (view_text v m d)
view_plain v m d =
    quoted (bytes "tile=(") tt also entries_plain v.tile also quoted (bytes ")") tt also comma_plain v.space also m
    also pads_plain v.padding also intro_plain v.intro also quoted (bytes "tensor_view<") tt also body_plain v.tensor
    also quoted (bytes ">") tt also comma_plain v.space' also d

map_plain : (c : Commas ℤ) → Plain (map_text c)
map_plain c = quoted (bytes "dim_map=[") tt also commas_plain decimal decimal_plain c also quoted (bytes "]") tt

travel_plain : (c : Commas ℤ) (s : Bool) → Plain (travel_text c s)
travel_plain c s =
    quoted (bytes "traversal_strides=[") tt also commas_plain decimal decimal_plain c also quoted (bytes "]") tt also comma_plain s

-- ── strict texts ──

spell_plain : (f : Form) → Plain (spell f)
spell_plain (S.scalar n) = word_plain n
spell_plain (S.token p) = cuda_plain p also quoted (bytes "token") tt
spell_plain (S.ptr p) = pointer_plain p
spell_plain (S.tile p ds e) = cuda_plain p also quoted (bytes "tile<") tt also dims_plain ds also element_plain e also quoted (bytes ">") tt
spell_plain (S.tensor p t) = cuda_plain p also quoted (bytes "tensor_view<") tt also body_plain t also quoted (bytes ">") tt
spell_plain (S.partition v c) =
    cuda_plain v.front also quoted (bytes "partition_view<") tt also view_plain v nil (map_plain c) also quoted (bytes ">") tt
spell_plain (S.gather v z) =
    cuda_plain v.front also quoted (bytes "gather_scatter_view<") tt also view_plain v nil (quoted (bytes "sparse_dim=") tt also decimal_plain z) also quoted (bytes ">") tt
spell_plain (S.strided v c s d) =
    cuda_plain v.front also quoted (bytes "strided_view<") tt also view_plain v (travel_plain c s) (map_plain d) also quoted (bytes ">") tt

plainly : (t : Text) (a : Any) → Strict t a → T (plain t)
plainly t a h = subst (λ (u : Text). T (plain u)) (sym h.text) (spell_plain h.form).within

-- A STRICT TEXT IS ASCII
pub strict_low : (t : Text) (a : Any) → Strict t a → high_from 0 t ≡ None
strict_low t a h = none_high 0 t (plainly t a h)
