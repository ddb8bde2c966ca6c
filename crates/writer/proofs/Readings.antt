-- The record of an ordinary reading has a text, unless its attribute stands on a scalar, a tile of scalars or a token: what a
-- form finds has no empty list where the text of its kind needs an entry.
use Rattle.std.specs.Prelude.{if◌then◌else◌, Option, None, Some}
use Prim.Native.Nat.{ℕ, zero, suc, ◌≤◌, ◌<◌}
use Prim.Native.Char.{code}
use native.Mathlib.Nat.{zero-lt-suc}
use native.Mathlib.Omega.{arith}
use mathlib.Core.Bool.{Bool, true, false, ◌&&◌, ◌||◌, not}
use mathlib.Core.List as L
use mathlib.Core.List.{List, [], ◌∷◌}
use mathlib.Core.Path.{◌≡◌, refl, ap, ◌∙◌}
use lib.Dec.{T, eqb, eqb-suc-zero}
use lib.IntN.{ℤ, pos}
use lib.ListN.{length, replicate, length-map, length-replicate}
use Rattle.lexis.specs.Text.{Text, bytes, trim, split, onto_first, less_leading, less_trailing, Cut, nowhere, at, cut}
use Rattle.scalars.specs.Names.{scalar_name}
use Rattle.scalars.specs.declared.scalar.Scalar.{Scalar}
use Rattle.meaning.specs.declared.Kind.{Kind}
use Rattle.meaning.specs.declared.Kind.TheVariants as K
use Rattle.meaning.specs.declared.Record.{Record}
use Rattle.meaning.specs.declared.Refusal.{Refusal}
use Rattle.meaning.specs.declared.Refusal.TheVariants.{TooLong, HighByte, NoType, TooMany}
use Rattle.meaning.specs.Parts.{last, front, less_repeats, between, close}
use Rattle.meaning.specs.Found.{Entry, Clause, values, padded, Found, flat, within, made, unused, plain, token, with_attribute}
use Rattle.meaning.specs.Tile as M
use Rattle.meaning.specs.Tile.{Tensor}
use Rattle.meaning.specs.Views as W
use Rattle.meaning.specs.Views.{View, Listed, absent, unclosed, listed}
use Rattle.meaning.specs.Ordinary as O
use Rattle.meaning.specs.Written.{written}
use Rattle.writer.specs.Flat.{some_in, strides_fine, shown_as, shown, text}
use Rattle.writer.proofs.Same as Same
use Rattle.writer.proofs.Same.{Whole}
use Rattle.grammar.specs.Tests.{and_in, or_left, is_true}
use Rattle.meaning.proofs.Whens.{When, when_each, all_each}
use Rattle.meaning.proofs.Everywhere.{Read, ordinary_all}

abbrev value : Entry → ℤ
value e = e.value

-- ── what a text needs ──

-- an attribute that has no text
abbrev pub stray : Kind → Bool → Bool
stray K.Scalar p = true
stray K.Pointer p = false
stray K.Tile p = not p
stray K.TensorView p = false
stray K.Partition p = false
stray K.GatherScatter p = false
stray K.Strided p = false
stray K.Token p = true

-- the lists that must have an entry
abbrev lists_shown : Kind → Record → Bool
lists_shown K.Scalar r = true
lists_shown K.Pointer r = true
lists_shown K.Tile r = true
lists_shown K.TensorView r = strides_fine r
lists_shown K.Partition r = some_in r.tile_len && strides_fine r && some_in r.map_len
lists_shown K.GatherScatter r = some_in r.tile_len && strides_fine r
lists_shown K.Strided r = some_in r.tile_len && strides_fine r && some_in r.traversal_len && some_in r.map_len
lists_shown K.Token r = true

tile_shown : (p a : Bool) → p || not a ≡ not (not p && a)
tile_shown true a = refl
tile_shown false a = refl

shown_is : (k : Kind) (r : Record) → T (lists_shown k r) → shown_as k r ≡ not (stray k r.pointer && r.attribute)
shown_is K.Scalar r h = refl
shown_is K.Pointer r h = refl
shown_is K.Tile r h = tile_shown r.pointer r.attribute
shown_is K.TensorView r h = is_true (shown_as K.TensorView r) h
shown_is K.Partition r h = is_true (shown_as K.Partition r) h
shown_is K.GatherScatter r h = is_true (shown_as K.GatherScatter r) h
shown_is K.Strided r h = is_true (shown_as K.Strided r) h
shown_is K.Token r h = refl

-- ── lists with an entry ──

counts : (n : ℕ) → 0 < n → T (some_in n)
counts zero h = let f : ⊥ = omega arith in absurd f
counts (suc n) h = rw (eqb-suc-zero n) tt

map_filled : {A B : Type 0} (f : A → B) (l : List A) → 0 < length l → 0 < length (L.map f l)
map_filled f l h = rw length-map h

split_filled : (x : ℕ) (s : Text) → 0 < length (split x s)
split_filled x [] = zero-lt-suc 0
split_filled x (b ∷ s) = by (eqb x b) (split x s)
  where
    by : (c : Bool) (l : List Text) → 0 < length (if c then [] ∷ l else onto_first b l)
    by true l = zero-lt-suc (length l)
    by false [] = zero-lt-suc 0
    by false (p ∷ l) = zero-lt-suc (length l)

count_up_filled : (n : ℕ) → 0 < n → 0 < length (W.count_up 0 n)
count_up_filled zero h = h
count_up_filled (suc n) h = zero-lt-suc (length (W.count_up 1 n))

replicate_filled : (n : ℕ) (z : ℤ) → 0 < n → 0 < length (replicate n z)
replicate_filled n z h = rw length-replicate h

abbrev Full : Clause → Type 0
Full c = 0 < length (values c)

entries_full : (s : Text) → Full (W.entries s)
unfolding W.entries
entries_full s = map_filled value (L.map (W.small (pos 0)) (split (code ",") s)) (map_filled (W.small (pos 0)) (split (code ",") s) (split_filled (code ",") s))

-- ── what is found ──

-- at any capacity: only lengths are looked at
abbrev Rich : Found → Type 0
Rich t = (cap : ℕ) → T (lists_shown t.kind (flat cap t))

abbrev TensorRich : Tensor → Type 0
TensorRich v = T (some_in (length (values v.strides)) || eqb (length (values v.shape)) 0)

record ViewRich (v : View) : Type 0 where
  pub tile : 0 < length v.tile
  pub tensor : TensorRich v.tensor

parts_filled : (s : Text) → 0 < length (M.stride_parts s)
unfolding M.stride_parts
parts_filled s = split_filled (code ",") (less_trailing (eqb (code "]")) (less_leading (eqb (code "[")) s))

-- with the clause an entry stands; without it as many as dimensions
tensor_of_rich : (dims : List Text) (o : Option Text) (e : Scalar) → TensorRich (M.tensor_of dims o e)
tensor_of_rich [] None e = tt
tensor_of_rich (d ∷ ds) None e =
    let n = length (replicate (suc (length ds)) M.DYNAMIC) in
    or_left (some_in n) (eqb (length (values (M.dimensions (d ∷ ds)))) 0) (counts n (zero-lt-suc (length (replicate (length ds) M.DYNAMIC))))
tensor_of_rich dims (Some s) e =
    let ps = M.stride_parts s in
    let n = length (L.map value (L.map M.dimension ps)) in
    or_left (some_in n) (eqb (length (values (M.dimensions dims))) 0)
    (counts n (map_filled value (L.map M.dimension ps) (map_filled M.dimension ps (parts_filled s))))

tensor_parts_rich : (s : Text) (o : Option Text) → When TensorRich (M.tensor_parts s o)
unfolding M.tensor_parts
tensor_parts_rich s o =
    all_each TensorRich (M.tensor_of (front (split (code "x") s)) o) (tensor_of_rich (front (split (code "x") s)) o) (scalar_name (last (split (code "x") s)))

tensor_rich : (s : Text) → When TensorRich (M.tensor s)
unfolding M.tensor
tensor_rich s = by (cut (bytes ", strides=") s) (cut (bytes ",strides=") s)
  where
    by : (c d : Cut) → When TensorRich (M.tensor_by s c d)
    by (at u t) d = tensor_parts_rich u (Some t)
    by nowhere (at u t) = tensor_parts_rich u (Some t)
    by nowhere nowhere = tensor_parts_rich s None

inner_rich : (o : Option Text) → When TensorRich (W.inner_by o)
inner_rich None = tt
inner_rich (Some t) = tensor_rich (W.enclosed (close 0 t))

tile_filled : (s : Text) → 0 < length (W.tile_entries s)
unfolding W.tile_entries
tile_filled s = map_filled (W.small (pos 1)) (split _ s) (split_filled _ s)

view_rich : (s : Text) → When ViewRich (W.view s)
unfolding W.view
view_rich s = by (between (bytes "tile=(") (bytes ")") s)
  where
    by : (c : Cut) → When ViewRich (W.view_by s c)
    by nowhere = tt
    by (at u t) = when_each TensorRich ViewRich _ (λ v h. record { tile = tile_filled u; tensor = h }) (W.inner_by (W.opened s t)) (inner_rich (W.opened s t))

-- ── what each form finds ──

module _ (v : View) (h : ViewRich v) where
  own_map_full : Full (W.own_map v)
  own_map_full = count_up_filled (length v.tile) h.tile

  own_traversal_full : Full (W.own_traversal v)
  own_traversal_full = replicate_filled (length v.tile) (pos 1) h.tile

  list_full : (c : Clause) → Full c → (l : Listed) → Full (W.list_or c l)
  list_full c k absent = k
  list_full c k unclosed = k
  list_full c k (listed s) = entries_full s

  tile_counts : T (some_in (length (L.map value v.tile)))
  tile_counts = counts (length (L.map value v.tile)) (map_filled value v.tile h.tile)

  abbrev tile_in : Bool
  tile_in = some_in (length (L.map value v.tile))

  abbrev strides_in : Bool
  strides_in = some_in (length (values v.tensor.strides)) || eqb (length (values v.tensor.shape)) 0

  view_counts : T (tile_in && strides_in)
  view_counts = and_in tile_in strides_in tile_counts h.tensor

  abbrev some_of : Clause → Bool
  some_of c = some_in (length (values c))

  partition_rich : (m : Clause) → Full m → Rich (W.view_of K.Partition m unused unused v)
  unfolding flat made W.view_of
  partition_rich m k cap = and_in (tile_in && strides_in) (some_of m) view_counts (counts (length (values m)) k)

  gather_rich : (c : Clause) → Rich (W.view_of K.GatherScatter unused unused c v)
  unfolding flat made W.view_of
  gather_rich c cap = view_counts

  strided_rich : (m t : Clause) → Full m → Full t → Rich (W.view_of K.Strided m t unused v)
  unfolding flat made W.view_of
  strided_rich m t k j cap =
      and_in (tile_in && strides_in && some_of t) (some_of m) (and_in (tile_in && strides_in) (some_of t) view_counts (counts (length (values t)) j)) (counts (length (values m)) k)

plain_rich : (e : Scalar) → Rich (plain K.Scalar e)
unfolding flat plain made
plain_rich e cap = tt

pointer_rich : (e : Scalar) → Rich (plain K.Pointer e)
unfolding flat plain made
pointer_rich e cap = tt

token_rich : Rich token
unfolding flat token plain made
token_rich cap = tt

tile_rich : (p : Bool) (c : Clause) (e : Scalar) → Rich (M.tile_of p c e)
unfolding flat made M.tile_of
tile_rich p c e cap = tt

tensor_found_rich : (v : Tensor) → TensorRich v → Rich (M.tensor_found v)
unfolding flat made M.tensor_found
tensor_found_rich v h cap = h

attribute_rich : (t : Found) → Rich t → Rich (with_attribute t)
unfolding flat with_attribute
attribute_rich t h cap = same_lists t.kind (flat cap t) (flat cap (with_attribute t)) refl refl refl refl refl (h cap)
  where
    same_lists : (k : Kind) (r q : Record) → r.shape_len ≡ q.shape_len → r.strides_len ≡ q.strides_len → r.tile_len ≡ q.tile_len →
        r.map_len ≡ q.map_len → r.traversal_len ≡ q.traversal_len → T (lists_shown k r) → T (lists_shown k q)
    same_lists K.Scalar r q a b c d e h = tt
    same_lists K.Pointer r q a b c d e h = tt
    same_lists K.Tile r q a b c d e h = tt
    same_lists K.TensorView r q a b c d e h = rw (a, b) at h
    same_lists K.Partition r q a b c d e h = rw (a, b, c, d) at h
    same_lists K.GatherScatter r q a b c d e h = rw (a, b, c) at h
    same_lists K.Strided r q a b c d e h = rw (a, b, c, d, e) at h
    same_lists K.Token r q a b c d e h = tt

-- ── what each form finds ──

tile_reads : (s : Text) → When Rich (M.tile s)
unfolding M.tile
tile_reads s = by (cut (bytes "ptr<") s)
  where
    by : (c : Cut) → When Rich (M.tile_by s c)
    by nowhere = all_each Rich _ (tile_rich false (M.dimensions (front (split (code "x") s)))) (scalar_name (last (split (code "x") s)))
    by (at u t) =
        all_each Rich _ (tile_rich true (M.dimensions (M.before_pointer (less_repeats (bytes "!cuda_tile.") (trim u))))) (M.pointee (cut (bytes ">") t))

tensor_reads : (s : Text) → When Rich (M.tensor_view s)
unfolding M.tensor_view
tensor_reads s = when_each TensorRich Rich M.tensor_found tensor_found_rich (M.tensor s) (tensor_rich s)

partition_reads : (s : Text) → When Rich (W.partition_view s)
unfolding W.partition_view
partition_reads s = by (W.list_after (bytes "dim_map=[") s) (W.view s) (view_rich s)
  where
    by : (l : Listed) (o : Option View) → When ViewRich o → When Rich (W.partition_from l o)
    by l None h = tt
    by absent (Some v) h = partition_rich v h (W.own_map v) (own_map_full v h)
    by unclosed (Some v) h = tt
    by (listed t) (Some v) h = partition_rich v h (W.entries t) (entries_full t)

gather_reads : (s : Text) → When Rich (W.gather_scatter_view s)
unfolding W.gather_scatter_view
gather_reads s = when_each ViewRich Rich _ (λ v h. gather_rich v h (W.sparse_by (cut (bytes "sparse_dim=") s))) (W.view s) (view_rich s)

strided_reads : (s : Text) → When Rich (W.strided_view s)
unfolding W.strided_view W.strided_of
strided_reads s =
    let m = W.list_after (bytes "dim_map=[") s in
    let t = W.list_after (bytes "traversal_strides=[") s in
    when_each ViewRich Rich (W.strided_of m t) (λ v h.
    strided_rich v h (W.list_or (W.own_map v) m) (W.list_or (W.own_traversal v) t)
    (list_full v h (W.own_map v) (own_map_full v h) m) (list_full v h (W.own_traversal v) (own_traversal_full v h) t))
    (W.view s) (view_rich s)

pointer_reads : (s : Text) → When Rich (O.pointer s)
unfolding O.pointer
pointer_reads s = all_each Rich (plain K.Pointer) pointer_rich (scalar_name s)

rich : Read Rich
rich = record {
  token_is = token_rich;
  scalar = plain_rich;
  pointer = pointer_reads;
  tile = tile_reads;
  tensor = tensor_reads;
  partition = partition_reads;
  gather = gather_reads;
  strided = strided_reads;
  attribute = attribute_rich;
}

-- ── its record ──

-- a record has a text exactly if no attribute is stray
abbrev pub Readable : Record → Type 0
Readable r = written r ≡ (if not (stray r.kind r.pointer && r.attribute) then Some (text r) else None)

padded_length : (cap : ℕ) (zs : List ℤ) → length (padded cap zs) ≡ cap
padded_length zero zs = refl
padded_length (suc cap) [] = ap suc (padded_length cap [])
padded_length (suc cap) (z ∷ zs) = ap suc (padded_length cap zs)

flat_whole : (cap : ℕ) (t : Found) → 1 ≤ cap → Whole (flat cap t)
unfolding flat
flat_whole cap t h = record {
  shape = rw (padded_length cap (values t.shape)) h;
  strides = rw (padded_length cap (values t.strides)) h;
  tile = rw (padded_length cap (values t.tile)) h;
  map = rw (padded_length cap (values t.map)) h;
  traversal = rw (padded_length cap (values t.traversal)) h;
}

shown_flat : (cap : ℕ) (t : Found) → Rich t → shown (flat cap t) ≡ not (stray (flat cap t).kind (flat cap t).pointer && (flat cap t).attribute)
unfolding flat
shown_flat cap t h = shown_is t.kind (flat cap t) (h cap)

rich_readable : (cap : ℕ) (t : Found) → 1 ≤ cap → Rich t → Readable (flat cap t)
rich_readable cap t h k =
    Same.same (flat cap t) (flat_whole cap t h) ∙ ap (λ (b : Bool). if b then Some (text (flat cap t)) else None) (shown_flat cap t k)

module _ (cap : ℕ) (one : 1 ≤ cap) where
  refused_readable : (why : Refusal) (place : ℕ) → Readable (O.refused cap why place).value
  unfolding O.refused
  refused_readable why place = rich_readable cap token one token_rich

  accepted_readable : (t : Found) → Rich t → within cap t ≡ true → Readable (O.accepted cap t).value
  unfolding O.accepted
  accepted_readable t h e = rich_readable cap t one h

  pub ordinary_readable : (size : ℕ) (s : Text) → Readable (O.ordinary cap size s).value
  ordinary_readable size s =
      ordinary_all Rich rich cap (λ r. Readable r.value) (record {
        too_long = refused_readable TooLong 0;
        high = refused_readable HighByte;
        no_type = refused_readable NoType 0;
        too_many = refused_readable TooMany 0;
        accepts = accepted_readable;
      }) size s
