-- The text laid down part by part is the spelling of the form, and there is a form exactly where the lengths say so: by cases on the lists.
use Rattle.std.specs.Prelude.{if◌then◌else◌, Option, None, Some}
use Prim.Native.Nat.{ℕ, zero, suc, ◌<◌}
use native.Mathlib.Omega.{arith}
use mathlib.Core.Bool.{Bool, true, false, ◌&&◌, ◌||◌, not}
use Rattle.std.proofs.Math.Bool.{not-not}
use mathlib.Core.List.{List, [], ◌∷◌, ◌++◌, map, append_assoc}
use mathlib.Core.Path.{◌≡◌, refl, ap, ◌∙◌}
use lib.Dec.{eqb, eqb-suc-zero}
use lib.IntN.{ℤ}
use lib.ListN.{length, take}
use Rattle.lexis.specs.Text.{Text, bytes}
use Rattle.scalars.specs.declared.scalar.Scalar.{Scalar}
use Rattle.meaning.specs.declared.Kind.{Kind}
use Rattle.meaning.specs.declared.Kind.TheVariants as K
use Rattle.meaning.specs.declared.Padding.{Padding}
use Rattle.meaning.specs.declared.Record.{Record}
use Rattle.meaning.specs.Decimal.{decimal, dim}
use Rattle.meaning.specs.Parts.{each}
use Rattle.meaning.specs.Strict as F
use Rattle.meaning.specs.Strict.{◌⊕◌, Tensor, Form, spell}
use Rattle.meaning.specs.Written.{◌>>=◌, unless, listed, dimension_of, first, form_as, written, tensor_of, view_of, tensor_in, shape_in, strides_in, tile_in}
use Rattle.meaning.specs.Written.{map_in, traversal_in}
use Rattle.writer.specs.Flat.{behind, clause, shaped, strides_text, body_text, padding_text, lead_text, travel_text, map_text, sparse_text, body_in, inner_in}
use Rattle.writer.specs.Flat.{element_text, text_as, text, some_in, strides_fine, shown_as, shown}

-- ── lists ──
shaped_is : (zs : List ℤ) → F.dims (map dimension_of zs) ≡ shaped zs
unfolding shaped
shaped_is [] = refl
shaped_is (z ∷ zs) = rw (shaped_is zs, append_assoc)

rest_is : {A : Type 0} (g : A → Text) (f : ℤ → A) (zs : List ℤ) → F.rest g (map (λ (z : ℤ). record { space = false; entry = f z }) zs) ≡ behind (bytes ",") (λ (z : ℤ). g (f z)) zs
rest_is g f [] = refl
rest_is g f (z ∷ zs) = ap (λ (l : Text). 44 ∷ (g (f z) ++ l)) (rest_is g f zs)

xrest_is : (zs : List ℤ) → F.xrest zs ≡ behind (bytes "x") decimal zs
xrest_is [] = refl
xrest_is (z ∷ zs) = ap (λ (l : Text). 120 ∷ (decimal z ++ l)) (xrest_is zs)

abbrev pub filled : List ℤ → Bool
filled [] = false
filled (z ∷ zs) = true

-- ── the tensor view: where there is one, its content ──
Tells : Option Tensor → Bool → Text → Type 0
Tells None true x = ⊥
Tells None false x = Unit {0}
Tells (Some t) true x = F.body t ≡ x
Tells (Some t) false x = ⊥

abbrev fine : List ℤ → List ℤ → Bool
fine ds zs = filled zs || not (filled ds)

tensor_tells : (e : Scalar) (m : Bool) (ds zs : List ℤ) → Tells (tensor_of e m ds zs) (fine ds zs) (body_text e m ds zs)
unfolding Tells clause shaped strides_text
tensor_tells e m [] [] = refl
tensor_tells e m (d ∷ ds) [] = tt
tensor_tells e m [] (z ∷ zs) = simp (append_assoc, rest_is dim dimension_of zs)
tensor_tells e m (d ∷ ds) (z ∷ zs) = simp (append_assoc, shaped_is (d ∷ ds), rest_is dim dimension_of zs)

abbrev spelt : Option Form → Option Text
spelt o = each spell o

abbrev either : Bool → Text → Option Text
either b x = if b then Some x else None

tensor_law : (o : Option Tensor) (b : Bool) (x : Text) → Tells o b x → spelt (each (F.tensor true) o) ≡ either b (bytes "!cuda_tile.tensor_view<" ⊕ x ⊕ bytes ">")
unfolding Tells
tensor_law None true x k = absurd k
tensor_law None false x k = refl
tensor_law (Some t) true x k = rw k
tensor_law (Some t) false x k = absurd k

module _ (p : Padding) where
  abbrev inner : Text → Text
  inner x = padding_text p ⊕ bytes "tensor_view<" ⊕ x ⊕ bytes ">, "

  partition_law : (ts : List ℤ) (o : Option Tensor) (b : Bool) (x : Text) (ms : List ℤ) → Tells o b x →
      spelt (view_of p ts o >>= λ v. each (F.partition v) (listed (λ z. z) ms))
      ≡ either (filled ts && b && filled ms) (bytes "!cuda_tile.partition_view<" ⊕ lead_text ts ⊕ inner x ⊕ map_text ms)
  unfolding Tells clause sparse_text
  partition_law [] o b x ms k = refl
  partition_law (t ∷ ts) None true x ms k = absurd k
  partition_law (t ∷ ts) None false x ms k = refl
  partition_law (t ∷ ts) (Some v) false x ms k = absurd k
  partition_law (t ∷ ts) (Some v) true x [] k = refl
  partition_law (t ∷ ts) (Some v) true x (m ∷ ms) k = simp (k, append_assoc, xrest_is ts, rest_is decimal (λ z. z) ms)

  gather_law : (ts : List ℤ) (o : Option Tensor) (b : Bool) (x : Text) (z : ℤ) → Tells o b x →
      spelt (each (λ v. F.gather v z) (view_of p ts o))
      ≡ either (filled ts && b) (bytes "!cuda_tile.gather_scatter_view<" ⊕ lead_text ts ⊕ inner x ⊕ sparse_text z)
  unfolding Tells clause sparse_text
  gather_law [] o b x z k = refl
  gather_law (t ∷ ts) None true x z k = absurd k
  gather_law (t ∷ ts) None false x z k = refl
  gather_law (t ∷ ts) (Some v) false x z k = absurd k
  gather_law (t ∷ ts) (Some v) true x z k = simp (k, append_assoc, xrest_is ts)

  strided_law : (ts : List ℤ) (o : Option Tensor) (b : Bool) (x : Text) (ws ms : List ℤ) → Tells o b x →
      spelt (view_of p ts o >>= λ v. listed (λ z. z) ws >>= λ t. each (F.strided v t true) (listed (λ z. z) ms))
      ≡ either (filled ts && b && filled ws && filled ms) (bytes "!cuda_tile.strided_view<" ⊕ lead_text ts ⊕ travel_text ws ⊕ inner x ⊕ map_text ms)
  unfolding Tells clause sparse_text
  strided_law [] o b x ws ms k = refl
  strided_law (t ∷ ts) None true x ws ms k = absurd k
  strided_law (t ∷ ts) None false x ws ms k = refl
  strided_law (t ∷ ts) (Some v) false x ws ms k = absurd k
  strided_law (t ∷ ts) (Some v) true x [] ms k = refl
  strided_law (t ∷ ts) (Some v) true x (w ∷ ws) [] k = refl
  strided_law (t ∷ ts) (Some v) true x (w ∷ ws) (m ∷ ms) k = simp (k, append_assoc, xrest_is ts, rest_is decimal (λ z. z) ws, rest_is decimal (λ z. z) ms)

-- ── the record ──
-- each array has an entry
pub record Whole (r : Record) : Type 0 where
  pub shape : 0 < length r.shape
  pub strides : 0 < length r.strides
  pub tile : 0 < length r.tile
  pub map : 0 < length r.map
  pub traversal : 0 < length r.traversal

counted : (n : ℕ) (l : List ℤ) → 0 < length l → filled (take n l) ≡ some_in n
counted n [] h = let f : ⊥ = omega arith in absurd f
counted zero (z ∷ l) h = refl
counted (suc n) (z ∷ l) h = rw (eqb-suc-zero n)

plain_law : (x : Form) (m : Bool) → spelt (unless m x) ≡ either (not m) (spell x)
plain_law x true = refl
plain_law x false = refl

tile_law : (p : Bool) (m : Bool) (e : Scalar) (ds : List ℤ) →
    spelt (if p then Some (F.tile true (map dimension_of ds) (F.pointer (record { front = true; name = first e; marked = m })))
    else unless m (F.tile true (map dimension_of ds) (F.plain (first e))))
    ≡ either (p || not m) (bytes "!cuda_tile.tile<" ⊕ shaped ds ⊕ element_text p e m ⊕ bytes ">")
tile_law true m e ds = simp (shaped_is ds)
tile_law false true e ds = refl
tile_law false false e ds = simp (shaped_is ds)

fine_is : (r : Record) → Whole r → fine (shape_in r) (strides_in r) ≡ strides_fine r
fine_is r w = λ i.
    counted r.strides_len r.strides w.strides i
    || (ap not (counted r.shape_len r.shape w.shape) ∙ not-not (eqb r.shape_len 0)) i

same_as : (k : Kind) (r : Record) → Whole r → spelt (form_as k r) ≡ either (shown_as k r) (text_as k r)
unfolding body_in inner_in
same_as K.Scalar r w = plain_law (F.scalar (first r.element)) r.attribute
same_as K.Pointer r w = refl
same_as K.Tile r w = tile_law r.pointer r.attribute r.element (shape_in r)
same_as K.TensorView r w =
    tensor_law (tensor_in r) (fine (shape_in r) (strides_in r)) (body_in r) (tensor_tells r.element r.attribute (shape_in r) (strides_in r))
    ∙ λ i. either (fine_is r w i) (text_as K.TensorView r)
same_as K.Partition r w =
    partition_law r.padding (tile_in r) (tensor_in r) (fine (shape_in r) (strides_in r)) (body_in r) (map_in r)
    (tensor_tells r.element r.attribute (shape_in r) (strides_in r))
    ∙ λ i. either (counted r.tile_len r.tile w.tile i && fine_is r w i && counted r.map_len r.map w.map i) (text_as K.Partition r)
same_as K.GatherScatter r w =
    gather_law r.padding (tile_in r) (tensor_in r) (fine (shape_in r) (strides_in r)) (body_in r) r.sparse
    (tensor_tells r.element r.attribute (shape_in r) (strides_in r))
    ∙ λ i. either (counted r.tile_len r.tile w.tile i && fine_is r w i) (text_as K.GatherScatter r)
same_as K.Strided r w =
    strided_law r.padding (tile_in r) (tensor_in r) (fine (shape_in r) (strides_in r)) (body_in r) (traversal_in r) (map_in r)
    (tensor_tells r.element r.attribute (shape_in r) (strides_in r))
    ∙ λ i. either (counted r.tile_len r.tile w.tile i && fine_is r w i
    && counted r.traversal_len r.traversal w.traversal i && counted r.map_len r.map w.map i) (text_as K.Strided r)
same_as K.Token r w = plain_law (F.token true) r.attribute

pub same : (r : Record) → Whole r → written r ≡ if shown r then Some (text r) else None
unfolding written
same r w = same_as r.kind r w
