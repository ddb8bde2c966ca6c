-- Texts parted: dimensions with a scalar behind them, and the two sides of a cut.
-- The part behind the last `x` names the scalar, what stands before it is laid.
use Prim.Native.Nat.{ℕ, suc, ◌+◌, ◌-◌, ◌≤◌}
use Prim.Native.Char.{code}
use mathlib.Core.Bool.{false}
use mathlib.Core.List as L
use mathlib.Core.List.{List, [], ◌∷◌}
use Rattle.std.specs.Prelude.{Option, None, Some, ℤ}
use mathlib.Core.Path.{◌≡◌, refl, sym, ap, subst, ◌∙◌}
use lib.Dec.{eqb}
use lib.ListN.{length, take, drop}
use Rattle.lexis.specs.Text.{Text, bytes, less_leading, less_trailing, split, Cut, nowhere, at, cut, place}
use Rattle.scalars.specs.Names.{scalar_name}
use Rattle.scalars.specs.declared.scalar.Scalar.{Scalar}
use Rattle.lexis.proofs.Lists.{rest}
use Rattle.lexis.proofs.Seeking.{cut_at, cut_within, cut_nowhere}
use Rattle.meaning.specs.Found.{Entry}
use Rattle.meaning.specs.Parts.{each, last, front}
use Rattle.meaning.specs.Tile.{dimension, dimensions, stride_parts, strides_of, tensor_of, tensor_parts, tensor_by, tensor, tensor_found, tensor_view}
use Rattle.meaning.specs.Tile as T
use Rattle.meaning.specs.declared.Kind.TheVariants as K
use Rattle.lists.specs.declared.list.Front.{Front}
use Rattle.lists.specs.declared.list.Listing.{Listing}
use Rattle.lists.specs.Laid.{Laid, laid, list, Fronted}
use Rattle.port.specs.declared.tensor_view.Tensor.{Tensor}
use Rattle.port.specs.Carried as C
use Rattle.port.specs.Carried.{carried, fell, Tensored, tensored, TensorIs}
use Rattle.port.proofs.Making.{sound_list}
use Rattle.port.proofs.Building.{bare, tensor_is, Has, has, lacks}

-- ── a cut, by the place that the code found ──

module _ {f : Option ℕ} (p s : Text) (e : f ≡ place (cut p s)) where
  module _ {i : ℕ} (q : f ≡ Some i) where
    pub cut_found : cut p s ≡ at (take i s) (drop (i + length p) s)
    cut_found = cut_at p s i (sym e ∙ q)

    pub found_within : i + length p ≤ length s
    found_within = cut_within p s i (sym e ∙ q)

  pub cut_none : f ≡ None → cut p s ≡ nowhere
  cut_none q = cut_nowhere p s (sym e ∙ q)

-- ── dimensions, then a scalar ──

-- the parts before the last `x`, and the one behind it
abbrev pub sizes : Text → List Text
sizes s = front (split (code "x") s)

abbrev pub behind : Text → Text
behind s = last (split (code "x") s)

module _ (s : Text) {f : Front} (g : Fronted 8 s f) where
  pub named : {n m : Option Scalar} → n ≡ scalar_name (take (length s - f.last) (drop f.last s)) → n ≡ m → scalar_name (behind s) ≡ m
  named e q = sym (e ∙ ap scalar_name (rest s f.last ∙ g.part)) ∙ q

  -- the dimensions that were laid are the rank
  pub ranked : (strides : Option Text) {l : Laid} → l ≡ laid 8 (strides_of f.dims.row.len strides) → l ≡ laid 8 (strides_of (length (sizes s)) strides)
  ranked strides e = e ∙ ap (λ (n : ℕ). laid 8 (strides_of n strides)) (ap (λ (m : Laid). m.row.len) g.dims ∙ as_many (sizes s))
    where
      as_many : (ps : List Text) → length (L.map (λ (e : Entry). e.value) (L.map dimension ps)) ≡ length ps
      as_many [] = refl
      as_many (p ∷ ps) = ap suc (as_many ps)

-- ── a tensor view ──

module _ (s : Text) (strides : Option Text) where
  by_element : {o : Option Scalar} → scalar_name (behind s) ≡ o → tensor_parts s strides ≡ each (tensor_of (sizes s) strides) o
  unfolding tensor_parts
  by_element e = ap (each (tensor_of (sizes s) strides)) e

  pub tensor_read : {e : Scalar} {a b : (Listing (List ℤ))} → scalar_name (behind s) ≡ Some e
      → list a ≡ laid 8 (dimensions (sizes s)) → list b ≡ laid 8 (strides_of (length (sizes s)) strides)
      → TensorIs (Some (record { element = e; shape = a; strides = b })) (tensor_parts s strides)
  tensor_read {e} n q r = rw (by_element n) (record { is = λ i. Some (record { element = e; shape = q i; strides = r i }) })

  pub tensor_none : {r : Option Tensor} → scalar_name (behind s) ≡ None → r ≡ None → TensorIs r (tensor_parts s strides)
  tensor_none n t = rw (t, by_element n) (record { is = refl })

pub strides_read : {l : Laid} (s t u : Text) → t ≡ less_leading (eqb 91) s → u ≡ less_trailing (eqb 93) t → l ≡ laid 8 (dimensions (split 44 u))
    → l ≡ laid 8 (dimensions (stride_parts s))
unfolding stride_parts
strides_read s t u p q e = e ∙ ap (λ (v : Text). laid 8 (dimensions (split 44 v))) (q ∙ ap (less_trailing (eqb 93)) p)

pub strides_rest : {r : Option Tensor} (u s : Text) (k : ℕ) → TensorIs r (tensor_parts u (Some (take (length s - k) (drop k s)))) → TensorIs r (tensor_parts u (Some (drop k s)))
strides_rest {r} u s k = subst (λ (t : Text). TensorIs r (tensor_parts u (Some t))) (rest s k)

-- by the first `, strides=`, else by the first `,strides=`
module _ {r : Option Tensor} (s : Text) where
  pub strides_first : {u t : Text} → cut (bytes ", strides=") s ≡ at u t → TensorIs r (tensor_parts u (Some t)) → TensorIs r (tensor s)
  unfolding tensor
  strides_first e h = subst (TensorIs r) (sym (ap (λ (c : Cut). tensor_by s c (cut (bytes ",strides=") s)) e)) h

  module _ (n : cut (bytes ", strides=") s ≡ nowhere) where
    pub strides_second : {u t : Text} → cut (bytes ",strides=") s ≡ at u t → TensorIs r (tensor_parts u (Some t)) → TensorIs r (tensor s)
    unfolding tensor
    strides_second e h = subst (TensorIs r) (sym (λ i. tensor_by s (n i) (e i))) h

    pub strides_nowhere : cut (bytes ",strides=") s ≡ nowhere → TensorIs r (tensor_parts s None) → TensorIs r (tensor s)
    unfolding tensor
    strides_nowhere e h = subst (TensorIs r) (sym (λ i. tensor_by s (n i) (e i))) h

module _ (s : Text) {r : Option Tensor} (h : TensorIs r (tensor s)) where
  pub view_none : r ≡ None → None ≡ each (carried 8) (tensor_view s)
  unfolding tensor_view
  view_none e = sym (ap (λ (o : Option T.Tensor). each (carried 8) (each tensor_found o)) (lacks (tensored 8) (tensor s) (rw e at h.is)))

  module _ {t : Tensor} (e : r ≡ Some t) where
    its : Has (tensored 8) (tensor s) (C.tensor_parts t)
    its = has (tensored 8) (tensor s) (rw e at h.is)

    pub view_some : Some (bare K.TensorView t.element false (list t.shape) (list t.strides)) ≡ each (carried 8) (tensor_view s)
    unfolding tensor_view
    view_some =
        ap Some (tensor_is (C.tensor_parts t) its.value its.same) ∙ sym (ap (λ (o : Option T.Tensor). each (carried 8) (each tensor_found o)) its.is)

    pub view_sound : (fell (list t.shape) ≤ t.shape.row.len) × (fell (list t.strides) ≤ t.strides.row.len)
    view_sound = (sound_list its.value.shape (ap (λ (x : Tensored). x.shape) its.same), sound_list its.value.strides (ap (λ (x : Tensored). x.strides) its.same))
