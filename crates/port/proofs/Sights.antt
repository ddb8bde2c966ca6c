-- Laws of what the three views share, by what the callees tell: the tile shape, the inner tensor view, the whole view; and of the three views themselves.
use Rattle.std.specs.Prelude.{Option, None, Some}
use Rattle.std.proofs.Common.{Bor}
use Prim.Native.Nat.{ℕ, ◌+◌, ◌-◌, ◌≤◌}
use native.Mathlib.Omega.{arith}
use mathlib.Core.Bool.{false}
use mathlib.Core.List.{List, []}
use mathlib.Core.Path.{◌≡◌, refl, sym, ap, subst, ◌∙◌}
use lib.IntN.{ℤ, pos}
use lib.ListN.{length, take, drop, replicate, length-map}
use Rattle.lexis.specs.Text.{Text, bytes, split, Cut, nowhere, at, cut, place}
use Rattle.lexis.proofs.Lists.{rest}
use Rattle.lexis.proofs.Seeking.{cut_at, cut_nowhere}
use Rattle.meaning.specs.Found.{Entry, Clause, stands, filled, unused}
use Rattle.meaning.specs.Parts.{each, up_to, between, close}
use Rattle.meaning.specs.Tile as T
use Rattle.meaning.specs.Views as W
use Rattle.scalars.specs.Names.{scalar_name}
use Rattle.meaning.specs.declared.Kind.{Kind}
use Rattle.meaning.specs.declared.Kind.TheVariants as K
use Rattle.meaning.specs.declared.Padding.{Padding}
use Rattle.lists.specs.Laid.{Laid, laid, smalls, list}
use Rattle.lists.specs.declared.list.Listing.{Listing}
use Rattle.port.specs.Keys.{Placed, Scanned, AtMost, before, from}
use Rattle.port.specs.declared.survey.Scanning.{Scanning}
use Rattle.port.proofs.Making.{sound_list}
use Rattle.port.specs.Carried.{Carried, carried, built, fell, Tensored, tensored, tensor_parts, TensorIs, Viewed, viewed, view_parts, ViewIs, TileIs, ListIs, list_laid}
use Rattle.port.specs.declared.tensor_view.Tensor.{Tensor}
use Rattle.port.specs.declared.views.TileShape.{TileShape}
use Rattle.port.specs.declared.views.View.{View}
use Rattle.port.specs.declared.views.Listed.TheVariants as C
use Rattle.port.proofs.Bracketing.{close_at, close_nowhere}
use Rattle.port.proofs.Building as B
use Rattle.port.proofs.Clauses.{next, next_within, no_next, entries_are, list_or_laid}

-- ── the tile shape ──

module _ (s : Text) where
  module _ (i : ℕ) (e : place (cut (bytes "tile=(") s) ≡ Some i) where
    pub tile_closed : (n : ℕ) → place (cut (bytes ")") (take (length s - (i + 6)) (drop (i + 6) s))) ≡ Some n
        → (l : Listing (List ℤ)) → list l ≡ laid 8 (stands (W.tile_entries (take (i + 6 + n - (i + 6)) (drop (i + 6) s))))
        → TileIs s i (Some (record { tile = l; behind = i + 6 + n + 1 })) (between (bytes "tile=(") (bytes ")") s)
    tile_closed n f l r =
        let k : i + 6 + n - (i + 6) ≡ n = omega arith in
        let m : i + 6 + n + 1 ≡ i + 6 + (n + 1) = omega arith in
        subst (TileIs s i (Some (record { tile = l; behind = i + 6 + n + 1 })))
        (sym (ap (up_to (bytes ")")) (cut_at (bytes "tile=(") s i e) ∙ next (bytes "tile=(") s i e (bytes ")") n f))
        (record {
          tile = rw k at r;
          onward = ap (λ (b : ℕ). drop b s) m;
          past = omega arith;
          fits = omega (arith, next_within (bytes "tile=(") s i e (bytes ")") n f);
        })

    pub tile_unclosed : place (cut (bytes ")") (take (length s - (i + 6)) (drop (i + 6) s))) ≡ None
        → {r : Option TileShape} → r ≡ None → TileIs s i r (between (bytes "tile=(") (bytes ")") s)
    tile_unclosed f h =
        rw h (subst (TileIs s i None) (sym (ap (up_to (bytes ")")) (cut_at (bytes "tile=(") s i e) ∙ no_next (bytes "tile=(") s i e (bytes ")") f)) tt)

  pub tile_absent : (i : ℕ) → place (cut (bytes "tile=(") s) ≡ None → TileIs s i None (between (bytes "tile=(") (bytes ")") s)
  tile_absent i e = subst (TileIs s i None) (sym (ap (up_to (bytes ")")) (cut_nowhere (bytes "tile=(") s e))) tt

-- ── the inner tensor view ──

-- nothing stands in an empty content
empty : T.tensor [] ≡ None
unfolding T.tensor T.tensor_parts scalar_name
empty = refl

module _ {r : Option Tensor} (c : Text) (i : ℕ) {q : Scanning} (g : Scanned (take (length c - i) (drop i c)) q) where
  pub enclosed_at : {n : ℕ} → q.end ≡ Some n → TensorIs r (T.tensor (take n (take (length c - i) (drop i c))))
      → TensorIs r (T.tensor (W.enclosed (close 0 (drop i c))))
  enclosed_at {n} l h =
      let e = sym g.end ∙ l in
      rw (close_at (drop i c) n (rw (rest c i) at e)) (rw (rest c i) at h)

  pub enclosed_nowhere : q.end ≡ None → r ≡ None → TensorIs r (T.tensor (W.enclosed (close 0 (drop i c))))
  enclosed_nowhere l h =
      let e = sym g.end ∙ l in
      rw (close_nowhere (drop i c) (rw (rest c i) at e), empty, h) (record { is = refl })

pub placed_before : {s : Text} {q : Scanning} {n : ℕ} → Scanned s q → q.end ≡ Some n → Placed (take n s) q.places
placed_before {s} {q} g e = subst (λ (o : Option ℕ). Placed (before s o) q.places) e g.places

pub opened_within : {n i : ℕ} {q : Option ℕ} → AtMost n q → q ≡ Some i → i ≤ n
opened_within {n} h e = subst (AtMost n) e h

module _ {r : Option Tensor} (c b : Text) where
  pub opened_at : {i : ℕ} {q : Option ℕ} → W.opened c b ≡ from c q → q ≡ Some i → TensorIs r (T.tensor (W.enclosed (close 0 (drop i c)))) → TensorIs r (W.inner_by (W.opened c b))
  opened_at e q h = subst (λ (o : Option Text). TensorIs r (W.inner_by o)) (sym (e ∙ ap (λ (f : Option ℕ). from c f) q)) h

  pub opened_nowhere : {q : Option ℕ} → W.opened c b ≡ from c q → q ≡ None → r ≡ None → TensorIs r (W.inner_by (W.opened c b))
  opened_nowhere e q h = subst (λ (o : Option Text). TensorIs r (W.inner_by o)) (sym (e ∙ ap (λ (f : Option ℕ). from c f) q)) (rw h (record { is = refl }))

-- ── the view ──

abbrev wrap : Laid → Padding → Tensored → Viewed
wrap l q x = record { tile = l; tensor = x; padding = q }

wrapped : (es : List Entry) (q : Padding) (o : Option T.Tensor)
    → each (wrap (laid 8 (stands es)) q) (each (tensored 8) o) ≡ each (viewed 8) (each (λ v. record { tile = es; tensor = v; padding = q }) o)
wrapped es q None = refl
wrapped es q (Some x) = refl

module _ (s : Text) (i : ℕ) where
  untiled : (c : Cut) → TileIs s i None c → W.view_by s c ≡ None
  untiled nowhere h = refl
  untiled (at u b) h = absurd h

  fits : (t : TileShape) (c : Cut) → TileIs s i (Some t) c → (i + 6 ≤ t.behind) × (t.behind ≤ length s)
  fits t nowhere h = absurd h
  fits t (at u b) h = (h.past, h.fits)

  -- what is read behind the tile, with the padding
  behind_tile : (t : TileShape) (c : Cut) → TileIs s i (Some t) c → {o : Option Tensor} → TensorIs o (W.inner_by (W.opened s (drop t.behind s)))
      → each (wrap (list t.tile) (W.padding s)) (each tensor_parts o) ≡ each (viewed 8) (W.view_by s c)
  behind_tile t nowhere h g = absurd h
  behind_tile t (at u b) h g =
      (λ i. each (wrap (h.tile i) (W.padding s)) (g.is i)) ∙
      ap (λ (b : Text). each (wrap (laid 8 (stands (W.tile_entries u))) (W.padding s)) (each (tensored 8) (W.inner_by (W.opened s b)))) h.onward ∙
      wrapped (W.tile_entries u) (W.padding s) (W.inner_by (W.opened s b))

  module _ {r : Option TileShape} (h : TileIs s i r (between (bytes "tile=(") (bytes ")") s)) where
    pub no_view : {v : Option View} → r ≡ None → v ≡ None → ViewIs v (W.view s)
    unfolding W.view
    no_view e f = rw f (record { is = sym (ap (each (viewed 8)) (untiled (between (bytes "tile=(") (bytes ")") s) (rw e at h))) })

    module _ {t : TileShape} (e : r ≡ Some t) where
      pub behind_fits : (i + 6 ≤ t.behind) × (t.behind ≤ length s)
      behind_fits = fits t (between (bytes "tile=(") (bytes ")") s) (rw e at h)

      module _ {o : Option Tensor} (g : TensorIs o (W.inner_by (W.opened s (drop t.behind s)))) where
        seen : each (wrap (list t.tile) (W.padding s)) (each tensor_parts o) ≡ each (viewed 8) (W.view_by s (between (bytes "tile=(") (bytes ")") s))
        seen = behind_tile t (between (bytes "tile=(") (bytes ")") s) (rw e at h) g

        pub no_tensor_view : {v : Option View} → o ≡ None → v ≡ None → ViewIs v (W.view s)
        unfolding W.view
        no_tensor_view n f = rw f (record { is = sym (ap (λ (o : Option Tensor). each (wrap (list t.tile) (W.padding s)) (each tensor_parts o)) n) ∙ seen })

        pub whole_view : {v : Tensor} {q : Padding} → o ≡ Some v → q ≡ W.padding s → ViewIs (Some (record { tile = t.tile; tensor = v; padding = q })) (W.view s)
        unfolding W.view
        whole_view {v} n f = record {
          is = (λ i. Some (wrap (list t.tile) (f i) (tensor_parts v))) ∙ sym (ap (λ (o : Option Tensor). each (wrap (list t.tile) (W.padding s)) (each tensor_parts o)) n) ∙ seen;
        }

-- ── the three views ──

-- what the code says that it built, of a view and the lists of its kind
abbrev pub view_built : Kind → View → Laid → Laid → Laid → Option Carried
view_built k v m t z =
    Some (built k v.tensor.element false (list v.tensor.shape) (list v.tensor.strides) (list v.tile) m t z v.padding)

module _ (s : Text) {r : Option View} (g : ViewIs r (W.view s)) where
  -- ── without a view there is none of the three ──

  lacks : r ≡ None → W.view s ≡ None
  lacks f = B.lacks (viewed 8) (W.view s) (rw f at g.is)

  pub no_partition : r ≡ None → None ≡ each (carried 8) (W.partition_view s)
  unfolding W.partition_view
  no_partition f = sym (ap (λ (o : Option W.View). each (carried 8) (W.partition_from (W.list_after (bytes "dim_map=[") s) o)) (lacks f))

  pub no_gather : r ≡ None → None ≡ each (carried 8) (W.gather_scatter_view s)
  unfolding W.gather_scatter_view
  no_gather f = rw (lacks f)

  pub no_strided : r ≡ None → None ≡ each (carried 8) (W.strided_view s)
  unfolding W.strided_view
  no_strided f = rw (lacks f)

  module _ {v : View} (f : r ≡ Some v) where
    has : B.Has (viewed 8) (W.view s) (view_parts v)
    has = B.has (viewed 8) (W.view s) (rw f at g.is)

    pub sound : (fell (list v.tensor.shape) ≤ v.tensor.shape.row.len) × (fell (list v.tensor.strides) ≤ v.tensor.strides.row.len)
    sound = let t = has.value.tensor in
        (sound_list t.shape (ap (λ (x : Viewed). x.tensor.shape) has.same), sound_list t.strides (ap (λ (x : Viewed). x.tensor.strides) has.same))

    -- as many tile entries as the code says
    count : v.tile.row.len ≡ length has.value.tile
    count = ap (λ (x : Viewed). x.tile.row.len) has.same ∙ length-map has.value.tile (λ e. e.value)

    own_map : {l : Laid} → l ≡ laid 8 (filled (W.count_up 0 v.tile.row.len)) → l ≡ laid 8 (W.own_map has.value)
    own_map e = e ∙ ap (λ (n : ℕ). laid 8 (filled (W.count_up 0 n))) count

    own_traversal : {l : Laid} → l ≡ laid 8 (filled (replicate v.tile.row.len (pos 1))) → l ≡ laid 8 (W.own_traversal has.value)
    own_traversal e = e ∙ ap (λ (n : ℕ). laid 8 (filled (replicate n (pos 1)))) count

    -- the list, or what fills in
    or_own : {l own : Laid} (c : Clause) (q : W.Listed) → own ≡ laid 8 c → l ≡ list_laid own q → l ≡ laid 8 (W.list_or c q)
    or_own c q e h = h ∙ ap (λ (o : Laid). list_laid o q) e ∙ list_or_laid c q

    -- an unclosed list refuses a partition view
    pub partition_unclosed : ListIs C.Unclosed (W.list_after (bytes "dim_map=[") s) → None ≡ each (carried 8) (W.partition_view s)
    unfolding W.partition_view
    partition_unclosed l = λ i. each (carried 8) (W.partition_from (l.is i) (sym has.is i))

    module _ {x : Option Carried} {m t z : Laid} where
      module _ (k : Kind) (w : x ≡ view_built k v m t z) where
        built_is : (map traversal sparse : Clause) → m ≡ laid 8 map → t ≡ laid 8 traversal → z ≡ laid 8 sparse
            → x ≡ Some (carried 8 (W.view_of k map traversal sparse has.value))
        built_is map traversal sparse a b c = w ∙ ap Some (B.view_is (view_parts v) k map traversal sparse has.value has.same a b c)

      module _ (w : x ≡ view_built K.Partition v m t z) (b : t ≡ laid 8 unused) (c : z ≡ laid 8 unused) where
        pub partition_listed : (u : Bor Text) → ListIs (C.Between u) (W.list_after (bytes "dim_map=[") s)
            → m ≡ laid 8 (smalls (pos 0) (split 44 u.now)) → x ≡ each (carried 8) (W.partition_view s)
        unfolding W.partition_view
        partition_listed u l d =
            built_is K.Partition w (W.entries u.now) unused unused (entries_are u.now d) b c ∙
            (λ i. each (carried 8) (W.partition_from (l.is i) (sym has.is i)))

        pub partition_absent : ListIs C.Absent (W.list_after (bytes "dim_map=[") s)
            → m ≡ laid 8 (filled (W.count_up 0 v.tile.row.len)) → x ≡ each (carried 8) (W.partition_view s)
        unfolding W.partition_view
        partition_absent l d =
            built_is K.Partition w (W.own_map has.value) unused unused (own_map d) b c ∙
            (λ i. each (carried 8) (W.partition_from (l.is i) (sym has.is i)))

      pub gather_is : x ≡ view_built K.GatherScatter v m t z → m ≡ laid 8 unused → t ≡ laid 8 unused → z ≡ laid 8 (W.sparse_by (cut (bytes "sparse_dim=") s))
          → x ≡ each (carried 8) (W.gather_scatter_view s)
      unfolding W.gather_scatter_view
      gather_is w a b c = built_is K.GatherScatter w unused unused (W.sparse_by (cut (bytes "sparse_dim=") s)) a b c ∙ rw has.is

      pub strided_is : {map traversal : Laid} → x ≡ view_built K.Strided v m t z
          → map ≡ laid 8 (filled (W.count_up 0 v.tile.row.len)) → m ≡ list_laid map (W.list_after (bytes "dim_map=[") s)
          → traversal ≡ laid 8 (filled (replicate v.tile.row.len (pos 1))) → t ≡ list_laid traversal (W.list_after (bytes "traversal_strides=[") s)
          → z ≡ laid 8 unused → x ≡ each (carried 8) (W.strided_view s)
      unfolding W.strided_view W.strided_of
      strided_is w a b c d e =
          let p = W.list_after (bytes "dim_map=[") s in
          let q = W.list_after (bytes "traversal_strides=[") s in
          let i = W.own_map has.value in
          let j = W.own_traversal has.value in
          built_is K.Strided w (W.list_or i p) (W.list_or j q) unused (or_own i p (own_map a) b) (or_own j q (own_traversal c) d) e ∙ rw has.is
