-- The code's readers walk together with the grammar's pieces: what stands in the three views.
use Prim.Native.Nat.{ℕ}
use mathlib.Core.Bool.{Bool, true, false}
use mathlib.Core.List.{List, [], ◌∷◌}
use mathlib.Core.Path.{◌≡◌, refl, subst, sym, ap}
use lib.IntN.{ℤ, pos}
use Rattle.lexis.specs.Text.{bytes}
use Rattle.meaning.specs.declared.Kind.{Kind}
use Rattle.meaning.specs.declared.Kind.TheVariants as K
use Rattle.meaning.specs.declared.Padding.{Padding}
use Rattle.meaning.specs.declared.Padding.TheVariants as P
use Rattle.meaning.specs.Meant.{Any}
use Rattle.grammar.specs.Piece.{Answer, got, stuck, Piece}
use Rattle.grammar.specs.Join.{mapped, after}
use Rattle.grammar.specs.Until.{Ended}
use Rattle.grammar.specs.Table.{pick, ◌↝◌}
use Rattle.grammar.specs.Spelt.{listed, two, in_two, quiet}
use Rattle.grammar.specs.Pair.{chosen}
use Rattle.grammar.proofs.Body as B
use Rattle.grammar.proofs.Sights as G
use Rattle.grammar.proofs.Insides as N
use Rattle.strict.specs.Words.{among}
use Rattle.strict.specs.Rows.{list32}
use Rattle.strict.specs.Lists.{Row, nothing, pushes}
use Rattle.strict.specs.Inner as I
use Rattle.strict.specs.Views as C
use Rattle.strict.specs.Whole.{Plain, view_of, view}
use Rattle.strict.specs.Plain.{seen}
use Rattle.strict.specs.Laws.{num_is}
use Rattle.strict.proofs.Picking.{pick_label}
use Rattle.strict.proofs.Together.{Same, Named, along, convey, onto, label, alike, closing, close, ended, ended_then}
use Rattle.strict.proofs.Endings.{small_list, entry_list}
use Rattle.strict.proofs.Bridge.{Tens~, tensor_is}

-- ── the tensor view, and the padding before it ──
pub record Sight~ (v : G.Sight) (c : C.Seen) : Type 0 where
  pub padding : v.padding ≡ c.padding
  pub tens : Tens~ v.tens c.tensor

abbrev mid_said : Bool → G.Mid
mid_said true = G.padded
mid_said false = G.bare

-- after a padding's name: the comma and the introduction
led_is : (p : Padding) (t : List ℕ) → Same Sight~ (after (λ (u : Unit {0}) x. mapped (G.sight p) ((B.tensor_inside).read x)) ((G.lead).read t)) (C.led p t)
unfolding among
led_is p t = along (λ (u : Unit {0}) x. mapped (G.sight p) ((B.tensor_inside).read x)) (λ (u : Unit {0}) x. mapped (C.seen p) (I.tensor x))
    (alike ((G.lead).read t) (among C.leads t) refl)
    (λ u v r h. convey (G.sight p) (C.seen p) (tensor_is r) (λ a b q. record { padding = refl; tens = q }))

sight_is : (b : Bool) (t : List ℕ) → Same Sight~ ((G.tens_part (mid_said b)).read t) (C.sight b t)
unfolding C.sight among
sight_is true t = along (λ (p : Padding) r. after (λ (u : Unit {0}) x. mapped (G.sight p) ((B.tensor_inside).read x)) ((G.lead).read r)) C.led
    (alike ((G.padded_names).read t) (among C.pads t) refl) (λ p q r h. subst (λ (z : Padding). Same Sight~ (after (λ (u : Unit {0}) x. mapped (G.sight z) ((B.tensor_inside).read x)) ((G.lead).read r)) (C.led q r)) (sym h) (led_is q r))
sight_is false t = convey (G.sight P.Absent) (C.seen P.Absent) (tensor_is t) (λ a b q. record { padding = refl; tens = q })

-- ── a list, and the tensor view ──
pub record Staged : Type 0 where
  pub list : Row ℤ
  pub sight : C.Seen

abbrev stage' : Row ℤ → C.Seen → Staged
stage' l v = record { list = l; sight = v }

abbrev scene : Bool → List ℕ → Answer Staged
scene b t = after (λ l r. after (λ k x. mapped (stage' l) (C.sight k x)) (C.mid b r)) (C.entries b t)

pub record Scene~ (v : G.Scene) (c : Staged) : Type 0 where
  pub list : pushes nothing v.list ≡ c.list
  pub sight : Sight~ v.sight c.sight

abbrev stage : Ended ℤ G.Mid → List ℕ → Answer G.Scene
stage e x = mapped (G.scene e) ((G.tens_part e.last).read x)

staged : (zs : List ℤ) (m : G.Mid) (k : Bool) (x : List ℕ) → m ≡ mid_said k → Same Scene~ (stage (closing zs m) x) (mapped (stage' (pushes nothing zs)) (C.sight k x))
staged zs m k x h = subst (λ (m : G.Mid). Same Scene~ (stage (closing zs m) x) (mapped (stage' (pushes nothing zs)) (C.sight k x))) (sym h)
    (convey (G.scene (closing zs (mid_said k))) (stage' (pushes nothing zs)) (sight_is k x) (λ a b q. record { list = refl; sight = q }))

-- by the piece that ends the list: after a tile's entries `)`, after those of a traversal `]`
scene_by : (b : Bool) (q : List ℕ → Answer G.Mid) → ((x : List ℕ) → Same (Named mid_said) (q x) (C.mid b x)) → (t : List ℕ) → Same Scene~ (after stage (after (close q) (list32 b t))) (scene b t)
scene_by b q h t = ended_then q (C.mid b) h stage (λ l k x. mapped (stage' l) (C.sight k x)) staged (list32 b t)

tile_mid : (t : List ℕ) → Same (Named mid_said) ((G.mid 41 tt).read t) (C.mid true t)
unfolding C.mid among
tile_mid t = label mid_said ((G.mid 41 tt).read t) (among C.mids t) (pick_label mid_said t C.mids)

walk_mid : (t : List ℕ) → Same (Named mid_said) ((G.mid 93 tt).read t) (C.mid false t)
unfolding C.mid among
walk_mid t = label mid_said ((G.mid 93 tt).read t) (among C.walk_mids t) (pick_label mid_said t C.walk_mids)

tile_scene_is : (t : List ℕ) → Same Scene~ ((N.tile_scene).read t) (scene true t)
tile_scene_is t = subst (λ (p : Answer (Ended ℤ G.Mid)). Same Scene~ (after stage p) (scene true t)) (sym (entry_list (G.mid 41 tt) tt tt refl tt t)) (scene_by true (G.mid 41 tt).read tile_mid t)

walk_scene_is : (t : List ℕ) → Same Scene~ ((N.walk_scene).read t) (scene false t)
walk_scene_is t = subst (λ (p : Answer (Ended ℤ G.Mid)). Same Scene~ (after stage p) (scene false t)) (sym (small_list (G.mid 93 tt) tt tt refl t)) (scene_by false (G.mid 93 tt).read walk_mid t)

-- ── the ends ──
abbrev pub Map~ : Ended ℤ (Unit {0}) → Row ℤ → Type 0
Map~ e l = pushes nothing e.items ≡ l

map_list_is : (t : List ℕ) → Same Map~ ((N.map_list).read t) (after C.map_tail (C.entries false t))
unfolding among
map_list_is t = subst (λ (p : Answer (Ended ℤ (Unit {0}))). Same Map~ p (after C.map_tail (C.entries false t))) (sym (small_list N.map_end tt tt refl t))
    (ended (N.map_end).read (among ((bytes "]>" ↝ tt) ∷ [])) (λ x. alike ((N.map_end).read x) (among ((bytes "]>" ↝ tt) ∷ []) x) refl) (λ l k. l)
    (λ zs b k h. refl) (list32 false t))

map_part_is : (t : List ℕ) → Same Map~ ((N.map_part).read t) (C.map_part t)
unfolding C.map_part among
map_part_is t = along (λ (s : Bool). (N.map_list).read) C.map_from
    (alike (pick t (listed (N.after_comma (bytes "dim_map=[")) (λ (s : Bool). s) two)) (among C.maps t) refl) (λ s k r h. map_list_is r)

sparse_part_is : (t : List ℕ) → Same ◌≡◌ ((N.sparse_part).read t) (C.sparse_part t)
unfolding C.sparse_part among
sparse_part_is t = along (λ (s : Bool). (N.sparse_last).read) C.sparse_from
    (alike (pick t (listed (N.after_comma (bytes "sparse_dim=")) (λ (s : Bool). s) two)) (among C.sparses t) refl) (λ s k r h. last r)
  where
    last : (r : List ℕ) → Same ◌≡◌ ((N.sparse_last).read r) (after C.sparse_tail (C.small r))
    last r = alike ((N.sparse_last).read r) (after C.sparse_tail (C.small r)) (ap (after (λ z x. pick x ((bytes ">" ↝ z) ∷ []))) (num_is r))

pub record Ends~ (m : List ℤ) (z : ℤ) (c : C.Closed) : Type 0 where
  pub map : pushes nothing m ≡ c.map
  pub sparse : z ≡ c.sparse

map_end_is : (t : List ℕ) → Same (λ e c. Ends~ e.items (pos 0) c) ((N.map_part).read t) (C.ending false t)
unfolding C.ending
map_end_is t = onto (λ m. C.closed m (pos 0)) (map_part_is t) (λ e m q. record { map = q; sparse = refl })

sparse_end_is : (t : List ℕ) → Same (λ z c. Ends~ [] z c) ((N.sparse_part).read t) (C.ending true t)
unfolding C.ending
sparse_end_is t = onto (C.closed nothing) (sparse_part_is t) (λ z y q. record { map = refl; sparse = q })

-- ── the views ──
abbrev pub View~ : Kind → Any → C.Viewed → Type 0
View~ k a c = seen a ≡ view_of k c

view~ : (k : Kind) (tl m w : List ℤ) (v : G.Sight) (z : ℤ) (c : C.Seen) (l : Row ℤ) (lm lw : Row ℤ) (y : ℤ) → pushes nothing tl ≡ l → Sight~ v c → pushes nothing m ≡ lm → pushes nothing w ≡ lw → z ≡ y →
    View~ k (N.sighted k tl v m w z) (C.viewed l c lm lw y)
view~ k tl m w v z c l lm lw y a s b d e = λ j. record {
  kind = k;
  pointer = false;
  element = s.tens.element j;
  marked = s.tens.mark j;
  shape = s.tens.shape j;
  strides = s.tens.strides j;
  tile = a j;
  map = b j;
  walk = d j;
  sparse = e j;
  padding = s.padding j;
}

-- a view without traversal, and what follows the traversal's word in one with it
abbrev bare : Bool → List ℕ → Answer C.Viewed
bare b t = after (λ c r. mapped (λ e. C.viewed c.list c.sight e.map nothing e.sparse) (C.ending b r)) (scene true t)

abbrev walk_rest : Row ℤ → List ℕ → Answer C.Viewed
walk_rest l t = after (λ c r. mapped (λ e. C.viewed l c.sight e.map c.list e.sparse) (C.ending false r)) (scene false t)

partition_is : (t : List ℕ) → Same (View~ K.Partition) ((N.partition_inside).read t) (bare false t)
partition_is t = along (λ v x. mapped (λ e. N.sighted K.Partition v.list v.sight e.items [] (pos 0)) ((N.map_part).read x))
    (λ c r. mapped (λ e. C.viewed c.list c.sight e.map nothing e.sparse) (C.ending false r)) (tile_scene_is t)
    (λ v c r h. convey (λ e. N.sighted K.Partition v.list v.sight e.items [] (pos 0)) (λ e. C.viewed c.list c.sight e.map nothing e.sparse) (map_end_is r)
    (λ e m q. view~ K.Partition v.list e.items [] v.sight (pos 0) c.sight c.list m.map nothing m.sparse h.list h.sight q.map refl q.sparse))

gather_is : (t : List ℕ) → Same (View~ K.GatherScatter) ((N.gather_inside).read t) (bare true t)
gather_is t = along (λ v x. mapped (λ z. N.sighted K.GatherScatter v.list v.sight [] [] z) ((N.sparse_part).read x))
    (λ c r. mapped (λ e. C.viewed c.list c.sight e.map nothing e.sparse) (C.ending true r)) (tile_scene_is t)
    (λ v c r h. convey (λ z. N.sighted K.GatherScatter v.list v.sight [] [] z) (λ e. C.viewed c.list c.sight e.map nothing e.sparse) (sparse_end_is r)
    (λ z m q. view~ K.GatherScatter v.list [] [] v.sight z c.sight c.list m.map nothing m.sparse h.list h.sight q.map refl q.sparse))

walk_rest_is : (tl : List ℤ) (t : List ℕ) → Same (View~ K.Strided) ((N.walk_rest tl).read t) (walk_rest (pushes nothing tl) t)
walk_rest_is tl t = along (λ v x. mapped (λ e. N.sighted K.Strided tl v.sight e.items v.list (pos 0)) ((N.map_part).read x))
    (λ c r. mapped (λ e. C.viewed (pushes nothing tl) c.sight e.map c.list e.sparse) (C.ending false r)) (walk_scene_is t)
    (λ v c r h. convey (λ e. N.sighted K.Strided tl v.sight e.items v.list (pos 0)) (λ e. C.viewed (pushes nothing tl) c.sight e.map c.list e.sparse) (map_end_is r)
    (λ e m q. view~ K.Strided tl e.items v.list v.sight (pos 0) c.sight (pushes nothing tl) m.map c.list m.sparse refl h.sight q.map h.list q.sparse))

abbrev travel : Piece false (bytes ")") (Unit {0}) quiet
travel = chosen quiet (bytes ")") N.travel_word (λ (s : Bool). tt) two in_two tt

abbrev strided : List ℕ → Answer C.Viewed
strided t = after (λ l r. after (λ (k : Bool) x. walk_rest l x) (among C.travels r)) (C.entries true t)

strided_is : (t : List ℕ) → Same (View~ K.Strided) ((N.strided_inside).read t) (strided t)
unfolding among
strided_is t = subst (λ (p : Answer (Ended ℤ (Unit {0}))). Same (View~ K.Strided) (after (λ e. (N.walk_rest e.items).read) p) (strided t)) (sym (entry_list travel tt tt refl tt t))
    (ended_then travel.read (among C.travels) (λ x. label (λ (k : Bool). tt) (travel.read x) (among C.travels x) (pick_label (λ (k : Bool). tt) x C.travels))
    (λ e. (N.walk_rest e.items).read) (λ l (k : Bool) x. walk_rest l x) (λ zs b k x h. walk_rest_is zs x) (list32 true t))

-- ── the views as the code reads them: one part after another ──
module _ (k : Kind) (m : List ℕ → Answer Bool) (e : List ℕ → Answer C.Closed) (h : Row ℤ → C.Seen → C.Closed → C.Viewed) where
  abbrev last_part : Row ℤ → C.Seen → List ℕ → Answer Plain
  last_part l v z = mapped (λ c. view_of k (h l v c)) (e z)

  abbrev ended_with : Staged → List ℕ → Answer C.Viewed
  ended_with c r = mapped (h c.list c.sight) (e r)

  flat : (p : Answer (Row ℤ)) →
      mapped (view_of k) (after ended_with (after (λ l r. after (λ j y. mapped (stage' l) (C.sight j y)) (m r)) p)) ≡ after (λ l r. after (λ j y. after (last_part l) (C.sight j y)) (m r)) p
  flat (got l r) = on_mid (m r)
    where
      on_end : (v : C.Seen) (q : Answer C.Closed) → mapped (view_of k) (mapped (h l v) q) ≡ mapped (λ c. view_of k (h l v c)) q
      on_end v (got c z) = refl
      on_end v (stuck z) = refl

      on_sight : (q : Answer C.Seen) → mapped (view_of k) (after ended_with (mapped (stage' l) q)) ≡ after (last_part l) q
      on_sight (got v z) = on_end v (e z)
      on_sight (stuck z) = refl

      on_mid : (q : Answer Bool) → mapped (view_of k) (after ended_with (after (λ j y. mapped (stage' l) (C.sight j y)) q)) ≡ after (λ j y. after (last_part l) (C.sight j y)) q
      on_mid (got j y) = on_sight (C.sight j y)
      on_mid (stuck y) = refl
  flat (stuck r) = refl

bare_view : (k : Kind) (b : Bool) (t : List ℕ) → mapped (view_of k) (bare b t) ≡ view k true b t
unfolding C.walking
bare_view k b t = flat k (C.mid true) (C.ending b) (λ l v c. C.viewed l v c.map nothing c.sparse) (C.entries true t)

strided_view : (t : List ℕ) → mapped (view_of K.Strided) (strided t) ≡ view K.Strided false false t
unfolding C.walking
strided_view t = on (C.entries true t)
  where
    part : Row ℤ → Row ℤ → List ℕ → Answer Plain
    part l w x = after (λ j y. after (λ v z. mapped (λ c. view_of K.Strided (C.viewed l v c.map w c.sparse)) (C.ending false z)) (C.sight j y)) (C.mid false x)

    on_word : (l : Row ℤ) (q : Answer Bool) → mapped (view_of K.Strided) (after (λ (k : Bool) x. walk_rest l x) q) ≡ after (part l) (after (λ (k : Bool) x. C.entries false x) q)
    on_word l (got n x) = flat K.Strided (C.mid false) (C.ending false) (λ w v c. C.viewed l v c.map w c.sparse) (C.entries false x)
    on_word l (stuck x) = refl

    on : (p : Answer (Row ℤ)) → mapped (view_of K.Strided) (after (λ l r. after (λ (k : Bool) x. walk_rest l x) (among C.travels r)) p)
        ≡ after (λ l r. after (part l) (after (λ (k : Bool) x. C.entries false x) (among C.travels r))) p
    on (got l r) = on_word l (among C.travels r)
    on (stuck r) = refl

-- each of the three, and its piece
module _ (r : List ℕ) where
  viewed_is : (k : Kind) {p : Answer Any} {q : Answer C.Viewed} (w : Answer Plain) → mapped (view_of k) q ≡ w → Same (View~ k) p q → Same (λ a c. seen a ≡ c) (mapped B.id p) w
  viewed_is k {p} w e s = subst (Same (λ a c. seen a ≡ c) (mapped B.id p)) e (convey B.id (view_of k) s (λ a c h. h))

  pub partition_view_is : Same (λ a c. seen a ≡ c) (mapped B.id ((N.partition_inside).read r)) (view K.Partition true false r)
  partition_view_is = viewed_is K.Partition (view K.Partition true false r) (bare_view K.Partition false r) (partition_is r)

  pub gather_view_is : Same (λ a c. seen a ≡ c) (mapped B.id ((N.gather_inside).read r)) (view K.GatherScatter true true r)
  gather_view_is = viewed_is K.GatherScatter (view K.GatherScatter true true r) (bare_view K.GatherScatter true r) (gather_is r)

  pub strided_view_is : Same (λ a c. seen a ≡ c) (mapped B.id ((N.strided_inside).read r)) (view K.Strided false false r)
  strided_view_is = viewed_is K.Strided (view K.Strided false false r) (strided_view r) (strided_is r)
