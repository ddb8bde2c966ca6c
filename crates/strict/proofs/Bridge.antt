-- The code's readers walk together with the grammar's pieces: pointers, tiles, tensor views. Words' numbers stand for what they mean.
use Prim.Native.Nat.{ℕ, ◌+◌}
use native.Mathlib.Omega.{arith}
use mathlib.Core.Bool.{Bool, false, cond}
use mathlib.Core.List.{List, [], ◌∷◌, ◌++◌}
use mathlib.Core.Path.{◌≡◌, refl, subst, sym, ap, ◌∙◌}
use lib.Dec.{T, eqb}
use borrow.Author.Tests.{ne_eqb}
use Rattle.lexis.specs.Text.{bytes}
use Rattle.scalars.specs.declared.scalar.Scalar.{Scalar}
use Rattle.grammar.specs.Piece.{Answer, got, stuck}
use Rattle.grammar.specs.Join.{mapped, after}
use Rattle.grammar.specs.Table.{Entry, ◌↝◌, pick, sound_table}
use Rattle.grammar.specs.Spelt.{listed, two, quiet}
use Rattle.grammar.specs.Elements as G
use Rattle.grammar.proofs.Elements as GP
use Rattle.grammar.specs.Elements.{ends}
use Rattle.strict.specs.Words.{among}
use Rattle.strict.specs.Inner as I
use lib.IntN.{ℤ}
use lib.ListN.{length}
use Rattle.grammar.specs.Until.{Ended}
use Rattle.grammar.specs.Until as U
use Rattle.grammar.proofs.Several as S
use Rattle.grammar.proofs.Body as B
use Rattle.strict.specs.Rows.{dims64, list64}
use Rattle.strict.specs.Lists.{Row, nothing, pushed, pushes}
use Rattle.strict.proofs.Together.{Same, both, along, convey, label, alike, closing, ended, ended_then}
use Rattle.strict.proofs.Endings.{large_list}
use Rattle.strict.proofs.Rows.{parts}
use Rattle.strict.proofs.Picking.{pick_label}
use Rattle.std.specs.Prelude.{Option, Some, None}

-- one part after another, in other values: the law of every step below
join : {A A' B B' : Type 0} (h : A → A') (f' : A' → List ℕ → Answer B') (f : A → List ℕ → Answer B) (g : B → B') →
    ((a : A) (r : List ℕ) → f' (h a) r ≡ mapped g (f a r)) → (p : Answer A) → after f' (mapped h p) ≡ mapped g (after f p)
join h f' f g e (got a r) = e a r
join h f' f g e (stuck r) = refl

twice : {A B D : Type 0} (f : A → B) (g : B → D) (p : Answer A) → mapped g (mapped f p) ≡ mapped (λ a. g (f a)) p
twice f g (got a r) = refl
twice f g (stuck r) = refl

abbrev pub core_said : I.Cored → G.Core
core_said c = record { pointer = c.pointer; element = c.element; attribute = c.marked }

name_is : (t : List ℕ) → (GP.names).read t ≡ among I.names t
unfolding among
name_is t = refl

-- a pointer's content, by the table of what closes it: alone, or with the end of the tile around it
module _ (w : List ℕ) (cs : List (Entry Bool)) (h : T (sound_table quiet (bytes ">,") (listed (G.ends w) (λ (m : Bool). m) two)))
    (close-is : (t : List ℕ) → pick t (listed (G.ends w) (λ (m : Bool). m) two) ≡ among cs t) where
  pointee_by : (t : List ℕ) → (GP.pointee w h).read t ≡ mapped core_said (I.pointee cs t)
  pointee_by t = ap (after (λ (s : Scalar) r. mapped (G.closed s) (pick r (listed (G.ends w) (λ (m : Bool). m) two)))) (name_is t) ∙ each (among I.names t)
    where
      each : (p : Answer Scalar) → after (λ (s : Scalar) r. mapped (G.closed s) (pick r (listed (G.ends w) (λ (m : Bool). m) two))) p ≡ mapped core_said (after (λ s r. mapped (I.closed s) (among cs r)) p)
      each (got s r) = ap (mapped (G.closed s)) (close-is r) ∙ sym (twice (I.closed s) core_said (among cs r))
      each (stuck r) = refl

pub pointee_is : (t : List ℕ) → (GP.pointee (bytes ">") tt).read t ≡ mapped core_said (I.pointee I.close t)
unfolding among
pointee_is = pointee_by (bytes ">") I.close tt (λ t. refl)

pointee_both_is : (t : List ℕ) → (GP.pointee (bytes ">>") tt).read t ≡ mapped core_said (I.pointee I.close_both t)
unfolding among
pointee_both_is = pointee_by (bytes ">>") I.close_both tt (λ t. refl)

-- ── a tile's element ──
abbrev pub kern_said : Option Scalar → G.Kern
kern_said (Some s) = G.plain s
kern_said None = G.point

kern_is : (t : List ℕ) → (GP.kern).read t ≡ mapped kern_said (among I.kerns t)
unfolding among
kern_is t = pick_label kern_said t I.kerns

core_is : (t : List ℕ) → (GP.core).read t ≡ mapped core_said (I.core t)
unfolding I.core among
core_is t = ap (after (λ (k : G.Kern). (GP.kern_tail k).read)) (kern_is t) ∙ join kern_said (λ (k : G.Kern). (GP.kern_tail k).read) I.core_of core_said by (among I.kerns t)
  where
    by : (k : Option Scalar) (r : List ℕ) → (GP.kern_tail (kern_said k)).read r ≡ mapped core_said (I.core_of k r)
    by (Some s) r = pick_label (λ (u : Unit {0}). G.flat_core s) r ((bytes ">" ↝ tt) ∷ []) ∙ sym (twice (λ (u : Unit {0}). I.plain s) core_said (among ((bytes ">" ↝ tt) ∷ []) r))
    by None r = pointee_both_is r

-- ── a tile ──
pub record Tile~ (e : Ended ℤ G.Core) (c : I.Tiled) : Type 0 where
  pub shape : pushes nothing e.items ≡ c.shape
  pub core : e.last ≡ core_said c.core

pub tile_is : (t : List ℕ) → Same Tile~ ((GP.tile_inside).read t) (I.tile t)
unfolding I.tile dims64
tile_is t = subst (λ (p : Answer (Ended ℤ G.Core)). Same Tile~ p (I.tile t)) (sym (parts S.dimx GP.core tt (λ a. S.nothing (bytes "ibftp!")) refl t))
    (ended (GP.core).read I.core (λ x. label core_said ((GP.core).read x) (I.core x) (core_is x)) I.tile_of (λ zs b k h. record { shape = refl; core = h }) (dims64 t))

-- ── a tensor view: the strides' list and its end, what follows the name, the whole ──
pub record Rest~ (e : Ended ℤ Bool) (c : I.Rested) : Type 0 where
  pub strides : pushes nothing e.items ≡ c.strides
  pub mark : e.last ≡ c.marked

listed_is : (t : List ℕ) → Same Rest~ ((B.strides_list).read t) (I.listed t)
unfolding I.listed among
listed_is t = subst (λ (p : Answer (Ended ℤ Bool)). Same Rest~ p (I.listed t)) (sym (large_list B.brackets tt tt refl t))
    (ended (B.brackets).read (among I.brackets) (λ x. alike ((B.brackets).read x) (among I.brackets x) refl) I.rest_of
    (λ zs b k h. record { strides = refl; mark = h }) (list64 t))

abbrev turn_said : Option Bool → B.Turn
turn_said (Some m) = B.close m
turn_said None = B.list

pushes_len : (l : Row ℤ) (zs : List ℤ) → (pushes l zs).len ≡ l.len + length zs
pushes_len l [] = omega arith
pushes_len l (z ∷ zs) = let h = pushes_len (pushed l z) zs in omega arith

-- at rank 0 the strides may be absent
rest_is : (zs : List ℤ) (t : List ℕ) → Same Rest~ ((B.after zs).read t) (I.rest (pushes nothing zs).len t)
unfolding I.rest among
rest_is [] t = along (λ u. (B.turn_q u).read) I.begun (label turn_said (pick t (listed (ends (bytes ">")) B.close two ++ listed B.intro (λ s. B.list) two)) (among I.opened t) (pick_label turn_said t I.opened))
    (λ u k r h. subst (λ (u : B.Turn). Same Rest~ ((B.turn_q u).read r) (I.begun k r)) (sym h) (by k r))
  where
    by : (k : Option Bool) (r : List ℕ) → Same Rest~ ((B.turn_q (turn_said k)).read r) (I.begun k r)
    by (Some m) r = both (U.ended m) (I.rest_of nothing m) r (record { strides = refl; mark = refl })
    by None r = listed_is r
rest_is (z ∷ zs) t = subst (λ (b : Bool). Same Rest~ ((B.must).read t) (cond b (after I.begun (among I.opened t)) (after I.given (among I.must t)))) (sym some)
    (along (λ (s : Bool). (B.strides_list).read) I.given (alike (pick t (listed B.intro (λ (s : Bool). s) two)) (among I.must t) refl) (λ s k r h. listed_is r))
  where
    some : eqb (pushes (pushed nothing z) zs).len 0 ≡ false
    some = ne_eqb (pushes (pushed nothing z) zs).len 0 (let h = pushes_len (pushed nothing z) zs in omega arith)

pub record Tens~ (e : B.Tens) (c : I.Tensed) : Type 0 where
  pub shape : pushes nothing e.shape ≡ c.shape
  pub element : e.element ≡ c.element
  pub strides : pushes nothing e.strides ≡ c.rest.strides
  pub mark : e.attribute ≡ c.rest.marked

pub tensor_is : (t : List ℕ) → Same Tens~ ((B.tensor_inside).read t) (I.tensor t)
unfolding I.tensor dims64
tensor_is t = subst (λ (p : Answer (Ended ℤ Scalar)). Same Tens~ (after rest p) (I.tensor t)) (sym (parts S.dimx GP.names tt (λ a. S.nothing (bytes "ibft")) refl t))
    (ended_then (GP.names).read (among I.names) (λ x. alike ((GP.names).read x) (among I.names x) (name_is x)) rest (λ l k x. mapped (I.tens_of l k) (I.rest l.len x))
    (λ zs b k x h. convey (B.tens (closing zs b)) (I.tens_of (pushes nothing zs) k) (rest_is zs x) (λ e c q. record { shape = refl; element = h; strides = q.strides; mark = q.mark })) (dims64 t))
  where
    rest : Ended ℤ Scalar → List ℕ → Answer B.Tens
    rest e x = mapped (B.tens e) ((B.after e.items).read x)
