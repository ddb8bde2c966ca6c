-- What holds of everything that the definition makes holds of what every text is read as: over all forms, marks and passes.
-- From it, what holds of every answer of the ordinary reader.
use Rattle.std.specs.Prelude.{if◌then◌else◌, Option, None, Some}
use Prim.Native.Nat.{ℕ, zero, suc}
use Prim.Native.Char.{code}
use mathlib.Core.Bool.{Bool, true, false, ◌||◌}
use mathlib.Core.List.{List, [], ◌∷◌}
use mathlib.Core.Path.{◌≡◌, refl}
use lib.Dec.{leb}
use lib.ListN.{length}
use Rattle.lexis.specs.Text.{Text, bytes, same, trim, split, Cut, nowhere, at, cut}
use Rattle.scalars.specs.Names.{scalar_name}
use Rattle.scalars.specs.declared.scalar.Scalar.{Scalar}
use Rattle.meaning.specs.declared.Kind.TheVariants as K
use Rattle.meaning.specs.declared.Reading.{Reading}
use Rattle.meaning.specs.declared.Refusal.TheVariants.{TooLong, HighByte, NoType, TooMany}
use Rattle.meaning.specs.Parts.{each, last, front, bracketed, less_repeats, remove}
use Rattle.meaning.specs.Found.{Clause, Found, within, unused, plain, token, with_attribute}
use Rattle.meaning.specs.Tile as T
use Rattle.meaning.specs.Tile.{Tensor}
use Rattle.meaning.specs.Views as W
use Rattle.meaning.specs.Views.{View, Listed, absent, unclosed, listed}
use Rattle.meaning.specs.Ordinary as O
use Rattle.meaning.specs.Ordinary.{Form}
use Rattle.meaning.proofs.Whens.{When, all_each}

-- ── the whole reading ──

-- what each form finds gives it, and so do a bare name and a token
pub record Read (P : Found → Type 0) : Type 0 where
  pub token_is : P token
  pub scalar : (e : Scalar) → P (plain K.Scalar e)
  pub pointer : (s : Text) → When P (O.pointer s)
  pub tile : (s : Text) → When P (T.tile s)
  pub tensor : (s : Text) → When P (T.tensor_view s)
  pub partition : (s : Text) → When P (W.partition_view s)
  pub gather : (s : Text) → When P (W.gather_scatter_view s)
  pub strided : (s : Text) → When P (W.strided_view s)
  pub attribute : (t : Found) → P t → P (with_attribute t)

infixr 20 ◌also◌
◌also◌ : {A B : Type 0} → A → B → A × B
a also b = (a, b)

module _ (P : Found → Type 0) (r : Read P) where
  abbrev AllForms : List Form → Type 0
  AllForms [] = Unit
  AllForms (f ∷ fs) = ((t : Text) → When P (f.content t)) × AllForms fs

  forms_all : AllForms O.forms
  unfolding O.forms
  forms_all =
      r.tile also r.tensor also r.partition also r.gather also r.strided also r.pointer also
      r.tile also r.tensor also r.partition also r.gather also r.strided also r.pointer also tt

  by_forms_all : (fs : List Form) → AllForms fs → (s : Text) → When P (O.by_forms fs s)
  by_forms_all [] h s = all_each P (plain K.Scalar) r.scalar (scalar_name s)
  by_forms_all (f ∷ fs) h s = by (bracketed (bytes f.opens) s) (by_forms_all fs h.1 s)
    where
      by : (o : Option Text) → When P (O.by_forms fs s) → When P (elim o [ Some t ↦ f.content t | None ↦ O.by_forms fs s ])
      by None k = k
      by (Some t) k = h.0 t

  pub unmarked_all : (s : Text) → When P (O.unmarked s)
  unfolding O.unmarked
  unmarked_all s = by (same s (bytes "!cuda_tile.token") || same s (bytes "token"))
    where
      by : (b : Bool) → When P (if b then Some token else O.by_forms O.forms s)
      by true = r.token_is
      by false = by_forms_all O.forms forms_all s

  passes_all : (n : ℕ) (s : Text) → When P (O.passes n s)
  passes_all zero s = tt
  passes_all (suc n) s = by (cut O.mark (trim s)) (O.passes n (remove O.mark (trim s))) (passes_all n (remove O.mark (trim s)))
    where
      by : (c : Cut) (o : Option Found) → When P o → When P (elim c [ nowhere ↦ O.unmarked (trim s) | at u t ↦ each with_attribute o ])
      by nowhere o h = unmarked_all (trim s)
      by (at u t) None h = tt
      by (at u t) (Some f) h = r.attribute f h

  parse_all : (s : Text) → When P (O.parse s)
  unfolding O.parse
  parse_all s = passes_all (suc (length s)) s

-- ── every answer ──

-- the four refusals and the types that fit give it
pub record Answers (P : Found → Type 0) (cap : ℕ) (Q : Reading → Type 0) : Type 0 where
  pub too_long : Q (O.refused cap TooLong 0)
  pub high : (place : ℕ) → Q (O.refused cap HighByte place)
  pub no_type : Q (O.refused cap NoType 0)
  pub too_many : Q (O.refused cap TooMany 0)
  pub accepts : (t : Found) → P t → within cap t ≡ true → Q (O.accepted cap t)

module _ (P : Found → Type 0) (r : Read P) (cap : ℕ) (Q : Reading → Type 0) (q : Answers P cap Q) where
  judged_all : (o : Option Found) → When P o → Q (O.judged cap o)
  judged_all None h = q.no_type
  judged_all (Some t) h = by (within cap t) (q.accepts t h)
    where
      by : (d : Bool) → (d ≡ true → Q (O.accepted cap t)) → Q (if d then O.accepted cap t else O.refused cap TooMany 0)
      by true k = k refl
      by false k = q.too_many

  pub ordinary_all : (size : ℕ) (s : Text) → Q (O.ordinary cap size s)
  unfolding O.ordinary
  ordinary_all size s = by (leb (length s) size) (O.high_from 0 s)
    where
      by : (d : Bool) (o : Option ℕ) → Q (if d then O.read_ascii cap s o else O.refused cap TooLong 0)
      by true None = judged_all (O.parse s) (parse_all P r s)
      by true (Some place) = q.high place
      by false o = q.too_long

-- ── where every maker gives it, whatever it is made of ──

-- each maker gives it
pub record Made (P : Found → Type 0) : Type 0 where
  pub token_is : P token
  pub scalar : (e : Scalar) → P (plain K.Scalar e)
  pub pointer : (e : Scalar) → P (plain K.Pointer e)
  pub tile : (p : Bool) (c : Clause) (e : Scalar) → P (T.tile_of p c e)
  pub tensor : (v : Tensor) → P (T.tensor_found v)
  pub partition : (m : Clause) (v : View) → P (W.view_of K.Partition m unused unused v)
  pub gather : (c : Cut) (v : View) → P (W.view_of K.GatherScatter unused unused (W.sparse_by c) v)
  pub strided : (m l : Listed) (v : View) → P (W.strided_of m l v)
  pub attribute : (t : Found) → P t → P (with_attribute t)

module _ (P : Found → Type 0) (m : Made P) where
  tile_all : (s : Text) → When P (T.tile s)
  unfolding T.tile
  tile_all s = by (cut (bytes "ptr<") s)
    where
      by : (c : Cut) → When P (T.tile_by s c)
      by nowhere = all_each P _ (m.tile false (T.dimensions (front (split (code "x") s)))) (scalar_name (last (split (code "x") s)))
      by (at u t) = all_each P _ (m.tile true (T.dimensions (T.before_pointer (less_repeats (bytes "!cuda_tile.") (trim u))))) (T.pointee (cut (bytes ">") t))

  tensor_all : (s : Text) → When P (T.tensor_view s)
  unfolding T.tensor_view
  tensor_all s = all_each P T.tensor_found m.tensor (T.tensor s)

  partition_all : (s : Text) → When P (W.partition_view s)
  unfolding W.partition_view
  partition_all s = by (W.list_after (bytes "dim_map=[") s) (W.view s)
    where
      by : (l : Listed) (o : Option View) → When P (W.partition_from l o)
      by l None = tt
      by absent (Some v) = m.partition (W.own_map v) v
      by unclosed (Some v) = tt
      by (listed t) (Some v) = m.partition (W.entries t) v

  gather_all : (s : Text) → When P (W.gather_scatter_view s)
  unfolding W.gather_scatter_view
  gather_all s = all_each P _ (m.gather (cut (bytes "sparse_dim=") s)) (W.view s)

  strided_all : (s : Text) → When P (W.strided_view s)
  unfolding W.strided_view
  strided_all s = all_each P _ (m.strided (W.list_after (bytes "dim_map=[") s) (W.list_after (bytes "traversal_strides=[") s)) (W.view s)

  pointer_all : (s : Text) → When P (O.pointer s)
  unfolding O.pointer
  pointer_all s = all_each P (plain K.Pointer) m.pointer (scalar_name s)

  pub read : Read P
  read = record {
    token_is = m.token_is;
    scalar = m.scalar;
    pointer = pointer_all;
    tile = tile_all;
    tensor = tensor_all;
    partition = partition_all;
    gather = gather_all;
    strided = strided_all;
    attribute = m.attribute;
  }
