-- Every record that the ordinary reading answers is normal, at every capacity, the blank record of a refusal included.
-- What a form finds uses only what its kind uses, so that its record is normal exactly when its lists fit.
use Prim.Native.Nat.{ℕ, zero, suc}
use mathlib.Core.Bool.{Bool, true, false, ◌&&◌}
use mathlib.Core.List.{List, [], ◌∷◌}
use mathlib.Core.Path.{◌≡◌, refl, ◌∙◌}
use native.Mathlib.Omega.{arith}
use borrow.Author.Tests.{le-leb}
use lib.Dec.{leb}
use lib.IntN.{ℤ}
use lib.ListN.{length, drop}
use Rattle.lexis.specs.Text.{Text}
use Rattle.scalars.specs.declared.scalar.Scalar.{Scalar}
use Rattle.meaning.specs.declared.Kind.TheVariants as K
use Rattle.meaning.specs.declared.normal.Uses.{Uses}
use Rattle.meaning.specs.declared.Refusal.{Refusal}
use Rattle.meaning.specs.declared.Refusal.TheVariants.{TooLong, HighByte, NoType, TooMany}
use Rattle.meaning.specs.Normal.{all_zero, uses, clear, lists_clear, rest_blank, normal}
use Rattle.meaning.specs.Found.{Clause, values, padded, Found, flat, within, made, unused, plain, token, with_attribute}
use Rattle.meaning.specs.Tile as T
use Rattle.meaning.specs.Tile.{Tensor}
use Rattle.meaning.specs.Views as W
use Rattle.meaning.specs.Views.{View, Listed}
use Rattle.meaning.specs.Ordinary as O
use Rattle.meaning.proofs.Everywhere.{Made, read, ordinary_all}

-- ── a list in an array ──

-- only zeros stand past a list in its array
pub past_zero : (cap : ℕ) (zs : List ℤ) → all_zero (drop (length zs) (padded cap zs)) ≡ true
past_zero zero [] = refl
past_zero zero (z ∷ zs) = refl
past_zero (suc cap) [] = past_zero cap []
past_zero (suc cap) (z ∷ zs) = past_zero cap zs

and-true : (b : Bool) → b && true ≡ b
and-true true = refl
and-true false = refl

-- a list that isn't used is empty
abbrev pub Idle : Bool → List ℤ → Type 0
Idle true zs = Unit
Idle false zs = zs ≡ []

list_fits : (cap : ℕ) (used : Bool) (zs : List ℤ) → Idle used zs → clear cap used (length zs) (padded cap zs) ≡ leb (length zs) cap
list_fits cap true zs h = rw (past_zero cap zs, and-true (leb (length zs) cap))
list_fits cap false zs h = rw (h, past_zero cap [], le-leb 0 cap (omega arith))

-- ── a type that uses only what its kind uses ──

pub record Modest (u : Uses) (t : Found) : Type 0 where
  pub shape : Idle u.shape (values t.shape)
  pub strides : Idle u.strides (values t.strides)
  pub tile : Idle u.tile (values t.tile)
  pub map : Idle u.map (values t.map)
  pub traversal : Idle u.traversal (values t.traversal)
  -- at any capacity: no list is looked at
  pub rest : rest_blank u (flat 0 t) ≡ true

pub modest_normal : (cap : ℕ) (t : Found) → Modest (uses t.kind) t → normal cap (flat cap t) ≡ within cap t
unfolding flat within lists_clear rest_blank normal
modest_normal cap t m =
    let u = uses t.kind in
    (λ i. (list_fits cap u.shape (values t.shape) m.shape i
    && list_fits cap u.strides (values t.strides) m.strides i
    && list_fits cap u.tile (values t.tile) m.tile i
    && list_fits cap u.map (values t.map) m.map i
    && list_fits cap u.traversal (values t.traversal) m.traversal i)
    && m.rest i)
    ∙ and-true (within cap t)

abbrev pub Fair : Found → Type 0
Fair t = Modest (uses t.kind) t

pub token_fair : Fair token
unfolding flat token plain made rest_blank
token_fair = record { shape = refl; strides = refl; tile = refl; map = refl; traversal = refl; rest = refl }

scalar_fair : (e : Scalar) → Fair (plain K.Scalar e)
unfolding flat plain made rest_blank
scalar_fair e = record { shape = refl; strides = refl; tile = refl; map = refl; traversal = refl; rest = refl }

pointer_fair : (e : Scalar) → Fair (plain K.Pointer e)
unfolding flat plain made rest_blank
pointer_fair e = record { shape = refl; strides = refl; tile = refl; map = refl; traversal = refl; rest = refl }

tile_fair : (p : Bool) (c : Clause) (e : Scalar) → Fair (T.tile_of p c e)
unfolding flat made T.tile_of rest_blank
tile_fair p c e = record { shape = tt; strides = refl; tile = refl; map = refl; traversal = refl; rest = refl }

tensor_fair : (v : Tensor) → Fair (T.tensor_found v)
unfolding flat made T.tensor_found rest_blank
tensor_fair v = record { shape = tt; strides = tt; tile = refl; map = refl; traversal = refl; rest = refl }

partition_fair : (m : Clause) (v : View) → Fair (W.view_of K.Partition m unused unused v)
unfolding flat made W.view_of rest_blank
partition_fair m v = record { shape = tt; strides = tt; tile = tt; map = tt; traversal = refl; rest = refl }

gather_fair : (s : Clause) (v : View) → Fair (W.view_of K.GatherScatter unused unused s v)
unfolding flat made W.view_of rest_blank
gather_fair s v = record { shape = tt; strides = tt; tile = tt; map = refl; traversal = refl; rest = refl }

strided_fair : (m l : Listed) (v : View) → Fair (W.strided_of m l v)
unfolding flat made W.view_of W.strided_of rest_blank
strided_fair m l v = record { shape = tt; strides = tt; tile = tt; map = tt; traversal = tt; rest = refl }

attribute_fair : (t : Found) → Fair t → Fair (with_attribute t)
unfolding flat with_attribute rest_blank
attribute_fair t h = record { shape = h.shape; strides = h.strides; tile = h.tile; map = h.map; traversal = h.traversal; rest = h.rest }

fair : Made Fair
fair = record {
  token_is = token_fair;
  scalar = scalar_fair;
  pointer = pointer_fair;
  tile = tile_fair;
  tensor = tensor_fair;
  partition = partition_fair;
  gather = λ c v. gather_fair (W.sparse_by c) v;
  strided = strided_fair;
  attribute = attribute_fair;
}

-- ── what the ordinary reader answers ──

pub blank_normal : (cap : ℕ) → normal cap (flat cap token) ≡ true
unfolding within token plain made
blank_normal cap = modest_normal cap token token_fair ∙ rw (le-leb 0 cap (omega arith))

refused_normal : (cap : ℕ) (r : Refusal) (place : ℕ) → normal cap (O.refused cap r place).value ≡ true
unfolding O.refused
refused_normal cap r place = blank_normal cap

accepted_normal : (cap : ℕ) (t : Found) → Fair t → within cap t ≡ true → normal cap (O.accepted cap t).value ≡ true
unfolding O.accepted
accepted_normal cap t h e = modest_normal cap t h ∙ e

pub ordinary_normal : (cap size : ℕ) (s : Text) → normal cap (O.ordinary cap size s).value ≡ true
ordinary_normal cap size s =
    ordinary_all Fair (read Fair fair) cap (λ r. normal cap r.value ≡ true) (record {
      too_long = refused_normal cap TooLong 0;
      high = refused_normal cap HighByte;
      no_type = refused_normal cap NoType 0;
      too_many = refused_normal cap TooMany 0;
      accepts = accepted_normal cap;
    }) size s
