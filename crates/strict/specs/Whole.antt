-- A whole strict form, as the code reads it: the first word tells the kind and what follows.
use Rattle.std.specs.Prelude.{ℕ, Bool, true, false, List, [], ℤ, pos}
use Rattle.scalars.specs.declared.scalar.Scalar.{Scalar}
use Rattle.scalars.specs.declared.scalar.Scalar.TheVariants.{I1}
use Rattle.meaning.specs.declared.Kind.{Kind}
use Rattle.meaning.specs.declared.Kind.TheVariants as K
use Rattle.meaning.specs.declared.Padding.{Padding}
use Rattle.meaning.specs.declared.Padding.TheVariants as P
use Rattle.grammar.specs.Piece.{Answer, got}
use Rattle.grammar.specs.Join.{mapped, after}
use Rattle.strict.specs.Words.{among}
use Rattle.strict.specs.Lists.{Row, row, nothing}
use Rattle.strict.specs.Heads.{heads}
use Rattle.strict.specs.Inner.{Cored, Tiled, Tensed, pointee, close, tile, tensor}
use Rattle.strict.specs.Views.{Viewed, viewed, entries, walking, mid, sight, ending}
use Rattle.strict.specs.declared.heads.Head.{Head}
use Rattle.strict.specs.declared.heads.Head.TheVariants as H
use Rattle.strict.specs.declared.whole.Whole.{Whole}
use Rattle.strict.specs.declared.whole.Lists.{Lists}
use Rattle.meaning.specs.Found.{padded}

-- a type of any rank: what the grammar and the code both say of a text
pub record Plain : Type 0 where
  pub kind : Kind
  pub pointer : Bool
  pub element : Scalar
  pub marked : Bool
  pub shape : Row ℤ
  pub strides : Row ℤ
  pub tile : Row ℤ
  pub map : Row ℤ
  pub walk : Row ℤ
  pub sparse : ℤ
  pub padding : Padding

abbrev pub simple : Kind → Bool → Scalar → Bool → Row ℤ → Row ℤ → Plain
simple k p e m sh st = record {
  kind = k;
  pointer = p;
  element = e;
  marked = m;
  shape = sh;
  strides = st;
  tile = nothing;
  map = nothing;
  walk = nothing;
  sparse = pos 0;
  padding = P.Absent;
}

abbrev pub scalar_of : Scalar → Plain
scalar_of e = simple K.Scalar false e false nothing nothing

abbrev pub token : Plain
token = simple K.Token false I1 false nothing nothing

abbrev pub pointer_of : Cored → Plain
pointer_of c = simple K.Pointer false c.element c.marked nothing nothing

abbrev pub tile_of : Tiled → Plain
tile_of t = simple K.Tile t.core.pointer t.core.element t.core.marked t.shape nothing

abbrev pub tensor_of : Tensed → Plain
tensor_of t = simple K.TensorView false t.element t.rest.marked t.shape t.rest.strides

abbrev pub view_of : Kind → Viewed → Plain
view_of k v = record {
  kind = k;
  pointer = false;
  element = v.sight.tensor.element;
  marked = v.sight.tensor.rest.marked;
  shape = v.sight.tensor.shape;
  strides = v.sight.tensor.rest.strides;
  tile = v.tile;
  map = v.map;
  walk = v.walk;
  sparse = v.sparse;
  padding = v.sight.padding;
}

-- a view: the entries of its tile, the traversal in a strided one, the word that opens a tensor view or a padding, what it opens, the end
abbrev pub view : Kind → Bool → Bool → List ℕ → Answer Plain
view k bare sparse t =
    after (λ l r. after (λ w x. after (λ j y. after (λ v z. mapped (λ e. view_of k (viewed l v e.map w e.sparse)) (ending sparse z)) (sight j y)) (mid bare x)) (walking bare r)) (entries true t)

-- which views have a traversal, and which end with a sparse dimension
abbrev pub is_strided : Kind → Bool
is_strided K.Strided = true
is_strided K.Scalar = false
is_strided K.Pointer = false
is_strided K.Tile = false
is_strided K.TensorView = false
is_strided K.Partition = false
is_strided K.GatherScatter = false
is_strided K.Token = false

abbrev pub is_gather : Kind → Bool
is_gather K.GatherScatter = true
is_gather K.Scalar = false
is_gather K.Pointer = false
is_gather K.Tile = false
is_gather K.TensorView = false
is_gather K.Partition = false
is_gather K.Strided = false
is_gather K.Token = false

-- what follows the first word
abbrev pub from_head : Head → List ℕ → Answer Plain
from_head (H.Scalar e) r = got (scalar_of e) r
from_head H.Token r = got token r
from_head H.Pointer r = mapped pointer_of (pointee close r)
from_head H.Tile r = mapped tile_of (tile r)
from_head H.TensorView r = mapped tensor_of (tensor r)
from_head H.Partition r = view K.Partition true false r
from_head H.GatherScatter r = view K.GatherScatter true true r
from_head H.Strided r = view K.Strided false false r

unfoldable pub whole : List ℕ → Answer Plain
whole t = after from_head (among heads t)

-- with its shape, strides, tile, map and traversal
abbrev pub entire : List ℤ → List ℤ → List ℤ → List ℤ → List ℤ → Whole → Plain
entire l m x y z w = record {
  kind = w.kind;
  pointer = w.pointer;
  element = w.element;
  marked = w.marked;
  shape = row l w.shape;
  strides = row m w.strides;
  tile = row x w.tile;
  map = row y w.map;
  walk = row z w.walk;
  sparse = w.sparse;
  padding = w.padding;
}

-- with its lists
abbrev pub laid : Lists → Whole → Plain
laid l w = entire l.shape l.strides l.tile l.map l.walk w

-- lists without an entry
abbrev pub blank : Lists
blank = record { shape = padded 8 []; strides = padded 8 []; tile = padded 8 []; map = padded 8 []; walk = padded 8 [] }

-- the code's types that are no view
abbrev pub plainly : Kind → Bool → Scalar → Bool → ℕ → ℕ → Whole
plainly k p e m n o = record {
  kind = k;
  pointer = p;
  element = e;
  marked = m;
  shape = n;
  strides = o;
  tile = 0;
  map = 0;
  walk = 0;
  sparse = pos 0;
  padding = P.Absent;
}
