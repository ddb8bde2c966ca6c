-- The code's reader of a whole strict form walks together with the grammar's: by the number of the first word.
use Prim.Native.Nat.{ℕ}
use mathlib.Core.Bool.{false}
use mathlib.Core.List.{List, []}
use mathlib.Core.Path.{◌≡◌, refl, subst, sym, ap}
use lib.IntN.{ℤ, pos}
use Rattle.lexis.specs.Text.{bytes}
use Rattle.scalars.specs.declared.scalar.Scalar.TheVariants.{I1}
use Rattle.meaning.specs.declared.Kind.TheVariants as K
use Rattle.meaning.specs.declared.Padding.TheVariants as P
use Rattle.meaning.specs.Meant.{Any, any}
use Rattle.grammar.specs.Join.{mapped}
use Rattle.grammar.specs.Elements as E
use Rattle.grammar.proofs.Elements as EP
use Rattle.grammar.specs.Head as H
use Rattle.grammar.proofs.Whole as G
use Rattle.strict.specs.Words.{among}
use Rattle.strict.specs.Heads.{heads}
use Rattle.strict.specs.declared.heads.Head.{Head}
use Rattle.strict.specs.declared.heads.Head.TheVariants as D
use Rattle.strict.specs.Lists.{Row, nothing}
use Rattle.strict.specs.Inner as I
use Rattle.strict.specs.Whole as C
use Rattle.strict.specs.Plain.{seen}
use Rattle.strict.proofs.Picking.{pick_label}
use Rattle.strict.proofs.Together.{Same, both, along, convey, told, label}
use Rattle.strict.proofs.Bridge.{core_said, pointee_is, tile_is, tensor_is}
use Rattle.strict.proofs.BridgeViews.{partition_view_is, gather_view_is, strided_view_is}

abbrev pub Whole~ : Any → C.Plain → Type 0
Whole~ a c = seen a ≡ c

-- ── the first word ──
abbrev head_said : Head → H.Head
head_said (D.Scalar e) = H.scalar e
head_said D.Token = H.token
head_said D.Pointer = H.ptr
head_said D.Tile = H.tile
head_said D.TensorView = H.tensor
head_said D.Partition = H.partition
head_said D.GatherScatter = H.gather
head_said D.Strided = H.strided

head_is : (t : List ℕ) → (H.head_plain).read t ≡ mapped head_said (among heads t)
unfolding among
head_is t = pick_label head_said t heads

-- ── what follows it ──
module _ (r : List ℕ) where
  pointer : Same Whole~ ((G.next H.ptr).read r) (mapped C.pointer_of (I.pointee I.close r))
  pointer = convey G.ptr_any C.pointer_of (label core_said ((EP.pointee (bytes ">") tt).read r) (I.pointee I.close r) (pointee_is r)) (λ a c h. ap (λ (z : E.Core). seen (G.ptr_any z)) h)

  tile : Same Whole~ ((G.next H.tile).read r) (mapped C.tile_of (I.tile r))
  tile = convey G.tile_any C.tile_of (tile_is r) (λ e c h. λ j. said_tile (h.core j) (h.shape j))
    where
      said_tile : E.Core → Row ℤ → C.Plain
      said_tile c l = record {
        kind = K.Tile;
        pointer = c.pointer;
        element = c.element;
        marked = c.attribute;
        shape = l;
        strides = nothing;
        tile = nothing;
        map = nothing;
        walk = nothing;
        sparse = pos 0;
        padding = P.Absent;
      }

  tensor : Same Whole~ ((G.next H.tensor).read r) (mapped C.tensor_of (I.tensor r))
  tensor = convey G.tensor_any C.tensor_of (tensor_is r) (λ e c h. λ j. record {
    kind = K.TensorView;
    pointer = false;
    element = h.element j;
    marked = h.mark j;
    shape = h.shape j;
    strides = h.strides j;
    tile = nothing;
    map = nothing;
    walk = nothing;
    sparse = pos 0;
    padding = P.Absent;
  })

  by : (h : Head) → Same Whole~ ((G.next (head_said h)).read r) (C.from_head h r)
  by (D.Scalar e) = both (any K.Scalar e false false [] [] [] [] [] (pos 0) P.Absent) (C.scalar_of e) r refl
  by D.Token = both (any K.Token I1 false false [] [] [] [] [] (pos 0) P.Absent) C.token r refl
  by D.Pointer = pointer
  by D.Tile = tile
  by D.TensorView = tensor
  by D.Partition = partition_view_is r
  by D.GatherScatter = gather_view_is r
  by D.Strided = strided_view_is r

together : (t : List ℕ) → Same Whole~ (G.read t) (C.whole t)
unfolding C.whole
together t = along (λ h. (G.next h).read) C.from_head (label head_said ((H.head_plain).read t) (among heads t) (head_is t))
    (λ h k r e. subst (λ (h : H.Head). Same Whole~ ((G.next h).read r) (C.from_head k r)) (sym e) (by r k))

-- THE BRIDGE: on every text the code's reading and the grammar's say the same
pub whole_is : (t : List ℕ) → mapped seen (G.read t) ≡ C.whole t
whole_is t = told seen (together t) (λ a c h. h)
