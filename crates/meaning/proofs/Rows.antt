-- The rows of document 01 marked P, ordinary side: one table, one theorem, which the checker computes.
use mathlib.Core.Path.{◌≡◌, refl}
use mathlib.Core.Bool.{true, false}
use mathlib.Core.List as L
use mathlib.Core.List.{List, [], ◌∷◌}
use lib.IntN.{pos}
use Rattle.scalars.specs.declared.scalar.Scalar.TheVariants.{I1, F32}
use Rattle.meaning.specs.declared.Kind.TheVariants as K
use Rattle.meaning.specs.declared.Padding.TheVariants.{Absent}
use Rattle.meaning.specs.declared.Refusal.TheVariants.{NoType}
use Rattle.meaning.proofs.Open.{reading}
use Rattle.meaning.proofs.Answers.{Row, row, type, refused, DYN, texts, answers}

abbrev pub rows : List Row
rows =
    row "tile<f32>junk" (type K.Tile F32 false false [] [] [] [] [] (pos 0) Absent 0 0 0 0) ∷
    row "tile<f<xf32>" (type K.Tile F32 false false (DYN ∷ []) [] [] [] [] (pos 0) Absent 1 0 0 0) ∷
    row "tile<xxf32>" (type K.Tile F32 false false (DYN ∷ DYN ∷ []) [] [] [] [] (pos 0) Absent 2 0 0 0) ∷
    row "tile<xxptr<f32>>" (type K.Tile F32 true false (DYN ∷ []) [] [] [] [] (pos 0) Absent 1 0 0 0) ∷
    row "tile<4x !cuda_tile.ptr<f32>>" (type K.Tile F32 true false (pos 4 ∷ DYN ∷ []) [] [] [] [] (pos 0) Absent 1 0 0 0) ∷
    row "tensor_view<f32, strides=[]>" (type K.TensorView F32 false false [] (DYN ∷ []) [] [] [] (pos 0) Absent 1 0 0 0) ∷
    row "tensor_view<4xf32>" (type K.TensorView F32 false false (pos 4 ∷ []) (DYN ∷ []) [] [] [] (pos 0) Absent 0 0 0 1) ∷
    row "partition_view<tile=(), tensor_view<f32>>" (type K.Partition F32 false false [] [] (pos 1 ∷ []) (pos 0 ∷ []) [] (pos 0) Absent 0 1 0 1) ∷
    row "gather_scatter_view<tile=(2), tensor_view<4xf32, strides=[1]>, sparse_dim=one>"
    (type K.GatherScatter F32 false false (pos 4 ∷ []) (pos 1 ∷ []) (pos 2 ∷ []) [] [] (pos 0) Absent 0 0 1 0) ∷
    row "token, #cuda_tile.ptr_a, #cuda_tile.ptr_attr<none>ttr<none>" (type K.Token I1 false true [] [] [] [] [] (pos 0) Absent 0 0 0 0) ∷
    row ", #cuda_tile.ptr_attr<none>" (refused NoType 0) ∷
    row "tile<-9223372036854775808xf32>" (type K.Tile F32 false false (DYN ∷ []) [] [] [] [] (pos 0) Absent 0 0 0 0) ∷
    row "partition_view<tile=(4x8), tensor_view<?x16xf32, strides=[16, 1]>, dim_map=[1,0]>"
    (type K.Partition F32 false false (DYN ∷ pos 16 ∷ []) (pos 16 ∷ pos 1 ∷ []) (pos 4 ∷ pos 8 ∷ []) (pos 1 ∷ pos 0 ∷ []) [] (pos 0) Absent 0 0 0 0) ∷ []

rows_hold : L.map (reading 8 1024) (texts rows) ≡ answers rows
unfolding reading
rows_hold = refl
