-- Part 3 of the recorded list: texts with the Rust's answers, and counts worked out apart. Written by `oracle table`.
use mathlib.Core.List.{List, [], ◌∷◌}
use lib.IntN.{pos, negsuc}
use Rattle.meaning.proofs.Answers.{Row, row, refused, type, DYN}
use Rattle.meaning.specs.declared.Kind.TheVariants as K
use Rattle.scalars.specs.declared.scalar.Scalar.TheVariants as S
use Rattle.meaning.specs.declared.Padding.TheVariants as P
use Rattle.meaning.specs.declared.Refusal.TheVariants as R
use mathlib.Core.Bool.{true, false}

abbrev pub part_3 : List Row
part_3 =
    row "ptr<f32>junk" (type K.Pointer S.F32 false false [] [] [] [] [] (pos 0) P.Absent 0 0 0 0) ∷
    row "ptr<ptr<f32>>" (refused R.NoType 0) ∷
    row "!cuda_tile.ptr<f32>" (type K.Pointer S.F32 false false [] [] [] [] [] (pos 0) P.Absent 0 0 0 0) ∷
    row "!cuda_tile.ptr<f32" (refused R.NoType 0) ∷
    row "tile<ptr<f32>" (refused R.NoType 0) ∷
    row "tile<ptr<f32" (refused R.NoType 0) ∷
    row "tile<4xptr<f32>" (refused R.NoType 0) ∷
    row "tensor_view<<f32>" (refused R.NoType 0) ∷
    row "tensor_view<f32, strides=[<]>" (type K.TensorView S.F32 false false [] (DYN ∷ []) [] [] [] (pos 0) P.Absent 1 0 0 0) ∷
    row "tensor_view<f32, strides=[1>2]>" (type K.TensorView S.F32 false false [] (pos 1 ∷ []) [] [] [] (pos 0) P.Absent 0 0 0 0) ∷
    row "partition_view<tile=(2), tensor_view<f32>" (refused R.NoType 0) ∷
    row "partition_view<tile=(2), tensor_view<f32" (refused R.NoType 0) ∷
    row "partition_view<tile=(2<), tensor_view<f32>>" (type K.Partition S.F32 false false [] [] (pos 1 ∷ []) (pos 0 ∷ []) [] (pos 0) P.Absent 0 1 0 1) ∷
    row "partition_view<tile=(2>), tensor_view<f32>>" (refused R.NoType 0) ∷
    row "tile<f32>" (type K.Tile S.F32 false false [] [] [] [] [] (pos 0) P.Absent 0 0 0 0) ∷
    row "tile<4xf32>" (type K.Tile S.F32 false false (pos 4 ∷ []) [] [] [] [] (pos 0) P.Absent 0 0 0 0) ∷
    row "tile<4x8x16xf32>" (type K.Tile S.F32 false false (pos 4 ∷ pos 8 ∷ pos 16 ∷ []) [] [] [] [] (pos 0) P.Absent 0 0 0 0) ∷
    row "tile<xf32>" (type K.Tile S.F32 false false (DYN ∷ []) [] [] [] [] (pos 0) P.Absent 1 0 0 0) ∷
    row "tile<4xx8xf32>" (type K.Tile S.F32 false false (pos 4 ∷ DYN ∷ pos 8 ∷ []) [] [] [] [] (pos 0) P.Absent 1 0 0 0) ∷
    row "tile<4x>" (refused R.NoType 0) ∷
    row "tile<x>" (refused R.NoType 0) ∷
    row "tile<4>" (refused R.NoType 0) ∷
    row "tile<4xf32x>" (refused R.NoType 0) ∷
    row "tile<4Xf32>" (refused R.NoType 0) ∷
    row "tile<4 x 8 x f32>" (type K.Tile S.F32 false false (pos 4 ∷ pos 8 ∷ []) [] [] [] [] (pos 0) P.Absent 0 0 0 0) ∷
    row "tile<4,8xf32>" (type K.Tile S.F32 false false (DYN ∷ []) [] [] [] [] (pos 0) P.Absent 1 0 0 0) ∷
    row "tile<4x!cuda_tile.f32>" (refused R.NoType 0) ∷
    row "tile<[4]xf32>" (type K.Tile S.F32 false false (DYN ∷ []) [] [] [] [] (pos 0) P.Absent 1 0 0 0) ∷
    row "tile<4xtoken>" (refused R.NoType 0) ∷
    row "!cuda_tile.tile<?x?xbool>" (type K.Tile S.I1 false false (DYN ∷ DYN ∷ []) [] [] [] [] (pos 0) P.Absent 0 0 0 0) ∷
    row "!cuda_tile.!cuda_tile.tile<f32>" (refused R.NoType 0) ∷
    row "tile<tile<f32>>" (refused R.NoType 0) ∷
    row "tile<4xtile<f32>>" (refused R.NoType 0) ∷
    row "Tile<f32>" (refused R.NoType 0) ∷
    row "tiles<f32>" (refused R.NoType 0) ∷
    row "tile<-1x0x+1xi4>" (type K.Tile S.I4 false false (negsuc 0 ∷ pos 0 ∷ pos 1 ∷ []) [] [] [] [] (pos 0) P.Absent 0 0 0 0) ∷
    row "tile<f32xf32>" (type K.Tile S.F32 false false (DYN ∷ []) [] [] [] [] (pos 0) P.Absent 1 0 0 0) ∷
    row "tile<ptr<f32>>" (type K.Tile S.F32 true false [] [] [] [] [] (pos 0) P.Absent 0 0 0 0) ∷
    row "tile<!cuda_tile.ptr<f32>>" (type K.Tile S.F32 true false [] [] [] [] [] (pos 0) P.Absent 0 0 0 0) ∷
    row "tile<4xptr<f32>>" (type K.Tile S.F32 true false (pos 4 ∷ []) [] [] [] [] (pos 0) P.Absent 0 0 0 0) ∷
    row "tile<4x!cuda_tile.ptr<f32>>" (type K.Tile S.F32 true false (pos 4 ∷ []) [] [] [] [] (pos 0) P.Absent 0 0 0 0) ∷
    row "tile<xptr<f32>>" (type K.Tile S.F32 true false (DYN ∷ []) [] [] [] [] (pos 0) P.Absent 1 0 0 0) ∷
    row "tile<4xxxptr<f32>>" (type K.Tile S.F32 true false (pos 4 ∷ []) [] [] [] [] (pos 0) P.Absent 0 0 0 0) ∷
    row "tile<4ptr<f32>>" (type K.Tile S.F32 true false (pos 4 ∷ []) [] [] [] [] (pos 0) P.Absent 0 0 0 0) ∷
    row "tile<4 ptr<f32>>" (type K.Tile S.F32 true false (pos 4 ∷ []) [] [] [] [] (pos 0) P.Absent 0 0 0 0) ∷
    row "tile<4x ptr<f32>>" (type K.Tile S.F32 true false (pos 4 ∷ []) [] [] [] [] (pos 0) P.Absent 0 0 0 0) ∷
    row "tile< ptr<f32>>" (type K.Tile S.F32 true false [] [] [] [] [] (pos 0) P.Absent 0 0 0 0) ∷
    row "tile< x ptr<f32>>" (type K.Tile S.F32 true false (DYN ∷ []) [] [] [] [] (pos 0) P.Absent 1 0 0 0) ∷
    row "tile<x !cuda_tile.ptr<f32>>" (type K.Tile S.F32 true false (DYN ∷ DYN ∷ []) [] [] [] [] (pos 0) P.Absent 2 0 0 0) ∷
    row "tile<!cuda_tile.!cuda_tile.ptr<f32>>" (type K.Tile S.F32 true false [] [] [] [] [] (pos 0) P.Absent 0 0 0 0) ∷
    row "tile<4x!cuda_tile.!cuda_tile.ptr<f32>>" (type K.Tile S.F32 true false (pos 4 ∷ []) [] [] [] [] (pos 0) P.Absent 0 0 0 0) ∷
    row "tile<!cuda_tile. ptr<f32>>" (type K.Tile S.F32 true false [] [] [] [] [] (pos 0) P.Absent 0 0 0 0) ∷
    row "tile<4x!cuda_tile. \u{b}ptr<f32>>" (type K.Tile S.F32 true false (pos 4 ∷ []) [] [] [] [] (pos 0) P.Absent 0 0 0 0) ∷
    row "tile< !cuda_tile.ptr<f32>>" (type K.Tile S.F32 true false [] [] [] [] [] (pos 0) P.Absent 0 0 0 0) ∷
    row "tile<!cuda_tile.x!cuda_tile.ptr<f32>>" (type K.Tile S.F32 true false (DYN ∷ []) [] [] [] [] (pos 0) P.Absent 1 0 0 0) ∷
    row "tile<4x!cuda_tile.xptr<f32>>" (type K.Tile S.F32 true false (pos 4 ∷ DYN ∷ []) [] [] [] [] (pos 0) P.Absent 1 0 0 0) ∷
    row "tile<cuda_tile.ptr<f32>>" (type K.Tile S.F32 true false (DYN ∷ []) [] [] [] [] (pos 0) P.Absent 1 0 0 0) ∷
    row "tile<4x!cuda_tileptr<f32>>" (type K.Tile S.F32 true false (pos 4 ∷ DYN ∷ []) [] [] [] [] (pos 0) P.Absent 1 0 0 0) ∷
    row "tile<4xptr<f32>junk>" (type K.Tile S.F32 true false (pos 4 ∷ []) [] [] [] [] (pos 0) P.Absent 0 0 0 0) ∷
    row "tile<4xptr<f32>xptr<i8>>" (type K.Tile S.F32 true false (pos 4 ∷ []) [] [] [] [] (pos 0) P.Absent 0 0 0 0) ∷
    row "tile<4xptr<ptr<f32>>>" (refused R.NoType 0) ∷
    row "tile<4xptr<>>" (refused R.NoType 0) ∷
    row "tile<4xptr< f32 >>" (type K.Tile S.F32 true false (pos 4 ∷ []) [] [] [] [] (pos 0) P.Absent 0 0 0 0) ∷
    row "tile<4xptr<f32 >>" (type K.Tile S.F32 true false (pos 4 ∷ []) [] [] [] [] (pos 0) P.Absent 0 0 0 0) ∷
    row "tile<4xptr<F32>>" (refused R.NoType 0) ∷
    row "tile<4x8xptr<f32>" (refused R.NoType 0) ∷
    row "tile<ptr<f32xf32>" (refused R.NoType 0) ∷
    row "tile<xxxxptr<i1>>" (type K.Tile S.I1 true false (DYN ∷ []) [] [] [] [] (pos 0) P.Absent 1 0 0 0) ∷
    row "tile<4x?x!cuda_tile.ptr<f8e5m2>>" (type K.Tile S.F8E5M2 true false (pos 4 ∷ DYN ∷ []) [] [] [] [] (pos 0) P.Absent 0 0 0 0) ∷
    row "tile<4xptr<f32" (refused R.NoType 0) ∷
    row "tile<optr<f32>>" (type K.Tile S.F32 true false (DYN ∷ []) [] [] [] [] (pos 0) P.Absent 1 0 0 0) ∷
    row "tile<4xoptr<f32>>" (type K.Tile S.F32 true false (pos 4 ∷ DYN ∷ []) [] [] [] [] (pos 0) P.Absent 1 0 0 0) ∷
    row "tensor_view<f32>" (type K.TensorView S.F32 false false [] [] [] [] [] (pos 0) P.Absent 0 0 0 0) ∷
    row "tensor_view<4x8xf32>" (type K.TensorView S.F32 false false (pos 4 ∷ pos 8 ∷ []) (DYN ∷ DYN ∷ []) [] [] [] (pos 0) P.Absent 0 0 0 1) ∷
    row "tensor_view<xf32>" (type K.TensorView S.F32 false false (DYN ∷ []) (DYN ∷ []) [] [] [] (pos 0) P.Absent 1 0 0 1) ∷
    row "tensor_view<4xf32, strides=[1]>" (type K.TensorView S.F32 false false (pos 4 ∷ []) (pos 1 ∷ []) [] [] [] (pos 0) P.Absent 0 0 0 0) ∷
    row "tensor_view<4xf32,strides=[1]>" (type K.TensorView S.F32 false false (pos 4 ∷ []) (pos 1 ∷ []) [] [] [] (pos 0) P.Absent 0 0 0 0) ∷
    row "tensor_view<4xf32,  strides=[1]>" (refused R.NoType 0) ∷
    row "tensor_view<4xf32 ,strides=[1]>" (type K.TensorView S.F32 false false (pos 4 ∷ []) (pos 1 ∷ []) [] [] [] (pos 0) P.Absent 0 0 0 0) ∷
    row "tensor_view<4xf32, strides =[1]>" (refused R.NoType 0) ∷
    row "tensor_view<4xf32, strides= [1]>" (type K.TensorView S.F32 false false (pos 4 ∷ []) (DYN ∷ []) [] [] [] (pos 0) P.Absent 1 0 0 0) ∷
    row "tensor_view<4xf32, strides=1>" (type K.TensorView S.F32 false false (pos 4 ∷ []) (pos 1 ∷ []) [] [] [] (pos 0) P.Absent 0 0 0 0) ∷
    row "tensor_view<4xf32, strides=>" (type K.TensorView S.F32 false false (pos 4 ∷ []) (DYN ∷ []) [] [] [] (pos 0) P.Absent 1 0 0 0) ∷
    row "tensor_view<4xf32, strides=[[1]]>" (type K.TensorView S.F32 false false (pos 4 ∷ []) (pos 1 ∷ []) [] [] [] (pos 0) P.Absent 0 0 0 0) ∷
    row "tensor_view<4xf32, strides=[[1>" (type K.TensorView S.F32 false false (pos 4 ∷ []) (pos 1 ∷ []) [] [] [] (pos 0) P.Absent 0 0 0 0) ∷
    row "tensor_view<4xf32, strides=1]]>" (type K.TensorView S.F32 false false (pos 4 ∷ []) (pos 1 ∷ []) [] [] [] (pos 0) P.Absent 0 0 0 0) ∷
    row "tensor_view<4xf32, strides=[1],[2]>" (type K.TensorView S.F32 false false (pos 4 ∷ []) (DYN ∷ DYN ∷ []) [] [] [] (pos 0) P.Absent 2 0 0 0) ∷
    row "tensor_view<4xf32, strides=[1] >" (type K.TensorView S.F32 false false (pos 4 ∷ []) (DYN ∷ []) [] [] [] (pos 0) P.Absent 1 0 0 0) ∷
    row "tensor_view<4xf32, strides=][1>" (type K.TensorView S.F32 false false (pos 4 ∷ []) (DYN ∷ []) [] [] [] (pos 0) P.Absent 1 0 0 0) ∷
    []
