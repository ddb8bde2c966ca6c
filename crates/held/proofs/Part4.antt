-- Part 4 of the recorded list: texts with the Rust's answers, and counts worked out apart. Written by `oracle table`.
use mathlib.Core.List.{List, [], ◌∷◌}
use lib.IntN.{pos, negsuc}
use Rattle.meaning.proofs.Answers.{Row, row, refused, type, DYN}
use Rattle.meaning.specs.declared.Kind.TheVariants as K
use Rattle.scalars.specs.declared.scalar.Scalar.TheVariants as S
use Rattle.meaning.specs.declared.Padding.TheVariants as P
use Rattle.meaning.specs.declared.Refusal.TheVariants as R
use mathlib.Core.Bool.{true, false}

abbrev pub part_4 : List Row
part_4 =
    row "tensor_view<4xf32, strides=[,]>" (type K.TensorView S.F32 false false (pos 4 ∷ []) (DYN ∷ DYN ∷ []) [] [] [] (pos 0) P.Absent 2 0 0 0) ∷
    row "tensor_view<4xf32, strides=[1,,2]>" (type K.TensorView S.F32 false false (pos 4 ∷ []) (pos 1 ∷ DYN ∷ pos 2 ∷ []) [] [] [] (pos 0) P.Absent 1 0 0 0) ∷
    row "tensor_view<4xf32, strides=[ ? , 8 ]>" (type K.TensorView S.F32 false false (pos 4 ∷ []) (DYN ∷ pos 8 ∷ []) [] [] [] (pos 0) P.Absent 0 0 0 0) ∷
    row "tensor_view<4xf32, strides=[?,a,?]>" (type K.TensorView S.F32 false false (pos 4 ∷ []) (DYN ∷ DYN ∷ DYN ∷ []) [] [] [] (pos 0) P.Absent 1 0 0 0) ∷
    row "tensor_view<4xf32, strides=[8x1]>" (type K.TensorView S.F32 false false (pos 4 ∷ []) (DYN ∷ []) [] [] [] (pos 0) P.Absent 1 0 0 0) ∷
    row "tensor_view<f32, strides=[1,2,3]>" (type K.TensorView S.F32 false false [] (pos 1 ∷ pos 2 ∷ pos 3 ∷ []) [] [] [] (pos 0) P.Absent 0 0 0 0) ∷
    row "tensor_view<4xf32,strides=[7], strides=[9]>" (refused R.NoType 0) ∷
    row "tensor_view<4xf32, strides=[7],strides=[9]>" (type K.TensorView S.F32 false false (pos 4 ∷ []) (DYN ∷ DYN ∷ []) [] [] [] (pos 0) P.Absent 2 0 0 0) ∷
    row "tensor_view<4,strides=[2]xf32, strides=[9]>" (type K.TensorView S.F32 false false (DYN ∷ []) (pos 9 ∷ []) [] [] [] (pos 0) P.Absent 1 0 0 0) ∷
    row "tensor_view<4xf32, strides=[7], strides=[9]>" (type K.TensorView S.F32 false false (pos 4 ∷ []) (DYN ∷ DYN ∷ []) [] [] [] (pos 0) P.Absent 2 0 0 0) ∷
    row "tensor_view<4xf32strides=[1]>" (refused R.NoType 0) ∷
    row "tensor_view<, strides=[1]>" (refused R.NoType 0) ∷
    row "tensor_view<4x, strides=[1]>" (refused R.NoType 0) ∷
    row "tensor_view<4xptr<f32>>" (refused R.NoType 0) ∷
    row "tensor_view<4xptr<f32>, strides=[1]>" (refused R.NoType 0) ∷
    row "tensor_view<4xf32,>" (refused R.NoType 0) ∷
    row "tensor_view<4xf32, dim_map=[1]>" (refused R.NoType 0) ∷
    row "!cuda_tile.tensor_view<?xi8, strides=[?]>" (type K.TensorView S.I8 false false (DYN ∷ []) (DYN ∷ []) [] [] [] (pos 0) P.Absent 0 0 0 0) ∷
    row "tensor_view<>" (refused R.NoType 0) ∷
    row "tensor_view<f32, strides=[\u{b}-5\u{c}]>" (type K.TensorView S.F32 false false [] (negsuc 4 ∷ []) [] [] [] (pos 0) P.Absent 0 0 0 0) ∷
    row "tensor_view=!cuda_tile.tensor_view<f32>" (refused R.NoType 0) ∷
    row "partition_view<tile=(4), tensor_view<f32>>" (type K.Partition S.F32 false false [] [] (pos 4 ∷ []) (pos 0 ∷ []) [] (pos 0) P.Absent 0 0 0 1) ∷
    row "partition_view<tile=(4x8), tensor_view<f32>>" (type K.Partition S.F32 false false [] [] (pos 4 ∷ pos 8 ∷ []) (pos 0 ∷ pos 1 ∷ []) [] (pos 0) P.Absent 0 0 0 1) ∷
    row "partition_view<tile=(4,8), tensor_view<f32>>" (type K.Partition S.F32 false false [] [] (pos 4 ∷ pos 8 ∷ []) (pos 0 ∷ pos 1 ∷ []) [] (pos 0) P.Absent 0 0 0 1) ∷
    row "partition_view<tile=(4, 8), tensor_view<f32>>" (type K.Partition S.F32 false false [] [] (pos 4 ∷ pos 8 ∷ []) (pos 0 ∷ pos 1 ∷ []) [] (pos 0) P.Absent 0 0 0 1) ∷
    row "partition_view<tile=(4x8,2), tensor_view<f32>>" (type K.Partition S.F32 false false [] [] (pos 4 ∷ pos 1 ∷ []) (pos 0 ∷ pos 1 ∷ []) [] (pos 0) P.Absent 0 1 0 1) ∷
    row "partition_view<tile=(4,8x), tensor_view<f32>>" (type K.Partition S.F32 false false [] [] (pos 1 ∷ pos 1 ∷ []) (pos 0 ∷ pos 1 ∷ []) [] (pos 0) P.Absent 0 2 0 1) ∷
    row "partition_view<tile=(x), tensor_view<f32>>" (type K.Partition S.F32 false false [] [] (pos 1 ∷ pos 1 ∷ []) (pos 0 ∷ pos 1 ∷ []) [] (pos 0) P.Absent 0 2 0 1) ∷
    row "partition_view<tile=(,), tensor_view<f32>>" (type K.Partition S.F32 false false [] [] (pos 1 ∷ pos 1 ∷ []) (pos 0 ∷ pos 1 ∷ []) [] (pos 0) P.Absent 0 2 0 1) ∷
    row "partition_view<tile=( 4 x 8 ), tensor_view<f32>>" (type K.Partition S.F32 false false [] [] (pos 4 ∷ pos 8 ∷ []) (pos 0 ∷ pos 1 ∷ []) [] (pos 0) P.Absent 0 0 0 1) ∷
    row "partition_view<tile=((4), tensor_view<f32>>" (type K.Partition S.F32 false false [] [] (pos 1 ∷ []) (pos 0 ∷ []) [] (pos 0) P.Absent 0 1 0 1) ∷
    row "partition_view<tile=(4)), tensor_view<f32>>" (type K.Partition S.F32 false false [] [] (pos 4 ∷ []) (pos 0 ∷ []) [] (pos 0) P.Absent 0 0 0 1) ∷
    row "partition_view<tile=[4], tensor_view<f32>>" (refused R.NoType 0) ∷
    row "partition_view<tile=4, tensor_view<f32>>" (refused R.NoType 0) ∷
    row "partition_view<tile= (4), tensor_view<f32>>" (refused R.NoType 0) ∷
    row "partition_view<tensor_view<f32>>" (refused R.NoType 0) ∷
    row "partition_view<tile=(4, tensor_view<f32>>" (refused R.NoType 0) ∷
    row "partition_view<tile=(4 tensor_view<f32>)>" (refused R.NoType 0) ∷
    row "partition_view<tile=(2), tile=(3), tensor_view<f32>>" (type K.Partition S.F32 false false [] [] (pos 2 ∷ []) (pos 0 ∷ []) [] (pos 0) P.Absent 0 0 0 1) ∷
    row "partition_view<tile=(tile=(3), tensor_view<f32>>" (type K.Partition S.F32 false false [] [] (pos 1 ∷ []) (pos 0 ∷ []) [] (pos 0) P.Absent 0 1 0 1) ∷
    row "partition_view<!cuda_tile.tile=(2), tensor_view<f32>>" (type K.Partition S.F32 false false [] [] (pos 2 ∷ []) (pos 0 ∷ []) [] (pos 0) P.Absent 0 0 0 1) ∷
    row "partition_view<subtile=(2)tensor_view<f32>>" (type K.Partition S.F32 false false [] [] (pos 2 ∷ []) (pos 0 ∷ []) [] (pos 0) P.Absent 0 0 0 1) ∷
    row "gather_scatter_view<tile=(-1x?), tensor_view<f32>>" (type K.GatherScatter S.F32 false false [] [] (negsuc 0 ∷ pos 1 ∷ []) [] [] (pos 0) P.Absent 0 1 0 1) ∷
    row "strided_view<tile=(0,+0,-0), tensor_view<f32>>" (type K.Strided S.F32 false false [] [] (pos 0 ∷ pos 0 ∷ pos 0 ∷ []) (pos 0 ∷ pos 1 ∷ pos 2 ∷ []) (pos 1 ∷ pos 1 ∷ pos 1 ∷ []) (pos 0) P.Absent 0 0 0 2) ∷
    row "partition_view<>" (refused R.NoType 0) ∷
    row "partition_view<tile=(1)>" (refused R.NoType 0) ∷
    row "partition_view<tile=(2), !cuda_tile.tensor_view<4xf32>>" (type K.Partition S.F32 false false (pos 4 ∷ []) (DYN ∷ []) (pos 2 ∷ []) (pos 0 ∷ []) [] (pos 0) P.Absent 0 0 0 2) ∷
    row "partition_view<tile=(2), tensor_view=!cuda_tile.tensor_view<4xf32>>" (type K.Partition S.F32 false false (pos 4 ∷ []) (DYN ∷ []) (pos 2 ∷ []) (pos 0 ∷ []) [] (pos 0) P.Absent 0 0 0 2) ∷
    row "partition_view<tile=(2), tensor_view=tensor_view<4xf32>>" (type K.Partition S.F32 false false (pos 4 ∷ []) (DYN ∷ []) (pos 2 ∷ []) (pos 0 ∷ []) [] (pos 0) P.Absent 0 0 0 2) ∷
    row "partition_view<!cuda_tile.tensor_view<f32>, tile=(2)>" (type K.Partition S.F32 false false [] [] (pos 2 ∷ []) (pos 0 ∷ []) [] (pos 0) P.Absent 0 0 0 1) ∷
    row "partition_view<tensor_view<f32>, tile=(2)>" (refused R.NoType 0) ∷
    row "partition_view<tensor_view=!cuda_tile.tensor_view<f32>, tile=(2)>" (type K.Partition S.F32 false false [] [] (pos 2 ∷ []) (pos 0 ∷ []) [] (pos 0) P.Absent 0 0 0 1) ∷
    row "partition_view<tensor_view<f32>, tile=(2), tensor_view<i8>>" (type K.Partition S.I8 false false [] [] (pos 2 ∷ []) (pos 0 ∷ []) [] (pos 0) P.Absent 0 0 0 1) ∷
    row "partition_view<tile=(2)tensor_view<f32>>" (type K.Partition S.F32 false false [] [] (pos 2 ∷ []) (pos 0 ∷ []) [] (pos 0) P.Absent 0 0 0 1) ∷
    row "partition_view<tile=(2tensor_view<f32>)>" (refused R.NoType 0) ∷
    row "partition_view<tile=(2), tensor_view<f32>, !cuda_tile.tensor_view<i8>>" (type K.Partition S.I8 false false [] [] (pos 2 ∷ []) (pos 0 ∷ []) [] (pos 0) P.Absent 0 0 0 1) ∷
    row "partition_view<tile=(2), !cuda_tile.tensor_view<f32>, tensor_view=!cuda_tile.tensor_view<i8>>" (type K.Partition S.I8 false false [] [] (pos 2 ∷ []) (pos 0 ∷ []) [] (pos 0) P.Absent 0 0 0 1) ∷
    row "partition_view<tile=(2), tensor_view<f32>, tensor_view<i8>>" (type K.Partition S.F32 false false [] [] (pos 2 ∷ []) (pos 0 ∷ []) [] (pos 0) P.Absent 0 0 0 1) ∷
    row "partition_view<tile=(2), tensor_view=!cuda_tile.tensor_view<f32>, tensor_view=!cuda_tile.tensor_view<i8>>" (type K.Partition S.F32 false false [] [] (pos 2 ∷ []) (pos 0 ∷ []) [] (pos 0) P.Absent 0 0 0 1) ∷
    row "partition_view<tile=(2), tensor_view= !cuda_tile.tensor_view<f32>>" (type K.Partition S.F32 false false [] [] (pos 2 ∷ []) (pos 0 ∷ []) [] (pos 0) P.Absent 0 0 0 1) ∷
    row "partition_view<tile=(2), !cuda_tile.!cuda_tile.tensor_view<f32>>" (type K.Partition S.F32 false false [] [] (pos 2 ∷ []) (pos 0 ∷ []) [] (pos 0) P.Absent 0 0 0 1) ∷
    row "partition_view<tile=(2), !cuda_tile. tensor_view<f32>>" (type K.Partition S.F32 false false [] [] (pos 2 ∷ []) (pos 0 ∷ []) [] (pos 0) P.Absent 0 0 0 1) ∷
    row "partition_view<tile=(2), tensor_view <f32>>" (refused R.NoType 0) ∷
    row "partition_view<tile=(2), tensor_view<f32, dim_map=[0]>" (refused R.NoType 0) ∷
    row "partition_view<tile=(2), tensor_view<>>" (refused R.NoType 0) ∷
    row "partition_view<tile=(2), tensor_view<<f32>>" (refused R.NoType 0) ∷
    row "partition_view<tile=(2), tensor_view<a<b>xf32>>" (type K.Partition S.F32 false false (DYN ∷ []) (DYN ∷ []) (pos 2 ∷ []) (pos 0 ∷ []) [] (pos 0) P.Absent 1 0 0 2) ∷
    row "partition_view<tile=(2), tensor_view<f32>>>" (type K.Partition S.F32 false false [] [] (pos 2 ∷ []) (pos 0 ∷ []) [] (pos 0) P.Absent 0 0 0 1) ∷
    row "partition_view<tile=(2), tensor_view<f32>, <>" (type K.Partition S.F32 false false [] [] (pos 2 ∷ []) (pos 0 ∷ []) [] (pos 0) P.Absent 0 0 0 1) ∷
    row "partition_view<tile=(2), tensor_view<F32>, !tensor_view<i8>>" (refused R.NoType 0) ∷
    row "partition_view<tile=(2), tensor_view<4xptr<f32>>>" (refused R.NoType 0) ∷
    row "partition_view<tile=(2), tensor_view<xf32>>" (type K.Partition S.F32 false false (DYN ∷ []) (DYN ∷ []) (pos 2 ∷ []) (pos 0 ∷ []) [] (pos 0) P.Absent 1 0 0 2) ∷
    row "gather_scatter_view<tensor_view<f32>, tile=(2)>" (refused R.NoType 0) ∷
    row "gather_scatter_view<!cuda_tile.tensor_view<f32>, tile=(2)>" (type K.GatherScatter S.F32 false false [] [] (pos 2 ∷ []) [] [] (pos 0) P.Absent 0 0 0 1) ∷
    row "strided_view<tensor_view<f32>, tile=(2)>" (refused R.NoType 0) ∷
    row "strided_view<!cuda_tile.tensor_view<f32>, tile=(2)>" (type K.Strided S.F32 false false [] [] (pos 2 ∷ []) (pos 0 ∷ []) (pos 1 ∷ []) (pos 0) P.Absent 0 0 0 2) ∷
    row "partition_view<tile=(2), partition_view<tile=(3), tensor_view<f32>>>" (type K.Partition S.F32 false false [] [] (pos 2 ∷ []) (pos 0 ∷ []) [] (pos 0) P.Absent 0 0 0 1) ∷
    row "partition_view<tile=(2), tensor_view<4xf32, strides=[1], dim_map=[5]>>" (type K.Partition S.F32 false false (pos 4 ∷ []) (DYN ∷ DYN ∷ []) (pos 2 ∷ []) (pos 5 ∷ []) [] (pos 0) P.Absent 2 0 0 0) ∷
    row "partition_view<tile=(2x3x4), tensor_view<f32>>" (type K.Partition S.F32 false false [] [] (pos 2 ∷ pos 3 ∷ pos 4 ∷ []) (pos 0 ∷ pos 1 ∷ pos 2 ∷ []) [] (pos 0) P.Absent 0 0 0 1) ∷
    row "partition_view<tile=(2), tensor_view<f32>, dim_map=[1]>" (type K.Partition S.F32 false false [] [] (pos 2 ∷ []) (pos 1 ∷ []) [] (pos 0) P.Absent 0 0 0 0) ∷
    row "partition_view<tile=(2), tensor_view<f32>, dim_map=[]>" (type K.Partition S.F32 false false [] [] (pos 2 ∷ []) (pos 0 ∷ []) [] (pos 0) P.Absent 0 0 1 0) ∷
    row "partition_view<tile=(2), tensor_view<f32>, dim_map=[ ]>" (type K.Partition S.F32 false false [] [] (pos 2 ∷ []) (pos 0 ∷ []) [] (pos 0) P.Absent 0 0 1 0) ∷
    row "partition_view<tile=(2), tensor_view<f32>, dim_map=[1>" (refused R.NoType 0) ∷
    row "partition_view<tile=(2), tensor_view<f32>, dim_map=[>" (refused R.NoType 0) ∷
    row "partition_view<tile=(2), tensor_view<f32>, dim_map=1>" (type K.Partition S.F32 false false [] [] (pos 2 ∷ []) (pos 0 ∷ []) [] (pos 0) P.Absent 0 0 0 1) ∷
    row "partition_view<tile=(2), tensor_view<f32>, dim_map= [1]>" (type K.Partition S.F32 false false [] [] (pos 2 ∷ []) (pos 0 ∷ []) [] (pos 0) P.Absent 0 0 0 1) ∷
    row "partition_view<tile=(2), dim_map=[1, tensor_view<f32, strides=[7]>>" (type K.Partition S.F32 false false [] (pos 7 ∷ []) (pos 2 ∷ []) (pos 1 ∷ pos 0 ∷ pos 0 ∷ []) [] (pos 0) P.Absent 0 0 2 0) ∷
    row "partition_view<dim_map=[3], tile=(2), tensor_view<f32>>" (type K.Partition S.F32 false false [] [] (pos 2 ∷ []) (pos 3 ∷ []) [] (pos 0) P.Absent 0 0 0 0) ∷
    row "partition_view<tile=(2), tensor_view<f32>, dim_map=[1], dim_map=[2]>" (type K.Partition S.F32 false false [] [] (pos 2 ∷ []) (pos 1 ∷ []) [] (pos 0) P.Absent 0 0 0 0) ∷
    []
