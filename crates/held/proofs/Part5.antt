-- Part 5 of the recorded list: texts with the Rust's answers, and counts worked out apart. Written by `oracle table`.
use mathlib.Core.List.{List, [], ◌∷◌}
use lib.IntN.{pos, negsuc}
use Rattle.meaning.proofs.Answers.{Row, row, refused, type, DYN}
use Rattle.meaning.specs.declared.Kind.TheVariants as K
use Rattle.scalars.specs.declared.scalar.Scalar.TheVariants as S
use Rattle.meaning.specs.declared.Padding.TheVariants as P
use Rattle.meaning.specs.declared.Refusal.TheVariants as R
use mathlib.Core.Bool.{true, false}

abbrev pub part_5 : List Row
part_5 =
    row "partition_view<tile=(2), tensor_view<f32>, dim_map=[1], dim_map=[2>" (type K.Partition S.F32 false false [] [] (pos 2 ∷ []) (pos 1 ∷ []) [] (pos 0) P.Absent 0 0 0 0) ∷
    row "partition_view<tile=(2), tensor_view<f32>, dim_map=[dim_map=[2]>" (type K.Partition S.F32 false false [] [] (pos 2 ∷ []) (pos 0 ∷ []) [] (pos 0) P.Absent 0 0 1 0) ∷
    row "partition_view<tile=(2), tensor_view<f32>, dim_map=[1,a,,-1, 2 ]>" (type K.Partition S.F32 false false [] [] (pos 2 ∷ []) (pos 1 ∷ pos 0 ∷ pos 0 ∷ negsuc 0 ∷ pos 2 ∷ []) [] (pos 0) P.Absent 0 0 2 0) ∷
    row "partition_view<tile=(2), tensor_view<f32>, dim_map=[1x0]>" (type K.Partition S.F32 false false [] [] (pos 2 ∷ []) (pos 0 ∷ []) [] (pos 0) P.Absent 0 0 1 0) ∷
    row "partition_view<tile=(2), tensor_view<f32>, dim_map=[[1]]>" (type K.Partition S.F32 false false [] [] (pos 2 ∷ []) (pos 0 ∷ []) [] (pos 0) P.Absent 0 0 1 0) ∷
    row "partition_view<tile=(2), tensor_view<f32>>, dim_map=[1]" (type K.Partition S.F32 false false [] [] (pos 2 ∷ []) (pos 0 ∷ []) [] (pos 0) P.Absent 0 0 0 1) ∷
    row "partition_view<tile=(2), tensor_view<f32>, traversal_strides=[, sparse_dim=7>" (type K.Partition S.F32 false false [] [] (pos 2 ∷ []) (pos 0 ∷ []) [] (pos 0) P.Absent 0 0 0 1) ∷
    row "partition_view<tile=(dim_map=[4]), tensor_view<f32>>" (type K.Partition S.F32 false false [] [] (pos 1 ∷ []) (pos 4 ∷ []) [] (pos 0) P.Absent 0 1 0 0) ∷
    row "strided_view<tile=(2x3), tensor_view<f32>>" (type K.Strided S.F32 false false [] [] (pos 2 ∷ pos 3 ∷ []) (pos 0 ∷ pos 1 ∷ []) (pos 1 ∷ pos 1 ∷ []) (pos 0) P.Absent 0 0 0 2) ∷
    row "strided_view<tile=(2x3), traversal_strides=[4,5], tensor_view<f32>, dim_map=[1,0]>" (type K.Strided S.F32 false false [] [] (pos 2 ∷ pos 3 ∷ []) (pos 1 ∷ pos 0 ∷ []) (pos 4 ∷ pos 5 ∷ []) (pos 0) P.Absent 0 0 0 0) ∷
    row "strided_view<tile=(2x3), traversal_strides=[4, tensor_view<f32>>" (type K.Strided S.F32 false false [] [] (pos 2 ∷ pos 3 ∷ []) (pos 0 ∷ pos 1 ∷ []) (pos 1 ∷ pos 1 ∷ []) (pos 0) P.Absent 0 0 0 2) ∷
    row "strided_view<tile=(2x3), tensor_view<f32>, dim_map=[1>" (type K.Strided S.F32 false false [] [] (pos 2 ∷ pos 3 ∷ []) (pos 0 ∷ pos 1 ∷ []) (pos 1 ∷ pos 1 ∷ []) (pos 0) P.Absent 0 0 0 2) ∷
    row "strided_view<tile=(2x3), tensor_view<f32>, dim_map=[1, traversal_strides=[4>" (type K.Strided S.F32 false false [] [] (pos 2 ∷ pos 3 ∷ []) (pos 0 ∷ pos 1 ∷ []) (pos 1 ∷ pos 1 ∷ []) (pos 0) P.Absent 0 0 0 2) ∷
    row "strided_view<tile=(2x3), traversal_strides=[4, tensor_view<f32>, dim_map=[1,0]>" (type K.Strided S.F32 false false [] [] (pos 2 ∷ pos 3 ∷ []) (pos 1 ∷ pos 0 ∷ []) (pos 4 ∷ pos 0 ∷ pos 0 ∷ pos 0 ∷ []) (pos 0) P.Absent 0 0 2 0) ∷
    row "strided_view<tile=(2x3), tensor_view<f32>, dim_map=[1, traversal_strides=[4]>" (type K.Strided S.F32 false false [] [] (pos 2 ∷ pos 3 ∷ []) (pos 1 ∷ pos 0 ∷ []) (pos 4 ∷ []) (pos 0) P.Absent 0 0 1 0) ∷
    row "strided_view<tile=(2), traversal_strides=[], tensor_view<f32>, dim_map=[]>" (type K.Strided S.F32 false false [] [] (pos 2 ∷ []) (pos 0 ∷ []) (pos 0 ∷ []) (pos 0) P.Absent 0 0 2 0) ∷
    row "strided_view<tile=(2), traversal_strides=[a,0], tensor_view<f32>, dim_map=[a,0]>" (type K.Strided S.F32 false false [] [] (pos 2 ∷ []) (pos 0 ∷ pos 0 ∷ []) (pos 0 ∷ pos 0 ∷ []) (pos 0) P.Absent 0 0 2 0) ∷
    row "strided_view<tile=(2), traversal_strides=4, tensor_view<f32>>" (type K.Strided S.F32 false false [] [] (pos 2 ∷ []) (pos 0 ∷ []) (pos 1 ∷ []) (pos 0) P.Absent 0 0 0 2) ∷
    row "strided_view<tile=(2), traversal_strides=[1],traversal_strides=[2], tensor_view<f32>>" (type K.Strided S.F32 false false [] [] (pos 2 ∷ []) (pos 0 ∷ []) (pos 1 ∷ []) (pos 0) P.Absent 0 0 0 1) ∷
    row "strided_view<tile=(2), strides=[9], tensor_view<4xf32>>" (type K.Strided S.F32 false false (pos 4 ∷ []) (DYN ∷ []) (pos 2 ∷ []) (pos 0 ∷ []) (pos 1 ∷ []) (pos 0) P.Absent 0 0 0 3) ∷
    row "strided_view<tile=(2), tensor_view<4xf32, traversal_strides=[3]>, dim_map=[0]>" (refused R.NoType 0) ∷
    row "strided_view<tile=(2), tensor_view<4xf32,traversal_strides=[3], strides=[3]>>" (refused R.NoType 0) ∷
    row "!cuda_tile.strided_view<tile=(2), traversal_strides=[3], padding_value=nan, tensor_view<4xf32, strides=[1]>, dim_map=[0]>" (type K.Strided S.F32 false false (pos 4 ∷ []) (pos 1 ∷ []) (pos 2 ∷ []) (pos 0 ∷ []) (pos 3 ∷ []) (pos 0) P.Nan 0 0 0 0) ∷
    row "strided_view<traversal_strides=[3], dim_map=[2], tile=(1), tensor_view<i4>>" (type K.Strided S.I4 false false [] [] (pos 1 ∷ []) (pos 2 ∷ []) (pos 3 ∷ []) (pos 0) P.Absent 0 0 0 0) ∷
    row "strided_view<tile=(2)>" (refused R.NoType 0) ∷
    row "strided_view<tile=(2), tensor_view<q>, dim_map=[1>" (refused R.NoType 0) ∷
    row "gather_scatter_view<tile=(2), tensor_view<f32>, sparse_dim=1>" (type K.GatherScatter S.F32 false false [] [] (pos 2 ∷ []) [] [] (pos 1) P.Absent 0 0 0 0) ∷
    row "gather_scatter_view<tile=(2), tensor_view<f32>>" (type K.GatherScatter S.F32 false false [] [] (pos 2 ∷ []) [] [] (pos 0) P.Absent 0 0 0 1) ∷
    row "gather_scatter_view<tile=(2), tensor_view<f32>, sparse_dim=>" (type K.GatherScatter S.F32 false false [] [] (pos 2 ∷ []) [] [] (pos 0) P.Absent 0 0 1 0) ∷
    row "gather_scatter_view<tile=(2), tensor_view<f32>, sparse_dim= -7 >" (type K.GatherScatter S.F32 false false [] [] (pos 2 ∷ []) [] [] (negsuc 6) P.Absent 0 0 0 0) ∷
    row "gather_scatter_view<tile=(2), sparse_dim=3, tensor_view<f32>>" (type K.GatherScatter S.F32 false false [] [] (pos 2 ∷ []) [] [] (pos 3) P.Absent 0 0 0 0) ∷
    row "gather_scatter_view<sparse_dim=3, tile=(2), tensor_view<f32>>" (type K.GatherScatter S.F32 false false [] [] (pos 2 ∷ []) [] [] (pos 3) P.Absent 0 0 0 0) ∷
    row "gather_scatter_view<tile=(2), tensor_view<f32, sparse_dim=3>>" (refused R.NoType 0) ∷
    row "gather_scatter_view<tile=(2), tensor_view<4xf32, strides=[1]sparse_dim=3>>" (type K.GatherScatter S.F32 false false (pos 4 ∷ []) (DYN ∷ []) (pos 2 ∷ []) [] [] (pos 3) P.Absent 1 0 0 0) ∷
    row "gather_scatter_view<tile=(2), tensor_view<f32>, sparse_dim=3<>>" (type K.GatherScatter S.F32 false false [] [] (pos 2 ∷ []) [] [] (pos 0) P.Absent 0 0 1 0) ∷
    row "gather_scatter_view<tile=(2), tensor_view<f32>, <sparse_dim=3>" (type K.GatherScatter S.F32 false false [] [] (pos 2 ∷ []) [] [] (pos 3) P.Absent 0 0 0 0) ∷
    row "gather_scatter_view<tile=(2), tensor_view<f32>, sparse_dim=3 4>" (type K.GatherScatter S.F32 false false [] [] (pos 2 ∷ []) [] [] (pos 0) P.Absent 0 0 1 0) ∷
    row "gather_scatter_view<tile=(2), tensor_view<f32>, sparse_dim=1, sparse_dim=2>" (type K.GatherScatter S.F32 false false [] [] (pos 2 ∷ []) [] [] (pos 1) P.Absent 0 0 0 0) ∷
    row "gather_scatter_view<tile=(2), tensor_view<f32>, sparse_dim=sparse_dim=2>" (type K.GatherScatter S.F32 false false [] [] (pos 2 ∷ []) [] [] (pos 0) P.Absent 0 0 1 0) ∷
    row "gather_scatter_view<tile=(2), tensor_view<f32>, sparse_dim =2>" (type K.GatherScatter S.F32 false false [] [] (pos 2 ∷ []) [] [] (pos 0) P.Absent 0 0 0 1) ∷
    row "gather_scatter_view<tile=(2), tensor_view<f32>, sparse_dim=[2]>" (type K.GatherScatter S.F32 false false [] [] (pos 2 ∷ []) [] [] (pos 0) P.Absent 0 0 1 0) ∷
    row "gather_scatter_view<tile=(2), tensor_view<f32>, sparse_dim=?>" (type K.GatherScatter S.F32 false false [] [] (pos 2 ∷ []) [] [] (pos 0) P.Absent 0 0 1 0) ∷
    row "gather_scatter_view<tile=(2), tensor_view<f32>, dim_map=[1, sparse_dim=1>" (type K.GatherScatter S.F32 false false [] [] (pos 2 ∷ []) [] [] (pos 1) P.Absent 0 0 0 0) ∷
    row "gather_scatter_view<tile=(2), tensor_view<f32>>sparse_dim=1" (type K.GatherScatter S.F32 false false [] [] (pos 2 ∷ []) [] [] (pos 0) P.Absent 0 0 0 1) ∷
    row "gather_scatter_view<tile=(2), sparse_dim=1>" (refused R.NoType 0) ∷
    row "partition_view<tile=(2), padding_value=zero, tensor_view<f32>>" (type K.Partition S.F32 false false [] [] (pos 2 ∷ []) (pos 0 ∷ []) [] (pos 0) P.Zero 0 0 0 1) ∷
    row "partition_view<tile=(2), padding_value=neg_zero, tensor_view<f32>>" (type K.Partition S.F32 false false [] [] (pos 2 ∷ []) (pos 0 ∷ []) [] (pos 0) P.NegZero 0 0 0 1) ∷
    row "partition_view<tile=(2), padding_value=nan, tensor_view<f32>>" (type K.Partition S.F32 false false [] [] (pos 2 ∷ []) (pos 0 ∷ []) [] (pos 0) P.Nan 0 0 0 1) ∷
    row "partition_view<tile=(2), padding_value=pos_inf, tensor_view<f32>>" (type K.Partition S.F32 false false [] [] (pos 2 ∷ []) (pos 0 ∷ []) [] (pos 0) P.PosInf 0 0 0 1) ∷
    row "partition_view<tile=(2), padding_value=neg_inf, tensor_view<f32>>" (type K.Partition S.F32 false false [] [] (pos 2 ∷ []) (pos 0 ∷ []) [] (pos 0) P.NegInf 0 0 0 1) ∷
    row "partition_view<tile=(2), zero, tensor_view<f32>>" (type K.Partition S.F32 false false [] [] (pos 2 ∷ []) (pos 0 ∷ []) [] (pos 0) P.Absent 0 0 0 1) ∷
    row "partition_view<tile=(2), padding_value, tensor_view<f32>>" (type K.Partition S.F32 false false [] [] (pos 2 ∷ []) (pos 0 ∷ []) [] (pos 0) P.Absent 0 0 0 1) ∷
    row "partition_view<tile=(2), padding_value=zero, neg_zero, tensor_view<f32>>" (type K.Partition S.F32 false false [] [] (pos 2 ∷ []) (pos 0 ∷ []) [] (pos 0) P.NegZero 0 0 0 1) ∷
    row "partition_view<tile=(2), padding_value=neg_zerozero, tensor_view<f32>>" (type K.Partition S.F32 false false [] [] (pos 2 ∷ []) (pos 0 ∷ []) [] (pos 0) P.NegZero 0 0 0 1) ∷
    row "partition_view<tile=(2), padding_value=nonzero, tensor_view<f32>>" (type K.Partition S.F32 false false [] [] (pos 2 ∷ []) (pos 0 ∷ []) [] (pos 0) P.Zero 0 0 0 1) ∷
    row "partition_view<tile=(2), padding_value=neg_ zero, tensor_view<f32>>" (type K.Partition S.F32 false false [] [] (pos 2 ∷ []) (pos 0 ∷ []) [] (pos 0) P.Zero 0 0 0 1) ∷
    row "partition_view<tile=(2), padding_value=nan zero, tensor_view<f32>>" (type K.Partition S.F32 false false [] [] (pos 2 ∷ []) (pos 0 ∷ []) [] (pos 0) P.Zero 0 0 0 1) ∷
    row "partition_view<tile=(2), padding_value=nan neg_zero, tensor_view<f32>>" (type K.Partition S.F32 false false [] [] (pos 2 ∷ []) (pos 0 ∷ []) [] (pos 0) P.NegZero 0 0 0 1) ∷
    row "partition_view<tile=(2), padding_value=neg_inf pos_inf, tensor_view<f32>>" (type K.Partition S.F32 false false [] [] (pos 2 ∷ []) (pos 0 ∷ []) [] (pos 0) P.PosInf 0 0 0 1) ∷
    row "partition_view<tile=(2), padding_value=neg_inf nan, tensor_view<f32>>" (type K.Partition S.F32 false false [] [] (pos 2 ∷ []) (pos 0 ∷ []) [] (pos 0) P.Nan 0 0 0 1) ∷
    row "partition_view<tile=(2), padding_value=banana, tensor_view<f32>>" (type K.Partition S.F32 false false [] [] (pos 2 ∷ []) (pos 0 ∷ []) [] (pos 0) P.Nan 0 0 0 1) ∷
    row "partition_view<tile=(2), padding_value=inf, tensor_view<f32>>" (type K.Partition S.F32 false false [] [] (pos 2 ∷ []) (pos 0 ∷ []) [] (pos 0) P.Absent 0 0 0 1) ∷
    row "partition_view<tile=(2), padding_value=ZERO, tensor_view<f32>>" (type K.Partition S.F32 false false [] [] (pos 2 ∷ []) (pos 0 ∷ []) [] (pos 0) P.Absent 0 0 0 1) ∷
    row "partition_view<tile=(zero), tensor_view<f32>, padding_value>" (type K.Partition S.F32 false false [] [] (pos 1 ∷ []) (pos 0 ∷ []) [] (pos 0) P.Zero 0 1 0 1) ∷
    row "partition_view<padding_valuenan, tile=(2), tensor_view<f32>>" (type K.Partition S.F32 false false [] [] (pos 2 ∷ []) (pos 0 ∷ []) [] (pos 0) P.Nan 0 0 0 1) ∷
    row "partition_view<tile=(2), padding_value=nan, tensor_view<zeroxf32>>" (type K.Partition S.F32 false false (DYN ∷ []) (DYN ∷ []) (pos 2 ∷ []) (pos 0 ∷ []) [] (pos 0) P.Zero 1 0 0 2) ∷
    row "partition_view<tile=(2), padding_value=nan, tensor_view<f32>>zero" (type K.Partition S.F32 false false [] [] (pos 2 ∷ []) (pos 0 ∷ []) [] (pos 0) P.Nan 0 0 0 1) ∷
    row "partition_view<tile=(2), padding_valu=nan, tensor_view<f32>>" (type K.Partition S.F32 false false [] [] (pos 2 ∷ []) (pos 0 ∷ []) [] (pos 0) P.Absent 0 0 0 1) ∷
    row "gather_scatter_view<tile=(2), padding_value=zero, tensor_view<f32>, sparse_dim=0>" (type K.GatherScatter S.F32 false false [] [] (pos 2 ∷ []) [] [] (pos 0) P.Zero 0 0 0 0) ∷
    row "strided_view<tile=(2), padding_value=neg_zero, tensor_view<f32>, dim_map=[zero]>" (type K.Strided S.F32 false false [] [] (pos 2 ∷ []) (pos 0 ∷ []) (pos 1 ∷ []) (pos 0) P.NegZero 0 0 1 1) ∷
    row "tile<padding_value=zeroxf32>" (type K.Tile S.F32 false false (DYN ∷ []) [] [] [] [] (pos 0) P.Absent 1 0 0 0) ∷
    row "tensor_view<f32, strides=[padding_value=zero]>" (type K.TensorView S.F32 false false [] (DYN ∷ []) [] [] [] (pos 0) P.Absent 1 0 0 0) ∷
    row "ptr<f32, #cuda_tile.ptr_attr<none>>" (type K.Pointer S.F32 false true [] [] [] [] [] (pos 0) P.Absent 0 0 0 0) ∷
    row "tile<4xptr<f32, #cuda_tile.ptr_attr<none>>>" (type K.Tile S.F32 true true (pos 4 ∷ []) [] [] [] [] (pos 0) P.Absent 0 0 0 0) ∷
    row "tensor_view<4xf32, strides=[1], #cuda_tile.ptr_attr<none>>" (type K.TensorView S.F32 false true (pos 4 ∷ []) (pos 1 ∷ []) [] [] [] (pos 0) P.Absent 0 0 0 0) ∷
    row "f32, #cuda_tile.ptr_attr<none>" (type K.Scalar S.F32 false true [] [] [] [] [] (pos 0) P.Absent 0 0 0 0) ∷
    row ", #cuda_tile.ptr_attr<none>f32" (type K.Scalar S.F32 false true [] [] [] [] [] (pos 0) P.Absent 0 0 0 0) ∷
    row "f, #cuda_tile.ptr_attr<none>32" (type K.Scalar S.F32 false true [] [] [] [] [] (pos 0) P.Absent 0 0 0 0) ∷
    row "ptr<f32,#cuda_tile.ptr_attr<none>>" (refused R.NoType 0) ∷
    row "ptr<f32,  #cuda_tile.ptr_attr<none>>" (refused R.NoType 0) ∷
    row "ptr<f32, #cuda_tile.ptr_attr<none>" (refused R.NoType 0) ∷
    row "ptr<f32 , #cuda_tile.ptr_attr<none>>" (type K.Pointer S.F32 false true [] [] [] [] [] (pos 0) P.Absent 0 0 0 0) ∷
    row "ptr<f32, #cuda_tile.ptr_attr<>>" (refused R.NoType 0) ∷
    row "ptr<f32, #cuda_tile.ptr_attr<None>>" (refused R.NoType 0) ∷
    row "ptr<f32, cuda_tile.ptr_attr<none>>" (refused R.NoType 0) ∷
    row "tile<f32, #cuda_tile.ptr_attr<none>>" (type K.Tile S.F32 false true [] [] [] [] [] (pos 0) P.Absent 0 0 0 0) ∷
    row "token, #cuda_tile.ptr_attr<none>" (type K.Token S.I1 false true [] [] [] [] [] (pos 0) P.Absent 0 0 0 0) ∷
    row "token, #cuda_tile.ptr_attr<none>, #cuda_tile.ptr_attr<none>" (type K.Token S.I1 false true [] [] [] [] [] (pos 0) P.Absent 0 0 0 0) ∷
    row "token, , #cuda_tile.ptr_attr<none>#cuda_tile.ptr_attr<none>" (type K.Token S.I1 false true [] [] [] [] [] (pos 0) P.Absent 0 0 0 0) ∷
    []
