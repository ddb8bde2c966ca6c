-- Part 2 of the recorded list: texts with the Rust's answers, and counts worked out apart. Written by `oracle table`.
use mathlib.Core.List.{List, [], ◌∷◌}
use lib.IntN.{pos, negsuc}
use Rattle.meaning.proofs.Answers.{Row, row, refused, type, DYN}
use Rattle.meaning.specs.declared.Kind.TheVariants as K
use Rattle.scalars.specs.declared.scalar.Scalar.TheVariants as S
use Rattle.meaning.specs.declared.Padding.TheVariants as P
use Rattle.meaning.specs.declared.Refusal.TheVariants as R
use mathlib.Core.Bool.{true, false}

abbrev pub part_2 : List Row
part_2 =
    row "tensor_view<f32, strides=[-9223372036854775808,9223372036854775807]>" (type K.TensorView S.F32 false false [] (DYN ∷ pos 9223372036854775807 ∷ []) [] [] [] (pos 0) P.Absent 0 0 0 0) ∷
    row "tensor_view<f32, strides=[-9223372036854775809,9223372036854775808]>" (type K.TensorView S.F32 false false [] (DYN ∷ DYN ∷ []) [] [] [] (pos 0) P.Absent 2 0 0 0) ∷
    row "partition_view<tile=(2147483647), tensor_view<f32>, dim_map=[2147483647]>" (type K.Partition S.F32 false false [] [] (pos 2147483647 ∷ []) (pos 2147483647 ∷ []) [] (pos 0) P.Absent 0 0 0 0) ∷
    row "partition_view<tile=(2147483648), tensor_view<f32>, dim_map=[2147483648]>" (type K.Partition S.F32 false false [] [] (pos 1 ∷ []) (pos 0 ∷ []) [] (pos 0) P.Absent 0 1 1 0) ∷
    row "partition_view<tile=(-2147483648), tensor_view<f32>, dim_map=[-2147483648]>" (type K.Partition S.F32 false false [] [] (negsuc 2147483647 ∷ []) (negsuc 2147483647 ∷ []) [] (pos 0) P.Absent 0 0 0 0) ∷
    row "partition_view<tile=(-2147483649), tensor_view<f32>, dim_map=[-2147483649]>" (type K.Partition S.F32 false false [] [] (pos 1 ∷ []) (pos 0 ∷ []) [] (pos 0) P.Absent 0 1 1 0) ∷
    row "partition_view<tile=(+2147483647x+2147483648), tensor_view<f32>, dim_map=[+0,-0]>" (type K.Partition S.F32 false false [] [] (pos 2147483647 ∷ pos 1 ∷ []) (pos 0 ∷ pos 0 ∷ []) [] (pos 0) P.Absent 0 1 0 0) ∷
    row "partition_view<tile=(4294967297), tensor_view<f32>, dim_map=[4294967296]>" (type K.Partition S.F32 false false [] [] (pos 1 ∷ []) (pos 0 ∷ []) [] (pos 0) P.Absent 0 1 1 0) ∷
    row "partition_view<tile=(?), tensor_view<f32>, dim_map=[?]>" (type K.Partition S.F32 false false [] [] (pos 1 ∷ []) (pos 0 ∷ []) [] (pos 0) P.Absent 0 1 1 0) ∷
    row "partition_view<tile=(0002147483647), tensor_view<f32>, dim_map=[-0002147483648]>" (type K.Partition S.F32 false false [] [] (pos 2147483647 ∷ []) (negsuc 2147483647 ∷ []) [] (pos 0) P.Absent 0 0 0 0) ∷
    row "strided_view<tile=(1), traversal_strides=[2147483647,2147483648], tensor_view<f32>, dim_map=[0]>" (type K.Strided S.F32 false false [] [] (pos 1 ∷ []) (pos 0 ∷ []) (pos 2147483647 ∷ pos 0 ∷ []) (pos 0) P.Absent 0 0 1 0) ∷
    row "strided_view<tile=(1), traversal_strides=[-2147483648,-2147483649], tensor_view<f32>, dim_map=[0]>" (type K.Strided S.F32 false false [] [] (pos 1 ∷ []) (pos 0 ∷ []) (negsuc 2147483647 ∷ pos 0 ∷ []) (pos 0) P.Absent 0 0 1 0) ∷
    row "gather_scatter_view<tile=(1), tensor_view<f32>, sparse_dim=2147483647>" (type K.GatherScatter S.F32 false false [] [] (pos 1 ∷ []) [] [] (pos 2147483647) P.Absent 0 0 0 0) ∷
    row "gather_scatter_view<tile=(1), tensor_view<f32>, sparse_dim=2147483648>" (type K.GatherScatter S.F32 false false [] [] (pos 1 ∷ []) [] [] (pos 0) P.Absent 0 0 1 0) ∷
    row "gather_scatter_view<tile=(1), tensor_view<f32>, sparse_dim=-2147483648>" (type K.GatherScatter S.F32 false false [] [] (pos 1 ∷ []) [] [] (negsuc 2147483647) P.Absent 0 0 0 0) ∷
    row "gather_scatter_view<tile=(1), tensor_view<f32>, sparse_dim=-2147483649>" (type K.GatherScatter S.F32 false false [] [] (pos 1 ∷ []) [] [] (pos 0) P.Absent 0 0 1 0) ∷
    row "gather_scatter_view<tile=(1), tensor_view<f32>, sparse_dim=+>" (type K.GatherScatter S.F32 false false [] [] (pos 1 ∷ []) [] [] (pos 0) P.Absent 0 0 1 0) ∷
    row "i1" (type K.Scalar S.I1 false false [] [] [] [] [] (pos 0) P.Absent 0 0 0 0) ∷
    row "i4" (type K.Scalar S.I4 false false [] [] [] [] [] (pos 0) P.Absent 0 0 0 0) ∷
    row "i8" (type K.Scalar S.I8 false false [] [] [] [] [] (pos 0) P.Absent 0 0 0 0) ∷
    row "i16" (type K.Scalar S.I16 false false [] [] [] [] [] (pos 0) P.Absent 0 0 0 0) ∷
    row "i32" (type K.Scalar S.I32 false false [] [] [] [] [] (pos 0) P.Absent 0 0 0 0) ∷
    row "i64" (type K.Scalar S.I64 false false [] [] [] [] [] (pos 0) P.Absent 0 0 0 0) ∷
    row "f16" (type K.Scalar S.F16 false false [] [] [] [] [] (pos 0) P.Absent 0 0 0 0) ∷
    row "bf16" (type K.Scalar S.BF16 false false [] [] [] [] [] (pos 0) P.Absent 0 0 0 0) ∷
    row "f32" (type K.Scalar S.F32 false false [] [] [] [] [] (pos 0) P.Absent 0 0 0 0) ∷
    row "tf32" (type K.Scalar S.TF32 false false [] [] [] [] [] (pos 0) P.Absent 0 0 0 0) ∷
    row "f64" (type K.Scalar S.F64 false false [] [] [] [] [] (pos 0) P.Absent 0 0 0 0) ∷
    row "f8E4M3FN" (type K.Scalar S.F8E4M3FN false false [] [] [] [] [] (pos 0) P.Absent 0 0 0 0) ∷
    row "f8e4m3fn" (type K.Scalar S.F8E4M3FN false false [] [] [] [] [] (pos 0) P.Absent 0 0 0 0) ∷
    row "f8E5M2" (type K.Scalar S.F8E5M2 false false [] [] [] [] [] (pos 0) P.Absent 0 0 0 0) ∷
    row "f8e5m2" (type K.Scalar S.F8E5M2 false false [] [] [] [] [] (pos 0) P.Absent 0 0 0 0) ∷
    row "f8E8M0FNU" (type K.Scalar S.F8E8M0FNU false false [] [] [] [] [] (pos 0) P.Absent 0 0 0 0) ∷
    row "f8e8m0fnu" (type K.Scalar S.F8E8M0FNU false false [] [] [] [] [] (pos 0) P.Absent 0 0 0 0) ∷
    row "f4E2M1FN" (type K.Scalar S.F4E2M1FN false false [] [] [] [] [] (pos 0) P.Absent 0 0 0 0) ∷
    row "f4e2m1fn" (type K.Scalar S.F4E2M1FN false false [] [] [] [] [] (pos 0) P.Absent 0 0 0 0) ∷
    row "f8E5M3FNU" (type K.Scalar S.F8E5M3FNU false false [] [] [] [] [] (pos 0) P.Absent 0 0 0 0) ∷
    row "f8e5m3fnu" (type K.Scalar S.F8E5M3FNU false false [] [] [] [] [] (pos 0) P.Absent 0 0 0 0) ∷
    row "bool" (type K.Scalar S.I1 false false [] [] [] [] [] (pos 0) P.Absent 0 0 0 0) ∷
    row "I1" (refused R.NoType 0) ∷
    row "F32" (refused R.NoType 0) ∷
    row "BF16" (refused R.NoType 0) ∷
    row "Bool" (refused R.NoType 0) ∷
    row "BOOL" (refused R.NoType 0) ∷
    row "f8E4m3FN" (refused R.NoType 0) ∷
    row "f8e4M3fn" (refused R.NoType 0) ∷
    row "F8E4M3FN" (refused R.NoType 0) ∷
    row "F8e4m3fn" (refused R.NoType 0) ∷
    row "f8E5M2FN" (refused R.NoType 0) ∷
    row "f8e5m" (refused R.NoType 0) ∷
    row "f8E8M0FN" (refused R.NoType 0) ∷
    row "f4E2M1" (refused R.NoType 0) ∷
    row "f8" (refused R.NoType 0) ∷
    row "i2" (refused R.NoType 0) ∷
    row "i" (refused R.NoType 0) ∷
    row "f" (refused R.NoType 0) ∷
    row "i128" (refused R.NoType 0) ∷
    row "i1i1" (refused R.NoType 0) ∷
    row "!cuda_tile.f32" (refused R.NoType 0) ∷
    row "f32>" (refused R.NoType 0) ∷
    row "<f32>" (refused R.NoType 0) ∷
    row "ptr<F32>" (refused R.NoType 0) ∷
    row "ptr<bool>" (type K.Pointer S.I1 false false [] [] [] [] [] (pos 0) P.Absent 0 0 0 0) ∷
    row "ptr<f4e2m1fn>" (type K.Pointer S.F4E2M1FN false false [] [] [] [] [] (pos 0) P.Absent 0 0 0 0) ∷
    row "tile<4xBOOL>" (refused R.NoType 0) ∷
    row "tile<f32" (refused R.NoType 0) ∷
    row "tile<" (refused R.NoType 0) ∷
    row "tile<>" (refused R.NoType 0) ∷
    row "tile<<>>" (refused R.NoType 0) ∷
    row "tile<f32>>" (type K.Tile S.F32 false false [] [] [] [] [] (pos 0) P.Absent 0 0 0 0) ∷
    row "tile<f32><" (type K.Tile S.F32 false false [] [] [] [] [] (pos 0) P.Absent 0 0 0 0) ∷
    row "tile<f32>tile<i8>" (type K.Tile S.F32 false false [] [] [] [] [] (pos 0) P.Absent 0 0 0 0) ∷
    row "tile<f32> , dim" (type K.Tile S.F32 false false [] [] [] [] [] (pos 0) P.Absent 0 0 0 0) ∷
    row "tile<<xf32>" (type K.Tile S.F32 false false (DYN ∷ []) [] [] [] [] (pos 0) P.Absent 1 0 0 0) ∷
    row "tile<<xf32>>" (refused R.NoType 0) ∷
    row "tile<><xf32>" (refused R.NoType 0) ∷
    row "tile<<<xf32>" (type K.Tile S.F32 false false (DYN ∷ []) [] [] [] [] (pos 0) P.Absent 1 0 0 0) ∷
    row "tile<<xf32" (refused R.NoType 0) ∷
    row "tile<<xf32> " (type K.Tile S.F32 false false (DYN ∷ []) [] [] [] [] (pos 0) P.Absent 1 0 0 0) ∷
    row "tile<<xf32>a" (refused R.NoType 0) ∷
    row "tile<a>xf32>" (refused R.NoType 0) ∷
    row "tile<a<b>cxf32>" (type K.Tile S.F32 false false (DYN ∷ []) [] [] [] [] (pos 0) P.Absent 1 0 0 0) ∷
    row "tile<a<b>c>xf32>" (refused R.NoType 0) ∷
    row "ptr<f32>>" (type K.Pointer S.F32 false false [] [] [] [] [] (pos 0) P.Absent 0 0 0 0) ∷
    row "ptr<f32" (refused R.NoType 0) ∷
    row "ptr<<f32>" (refused R.NoType 0) ∷
    row "ptr<>" (refused R.NoType 0) ∷
    row "ptr<" (refused R.NoType 0) ∷
    row "ptr" (refused R.NoType 0) ∷
    []
