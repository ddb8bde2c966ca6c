-- Part 6 of the recorded list: texts with the Rust's answers, and counts worked out apart. Written by `oracle table`.
use mathlib.Core.List.{List, [], ◌∷◌}
use lib.IntN.{pos, negsuc}
use Rattle.meaning.proofs.Answers.{Row, row, refused, type, DYN}
use Rattle.meaning.specs.declared.Kind.TheVariants as K
use Rattle.scalars.specs.declared.scalar.Scalar.TheVariants as S
use Rattle.meaning.specs.declared.Padding.TheVariants as P
use Rattle.meaning.specs.declared.Refusal.TheVariants as R
use mathlib.Core.Bool.{true, false}

abbrev pub part_6 : List Row
part_6 =
    row "token,, #cuda_tile.ptr_attr<none> #cuda_tile.ptr_attr<none>" (type K.Token S.I1 false true [] [] [] [] [] (pos 0) P.Absent 0 0 0 0) ∷
    row "token, #cuda_tile.ptr_attr<none, #cuda_tile.ptr_attr<none>>" (type K.Token S.I1 false true [] [] [] [] [] (pos 0) P.Absent 0 0 0 0) ∷
    row "token, #cuda_tile.ptr_attr<none, #cuda_tile.ptr_attr<none>>, #cuda_tile.ptr_attr<none>" (type K.Token S.I1 false true [] [] [] [] [] (pos 0) P.Absent 0 0 0 0) ∷
    row "token, #cuda_tile., #cuda_tile., #cuda_tile.ptr_attr<none>ptr_attr<none>ptr_attr<none>" (type K.Token S.I1 false true [] [] [] [] [] (pos 0) P.Absent 0 0 0 0) ∷
    row "token, #cuda_tile.ptr_attr<none>>" (refused R.NoType 0) ∷
    row "tok\u{b}, #cuda_tile.ptr_attr<none>en" (refused R.NoType 0) ∷
    row "token \u{b}, #cuda_tile.ptr_attr<none> " (type K.Token S.I1 false true [] [] [] [] [] (pos 0) P.Absent 0 0 0 0) ∷
    row "token , #cuda_tile.ptr_attr<none>junk" (refused R.NoType 0) ∷
    row ", #cuda_tile.ptr_attr<none>, #cuda_tile.ptr_attr<none>" (refused R.NoType 0) ∷
    row ", #cuda_tile.ptr_attr<none> " (refused R.NoType 0) ∷
    row ", #cuda_tile.ptr_attr<none" (refused R.NoType 0) ∷
    row "tile<1, #cuda_tile.ptr_attr<none>6xf32>" (type K.Tile S.F32 false true (pos 16 ∷ []) [] [] [] [] (pos 0) P.Absent 0 0 0 0) ∷
    row "tile, #cuda_tile.ptr_attr<none><4xf32>" (type K.Tile S.F32 false true (pos 4 ∷ []) [] [] [] [] (pos 0) P.Absent 0 0 0 0) ∷
    row "tensor_view<f32, stri, #cuda_tile.ptr_attr<none>des=[3]>" (type K.TensorView S.F32 false true [] (pos 3 ∷ []) [] [] [] (pos 0) P.Absent 0 0 0 0) ∷
    row "tensor_view<f32, #cuda_tile.ptr_attr<none>, strides=[3]>" (type K.TensorView S.F32 false true [] (pos 3 ∷ []) [] [] [] (pos 0) P.Absent 0 0 0 0) ∷
    row "tensor_view<f32,, #cuda_tile.ptr_attr<none>strides=[3]>" (type K.TensorView S.F32 false true [] (pos 3 ∷ []) [] [] [] (pos 0) P.Absent 0 0 0 0) ∷
    row "tile<q, #cuda_tile.ptr_attr<none>>" (refused R.NoType 0) ∷
    row "tile<4xptr<f32, #cuda_tile.ptr_attr<none>" (refused R.NoType 0) ∷
    row "partition_view<tile=(2), tensor_view<4xf32, strides=[1], #cuda_tile.ptr_attr<none>>, dim_map=[0]>" (type K.Partition S.F32 false true (pos 4 ∷ []) (pos 1 ∷ []) (pos 2 ∷ []) (pos 0 ∷ []) [] (pos 0) P.Absent 0 0 0 0) ∷
    row "partition_view<tile=(2), padding_value=neg_, #cuda_tile.ptr_attr<none>zero, tensor_view<f32>>" (type K.Partition S.F32 false true [] [] (pos 2 ∷ []) (pos 0 ∷ []) [] (pos 0) P.NegZero 0 0 0 1) ∷
    row "partition_view<tile=(2), tensor_view<f32>, dim_map=[1, #cuda_tile.ptr_attr<none>0]>" (type K.Partition S.F32 false true [] [] (pos 2 ∷ []) (pos 10 ∷ []) [] (pos 0) P.Absent 0 0 0 0) ∷
    row "partition_view<tile=(2), #cuda_tile.ptr_attr<none>, padding_value=ze, #cuda_tile.ptr_attr<none>ro, tensor_view<f32>>" (type K.Partition S.F32 false true [] [] (pos 2 ∷ []) (pos 0 ∷ []) [] (pos 0) P.Zero 0 0 0 1) ∷
    row "gather_scatter_view<tile=(2), tensor_view<f32>, sparse_dim=1, #cuda_tile.ptr_attr<none>2>" (type K.GatherScatter S.F32 false true [] [] (pos 2 ∷ []) [] [] (pos 12) P.Absent 0 0 0 0) ∷
    row "ptr<i8>, #cuda_tile.ptr_attr<none>" (type K.Pointer S.I8 false true [] [] [] [] [] (pos 0) P.Absent 0 0 0 0) ∷
    row "tile<xptr<i8>, #cuda_tile.ptr_attr<none>x>" (type K.Tile S.I8 true true (DYN ∷ []) [] [] [] [] (pos 0) P.Absent 1 0 0 0) ∷
    row "token" (type K.Token S.I1 false false [] [] [] [] [] (pos 0) P.Absent 0 0 0 0) ∷
    row "!cuda_tile.token" (type K.Token S.I1 false false [] [] [] [] [] (pos 0) P.Absent 0 0 0 0) ∷
    row "token " (type K.Token S.I1 false false [] [] [] [] [] (pos 0) P.Absent 0 0 0 0) ∷
    row "token>" (refused R.NoType 0) ∷
    row "token<>" (refused R.NoType 0) ∷
    row "Token" (refused R.NoType 0) ∷
    row "!cuda_tile.!cuda_tile.token" (refused R.NoType 0) ∷
    row "cuda_tile.token" (refused R.NoType 0) ∷
    row "!cuda_tile." (refused R.NoType 0) ∷
    row "!cuda_tile" (refused R.NoType 0) ∷
    row "!cuda_tile.!cuda_tile.ptr<f32>" (refused R.NoType 0) ∷
    row "!cuda_tile.ptr<!cuda_tile.ptr<f32>>" (refused R.NoType 0) ∷
    row "!cuda_tile.partition_view<tile=(2), tensor_view<f32>>" (type K.Partition S.F32 false false [] [] (pos 2 ∷ []) (pos 0 ∷ []) [] (pos 0) P.Absent 0 0 0 1) ∷
    row "partition_view <tile=(2), tensor_view<f32>>" (refused R.NoType 0) ∷
    row "!cuda_tile.gather_scatter_view<tile=(2), tensor_view<f32>>" (type K.GatherScatter S.F32 false false [] [] (pos 2 ∷ []) [] [] (pos 0) P.Absent 0 0 0 1) ∷
    row "scatter_view<tile=(2), tensor_view<f32>>" (refused R.NoType 0) ∷
    row "partition_view<q>f32" (refused R.NoType 0) ∷
    row "tile<q>" (refused R.NoType 0) ∷
    row "view<f32>" (refused R.NoType 0) ∷
    row "func<f32>" (refused R.NoType 0) ∷
    row "x" (refused R.NoType 0) ∷
    row "?" (refused R.NoType 0) ∷
    row "4" (refused R.NoType 0) ∷
    row "<" (refused R.NoType 0) ∷
    row ">" (refused R.NoType 0) ∷
    row "\\" (refused R.NoType 0) ∷
    row "\"f32\"" (refused R.NoType 0) ∷
    row "f32\\x20" (refused R.NoType 0) ∷
    row "\"\\u{41}" (refused R.NoType 0) ∷
    row "f32\nf32" (refused R.NoType 0) ∷
    row "tile<\\xf32>" (type K.Tile S.F32 false false (DYN ∷ []) [] [] [] [] (pos 0) P.Absent 1 0 0 0) ∷
    row "\u{80}" (refused R.HighByte 0) ∷
    row "ÿ" (refused R.HighByte 0) ∷
    row "f32\u{80}" (refused R.HighByte 3) ∷
    row "\u{80}f32" (refused R.HighByte 0) ∷
    row "  \u{a0}f32" (refused R.HighByte 2) ∷
    row "f32Â\u{a0}" (refused R.HighByte 3) ∷
    row "Â\u{85}f32" (refused R.HighByte 0) ∷
    row "f32\u{85} " (refused R.HighByte 3) ∷
    row "tile<4éxf32>" (refused R.HighByte 6) ∷
    row "tile<f32>é" (refused R.HighByte 9) ∷
    row "tile<1x1x1x1x1x1x1x1x1xf32>éê" (refused R.HighByte 27) ∷
    row "junkð\u{9f}\u{98}\u{80}" (refused R.HighByte 4) ∷
    row "ptr<f32, #cuda_tile.ptr_attr<none>ÿ>" (refused R.HighByte 34) ∷
    row "tile<Ù¡xf32>" (refused R.HighByte 5) ∷
    row "\u{7f}\u{80}" (refused R.HighByte 1) ∷
    row "tile<1x1x1x1x1x1x1x1xptr<f32>>" (type K.Tile S.F32 true false (pos 1 ∷ pos 1 ∷ pos 1 ∷ pos 1 ∷ pos 1 ∷ pos 1 ∷ pos 1 ∷ pos 1 ∷ []) [] [] [] [] (pos 0) P.Absent 0 0 0 0) ∷
    row "tensor_view<1x1x1x1x1x1x1x1xf32>" (type K.TensorView S.F32 false false (pos 1 ∷ pos 1 ∷ pos 1 ∷ pos 1 ∷ pos 1 ∷ pos 1 ∷ pos 1 ∷ pos 1 ∷ []) (DYN ∷ DYN ∷ DYN ∷ DYN ∷ DYN ∷ DYN ∷ DYN ∷ DYN ∷ []) [] [] [] (pos 0) P.Absent 0 0 0 1) ∷
    row "tensor_view<f32, strides=[1,1,1,1,1,1,1,1]>" (type K.TensorView S.F32 false false [] (pos 1 ∷ pos 1 ∷ pos 1 ∷ pos 1 ∷ pos 1 ∷ pos 1 ∷ pos 1 ∷ pos 1 ∷ []) [] [] [] (pos 0) P.Absent 0 0 0 0) ∷
    row "partition_view<tile=(1x1x1x1x1x1x1x1), tensor_view<f32>>" (type K.Partition S.F32 false false [] [] (pos 1 ∷ pos 1 ∷ pos 1 ∷ pos 1 ∷ pos 1 ∷ pos 1 ∷ pos 1 ∷ pos 1 ∷ []) (pos 0 ∷ pos 1 ∷ pos 2 ∷ pos 3 ∷ pos 4 ∷ pos 5 ∷ pos 6 ∷ pos 7 ∷ []) [] (pos 0) P.Absent 0 0 0 1) ∷
    row "gather_scatter_view<tile=(1,1,1,1,1,1,1,1), tensor_view<f32>>" (type K.GatherScatter S.F32 false false [] [] (pos 1 ∷ pos 1 ∷ pos 1 ∷ pos 1 ∷ pos 1 ∷ pos 1 ∷ pos 1 ∷ pos 1 ∷ []) [] [] (pos 0) P.Absent 0 0 0 1) ∷
    row "partition_view<tile=(1), tensor_view<f32>, dim_map=[1,1,1,1,1,1,1,1]>" (type K.Partition S.F32 false false [] [] (pos 1 ∷ []) (pos 1 ∷ pos 1 ∷ pos 1 ∷ pos 1 ∷ pos 1 ∷ pos 1 ∷ pos 1 ∷ pos 1 ∷ []) [] (pos 0) P.Absent 0 0 0 0) ∷
    row "strided_view<tile=(1), traversal_strides=[1,1,1,1,1,1,1,1], tensor_view<f32>>" (type K.Strided S.F32 false false [] [] (pos 1 ∷ []) (pos 0 ∷ []) (pos 1 ∷ pos 1 ∷ pos 1 ∷ pos 1 ∷ pos 1 ∷ pos 1 ∷ pos 1 ∷ pos 1 ∷ []) (pos 0) P.Absent 0 0 0 1) ∷
    row "strided_view<tile=(1), tensor_view<1x1x1x1x1x1x1x1xf32, strides=[1]>, dim_map=[0]>" (type K.Strided S.F32 false false (pos 1 ∷ pos 1 ∷ pos 1 ∷ pos 1 ∷ pos 1 ∷ pos 1 ∷ pos 1 ∷ pos 1 ∷ []) (pos 1 ∷ []) (pos 1 ∷ []) (pos 0 ∷ []) (pos 1 ∷ []) (pos 0) P.Absent 0 0 0 1) ∷
    row "tile<1x1x1x1x1x1x1x1x1xptr<f32>>" (refused R.TooMany 0) ∷
    row "tensor_view<1x1x1x1x1x1x1x1x1xf32>" (refused R.TooMany 0) ∷
    row "tensor_view<f32, strides=[1,1,1,1,1,1,1,1,1]>" (refused R.TooMany 0) ∷
    row "partition_view<tile=(1x1x1x1x1x1x1x1x1), tensor_view<f32>>" (refused R.TooMany 0) ∷
    row "gather_scatter_view<tile=(1,1,1,1,1,1,1,1,1), tensor_view<f32>>" (refused R.TooMany 0) ∷
    row "partition_view<tile=(1), tensor_view<f32>, dim_map=[1,1,1,1,1,1,1,1,1]>" (refused R.TooMany 0) ∷
    row "strided_view<tile=(1), traversal_strides=[1,1,1,1,1,1,1,1,1], tensor_view<f32>>" (refused R.TooMany 0) ∷
    row "strided_view<tile=(1), tensor_view<1x1x1x1x1x1x1x1x1xf32, strides=[1]>, dim_map=[0]>" (refused R.TooMany 0) ∷
    row "tile<1x1x1x1x1x1x1x1x1x1x1x1x1x1x1x1x1xptr<f32>>" (refused R.TooMany 0) ∷
    row "tensor_view<1x1x1x1x1x1x1x1x1x1x1x1x1x1x1x1x1xf32>" (refused R.TooMany 0) ∷
    []
