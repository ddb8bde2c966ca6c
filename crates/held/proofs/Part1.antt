-- Part 1 of the recorded list: texts with the Rust's answers, and counts worked out apart. Written by `oracle table`.
use mathlib.Core.List.{List, [], ◌∷◌}
use lib.IntN.{pos, negsuc}
use Rattle.meaning.proofs.Answers.{Row, row, refused, type, DYN}
use Rattle.meaning.specs.declared.Kind.TheVariants as K
use Rattle.scalars.specs.declared.scalar.Scalar.TheVariants as S
use Rattle.meaning.specs.declared.Padding.TheVariants as P
use Rattle.meaning.specs.declared.Refusal.TheVariants as R
use mathlib.Core.Bool.{true, false}

abbrev pub part_1 : List Row
part_1 =
    row "tile<f32>junk" (type K.Tile S.F32 false false [] [] [] [] [] (pos 0) P.Absent 0 0 0 0) ∷
    row "tile<f<xf32>" (type K.Tile S.F32 false false (DYN ∷ []) [] [] [] [] (pos 0) P.Absent 1 0 0 0) ∷
    row "tile<xxf32>" (type K.Tile S.F32 false false (DYN ∷ DYN ∷ []) [] [] [] [] (pos 0) P.Absent 2 0 0 0) ∷
    row "tile<xxptr<f32>>" (type K.Tile S.F32 true false (DYN ∷ []) [] [] [] [] (pos 0) P.Absent 1 0 0 0) ∷
    row "tile<4x !cuda_tile.ptr<f32>>" (type K.Tile S.F32 true false (pos 4 ∷ DYN ∷ []) [] [] [] [] (pos 0) P.Absent 1 0 0 0) ∷
    row "tensor_view<f32, strides=[]>" (type K.TensorView S.F32 false false [] (DYN ∷ []) [] [] [] (pos 0) P.Absent 1 0 0 0) ∷
    row "tensor_view<4xf32>" (type K.TensorView S.F32 false false (pos 4 ∷ []) (DYN ∷ []) [] [] [] (pos 0) P.Absent 0 0 0 1) ∷
    row "partition_view<tile=(), tensor_view<f32>>" (type K.Partition S.F32 false false [] [] (pos 1 ∷ []) (pos 0 ∷ []) [] (pos 0) P.Absent 0 1 0 1) ∷
    row "gather_scatter_view<tile=(2), tensor_view<4xf32, strides=[1]>, sparse_dim=one>" (type K.GatherScatter S.F32 false false (pos 4 ∷ []) (pos 1 ∷ []) (pos 2 ∷ []) [] [] (pos 0) P.Absent 0 0 1 0) ∷
    row "token, #cuda_tile.ptr_a, #cuda_tile.ptr_attr<none>ttr<none>" (type K.Token S.I1 false true [] [] [] [] [] (pos 0) P.Absent 0 0 0 0) ∷
    row ", #cuda_tile.ptr_attr<none>" (refused R.NoType 0) ∷
    row "tile<-9223372036854775808xf32>" (type K.Tile S.F32 false false (DYN ∷ []) [] [] [] [] (pos 0) P.Absent 0 0 0 0) ∷
    row "tile<1x1x1x1x1x1x1x1xf32>" (type K.Tile S.F32 false false (pos 1 ∷ pos 1 ∷ pos 1 ∷ pos 1 ∷ pos 1 ∷ pos 1 ∷ pos 1 ∷ pos 1 ∷ []) [] [] [] [] (pos 0) P.Absent 0 0 0 0) ∷
    row "tile<1x1x1x1x1x1x1x1x1xf32>" (refused R.TooMany 0) ∷
    row "" (refused R.NoType 0) ∷
    row "partition_view<tile=(4x8), tensor_view<?x16xf32, strides=[16, 1]>, dim_map=[1,0]>" (type K.Partition S.F32 false false (DYN ∷ pos 16 ∷ []) (pos 16 ∷ pos 1 ∷ []) (pos 4 ∷ pos 8 ∷ []) (pos 1 ∷ pos 0 ∷ []) [] (pos 0) P.Absent 0 0 0 0) ∷
    row "!cuda_tile.partition_view<tile=(4x8), tensor_view<?x16xf32, strides=[16,1]>, dim_map=[1,0]>" (type K.Partition S.F32 false false (DYN ∷ pos 16 ∷ []) (pos 16 ∷ pos 1 ∷ []) (pos 4 ∷ pos 8 ∷ []) (pos 1 ∷ pos 0 ∷ []) [] (pos 0) P.Absent 0 0 0 0) ∷
    row " f32" (type K.Scalar S.F32 false false [] [] [] [] [] (pos 0) P.Absent 0 0 0 0) ∷
    row "f32 " (type K.Scalar S.F32 false false [] [] [] [] [] (pos 0) P.Absent 0 0 0 0) ∷
    row "\tf32" (type K.Scalar S.F32 false false [] [] [] [] [] (pos 0) P.Absent 0 0 0 0) ∷
    row "\nf32" (type K.Scalar S.F32 false false [] [] [] [] [] (pos 0) P.Absent 0 0 0 0) ∷
    row "\u{b}f32" (type K.Scalar S.F32 false false [] [] [] [] [] (pos 0) P.Absent 0 0 0 0) ∷
    row "\u{c}f32" (type K.Scalar S.F32 false false [] [] [] [] [] (pos 0) P.Absent 0 0 0 0) ∷
    row "\rf32" (type K.Scalar S.F32 false false [] [] [] [] [] (pos 0) P.Absent 0 0 0 0) ∷
    row "f32\u{b}" (type K.Scalar S.F32 false false [] [] [] [] [] (pos 0) P.Absent 0 0 0 0) ∷
    row "\t\n\u{b}\u{c}\r i1 \r\u{c}\u{b}\n\t" (type K.Scalar S.I1 false false [] [] [] [] [] (pos 0) P.Absent 0 0 0 0) ∷
    row "\u{8}f32" (refused R.NoType 0) ∷
    row "\u{e}f32" (refused R.NoType 0) ∷
    row "f32\u{8}" (refused R.NoType 0) ∷
    row "f32\u{e}" (refused R.NoType 0) ∷
    row "\u{1c}f32" (refused R.NoType 0) ∷
    row "f32\u{1f}" (refused R.NoType 0) ∷
    row "\0f32" (refused R.NoType 0) ∷
    row "f32\0" (refused R.NoType 0) ∷
    row "f32\u{7f}" (refused R.NoType 0) ∷
    row " " (refused R.NoType 0) ∷
    row "\u{b}" (refused R.NoType 0) ∷
    row "  \u{c}\r " (refused R.NoType 0) ∷
    row "f 32" (refused R.NoType 0) ∷
    row "\u{b}tile<4xf32>\u{b}" (type K.Tile S.F32 false false (pos 4 ∷ []) [] [] [] [] (pos 0) P.Absent 0 0 0 0) ∷
    row "tile <4xf32>" (refused R.NoType 0) ∷
    row "tile< 4 x\u{b}f32\u{b}>" (type K.Tile S.F32 false false (pos 4 ∷ []) [] [] [] [] (pos 0) P.Absent 0 0 0 0) ∷
    row "tile<\u{b}4\u{b}xf32>" (type K.Tile S.F32 false false (pos 4 ∷ []) [] [] [] [] (pos 0) P.Absent 0 0 0 0) ∷
    row "tile<4\u{e}xf32>" (type K.Tile S.F32 false false (DYN ∷ []) [] [] [] [] (pos 0) P.Absent 1 0 0 0) ∷
    row "tile<\u{8}4xf32>" (type K.Tile S.F32 false false (DYN ∷ []) [] [] [] [] (pos 0) P.Absent 1 0 0 0) ∷
    row "ptr<\u{c} i8 \r>" (type K.Pointer S.I8 false false [] [] [] [] [] (pos 0) P.Absent 0 0 0 0) ∷
    row "ptr<i8\u{1d}>" (refused R.NoType 0) ∷
    row " token " (type K.Token S.I1 false false [] [] [] [] [] (pos 0) P.Absent 0 0 0 0) ∷
    row "to ken" (refused R.NoType 0) ∷
    row "!cuda_tile. token" (refused R.NoType 0) ∷
    row "! cuda_tile.token" (refused R.NoType 0) ∷
    row "tile<9223372036854775807xf32>" (type K.Tile S.F32 false false (pos 9223372036854775807 ∷ []) [] [] [] [] (pos 0) P.Absent 0 0 0 0) ∷
    row "tile<9223372036854775808xf32>" (type K.Tile S.F32 false false (DYN ∷ []) [] [] [] [] (pos 0) P.Absent 1 0 0 0) ∷
    row "tile<+9223372036854775807xf32>" (type K.Tile S.F32 false false (pos 9223372036854775807 ∷ []) [] [] [] [] (pos 0) P.Absent 0 0 0 0) ∷
    row "tile<+9223372036854775808xf32>" (type K.Tile S.F32 false false (DYN ∷ []) [] [] [] [] (pos 0) P.Absent 1 0 0 0) ∷
    row "tile<-9223372036854775807xf32>" (type K.Tile S.F32 false false (negsuc 9223372036854775806 ∷ []) [] [] [] [] (pos 0) P.Absent 0 0 0 0) ∷
    row "tile<-9223372036854775809xf32>" (type K.Tile S.F32 false false (DYN ∷ []) [] [] [] [] (pos 0) P.Absent 1 0 0 0) ∷
    row "tile<-09223372036854775808xf32>" (type K.Tile S.F32 false false (DYN ∷ []) [] [] [] [] (pos 0) P.Absent 0 0 0 0) ∷
    row "tile<009223372036854775807xf32>" (type K.Tile S.F32 false false (pos 9223372036854775807 ∷ []) [] [] [] [] (pos 0) P.Absent 0 0 0 0) ∷
    row "tile<18446744073709551616xf32>" (type K.Tile S.F32 false false (DYN ∷ []) [] [] [] [] (pos 0) P.Absent 1 0 0 0) ∷
    row "tile<-18446744073709551616xf32>" (type K.Tile S.F32 false false (DYN ∷ []) [] [] [] [] (pos 0) P.Absent 1 0 0 0) ∷
    row "tile<18446744073709551620xf32>" (type K.Tile S.F32 false false (DYN ∷ []) [] [] [] [] (pos 0) P.Absent 1 0 0 0) ∷
    row "tile<99999999999999999999xf32>" (type K.Tile S.F32 false false (DYN ∷ []) [] [] [] [] (pos 0) P.Absent 1 0 0 0) ∷
    row "tile<00000000000000000000000000000000000007xf32>" (type K.Tile S.F32 false false (pos 7 ∷ []) [] [] [] [] (pos 0) P.Absent 0 0 0 0) ∷
    row "tile<2147483648xf32>" (type K.Tile S.F32 false false (pos 2147483648 ∷ []) [] [] [] [] (pos 0) P.Absent 0 0 0 0) ∷
    row "tile<+xf32>" (type K.Tile S.F32 false false (DYN ∷ []) [] [] [] [] (pos 0) P.Absent 1 0 0 0) ∷
    row "tile<-xf32>" (type K.Tile S.F32 false false (DYN ∷ []) [] [] [] [] (pos 0) P.Absent 1 0 0 0) ∷
    row "tile<+4xf32>" (type K.Tile S.F32 false false (pos 4 ∷ []) [] [] [] [] (pos 0) P.Absent 0 0 0 0) ∷
    row "tile<-4xf32>" (type K.Tile S.F32 false false (negsuc 3 ∷ []) [] [] [] [] (pos 0) P.Absent 0 0 0 0) ∷
    row "tile<-0xf32>" (type K.Tile S.F32 false false (pos 0 ∷ []) [] [] [] [] (pos 0) P.Absent 0 0 0 0) ∷
    row "tile<+0xf32>" (type K.Tile S.F32 false false (pos 0 ∷ []) [] [] [] [] (pos 0) P.Absent 0 0 0 0) ∷
    row "tile<00xf32>" (type K.Tile S.F32 false false (pos 0 ∷ []) [] [] [] [] (pos 0) P.Absent 0 0 0 0) ∷
    row "tile<+-4xf32>" (type K.Tile S.F32 false false (DYN ∷ []) [] [] [] [] (pos 0) P.Absent 1 0 0 0) ∷
    row "tile<--4xf32>" (type K.Tile S.F32 false false (DYN ∷ []) [] [] [] [] (pos 0) P.Absent 1 0 0 0) ∷
    row "tile<4+xf32>" (type K.Tile S.F32 false false (DYN ∷ []) [] [] [] [] (pos 0) P.Absent 1 0 0 0) ∷
    row "tile<- 4xf32>" (type K.Tile S.F32 false false (DYN ∷ []) [] [] [] [] (pos 0) P.Absent 1 0 0 0) ∷
    row "tile<+ 4xf32>" (type K.Tile S.F32 false false (DYN ∷ []) [] [] [] [] (pos 0) P.Absent 1 0 0 0) ∷
    row "tile<4 4xf32>" (type K.Tile S.F32 false false (DYN ∷ []) [] [] [] [] (pos 0) P.Absent 1 0 0 0) ∷
    row "tile<?xf32>" (type K.Tile S.F32 false false (DYN ∷ []) [] [] [] [] (pos 0) P.Absent 0 0 0 0) ∷
    row "tile< ? xf32>" (type K.Tile S.F32 false false (DYN ∷ []) [] [] [] [] (pos 0) P.Absent 0 0 0 0) ∷
    row "tile<??xf32>" (type K.Tile S.F32 false false (DYN ∷ []) [] [] [] [] (pos 0) P.Absent 1 0 0 0) ∷
    row "tile<+?xf32>" (type K.Tile S.F32 false false (DYN ∷ []) [] [] [] [] (pos 0) P.Absent 1 0 0 0) ∷
    row "tile<?4xf32>" (type K.Tile S.F32 false false (DYN ∷ []) [] [] [] [] (pos 0) P.Absent 1 0 0 0) ∷
    row "tile<4_0xf32>" (type K.Tile S.F32 false false (DYN ∷ []) [] [] [] [] (pos 0) P.Absent 1 0 0 0) ∷
    row "tile<0x10xf32>" (type K.Tile S.F32 false false (pos 0 ∷ pos 10 ∷ []) [] [] [] [] (pos 0) P.Absent 0 0 0 0) ∷
    row "tile<4/xf32>" (type K.Tile S.F32 false false (DYN ∷ []) [] [] [] [] (pos 0) P.Absent 1 0 0 0) ∷
    row "tile<4:xf32>" (type K.Tile S.F32 false false (DYN ∷ []) [] [] [] [] (pos 0) P.Absent 1 0 0 0) ∷
    row "tile<1e3xf32>" (type K.Tile S.F32 false false (DYN ∷ []) [] [] [] [] (pos 0) P.Absent 1 0 0 0) ∷
    row "tile< xf32>" (type K.Tile S.F32 false false (DYN ∷ []) [] [] [] [] (pos 0) P.Absent 1 0 0 0) ∷
    []
