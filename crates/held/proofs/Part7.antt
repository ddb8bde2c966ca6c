-- Part 7 of the recorded list: texts with the Rust's answers, and counts worked out apart. Written by `oracle table`.
use mathlib.Core.List.{List, [], ◌∷◌}
use lib.IntN.{pos, negsuc}
use Rattle.meaning.proofs.Answers.{Row, row, refused, type, DYN}
use Rattle.meaning.specs.declared.Kind.TheVariants as K
use Rattle.scalars.specs.declared.scalar.Scalar.TheVariants as S
use Rattle.meaning.specs.declared.Padding.TheVariants as P
use Rattle.meaning.specs.declared.Refusal.TheVariants as R
use mathlib.Core.Bool.{true, false}

abbrev pub part_7 : List Row
part_7 =
    row "tensor_view<f32, strides=[1,1,1,1,1,1,1,1,1,1,1,1,1,1,1,1,1]>" (refused R.TooMany 0) ∷
    row "partition_view<tile=(1x1x1x1x1x1x1x1x1x1x1x1x1x1x1x1x1), tensor_view<f32>>" (refused R.TooMany 0) ∷
    row "gather_scatter_view<tile=(1,1,1,1,1,1,1,1,1,1,1,1,1,1,1,1,1), tensor_view<f32>>" (refused R.TooMany 0) ∷
    row "partition_view<tile=(1), tensor_view<f32>, dim_map=[1,1,1,1,1,1,1,1,1,1,1,1,1,1,1,1,1]>" (refused R.TooMany 0) ∷
    row "strided_view<tile=(1), traversal_strides=[1,1,1,1,1,1,1,1,1,1,1,1,1,1,1,1,1], tensor_view<f32>>" (refused R.TooMany 0) ∷
    row "strided_view<tile=(1), tensor_view<1x1x1x1x1x1x1x1x1x1x1x1x1x1x1x1x1xf32, strides=[1]>, dim_map=[0]>" (refused R.TooMany 0) ∷
    row "tile<xxxxxxxxx>" (refused R.NoType 0) ∷
    row "tile<xxxxxxxxxf32>" (refused R.TooMany 0) ∷
    row "tile<xxxxxxxxxptr<f32>>" (type K.Tile S.F32 true false (DYN ∷ []) [] [] [] [] (pos 0) P.Absent 1 0 0 0) ∷
    row "partition_view<tile=(1x1x1x1x1x1x1x1x1), tensor_view<F32>>" (refused R.NoType 0) ∷
    row "partition_view<tile=(1x1x1x1x1x1x1x1x1), tensor_view<f32>, dim_map=[>" (refused R.NoType 0) ∷
    row "token, #cuda_tile., #cuda_tile., #cuda_tile., #cuda_tile., #cuda_tile., #cuda_tile., #cuda_tile., #cuda_tile., #cuda_tile., #cuda_tile., #cuda_tile.ptr_attr<none>ptr_attr<none>ptr_attr<none>ptr_attr<none>ptr_attr<none>ptr_attr<none>ptr_attr<none>ptr_attr<none>ptr_attr<none>ptr_attr<none>ptr_attr<none>" (type K.Token S.I1 false true [] [] [] [] [] (pos 0) P.Absent 0 0 0 0) ∷
    row "ptr<i8>, , , , , , , , , , , , , , , , , , , , , , #cuda_tile.ptr_attr<none>#cuda_tile.ptr_attr<none>#cuda_tile.ptr_attr<none>#cuda_tile.ptr_attr<none>#cuda_tile.ptr_attr<none>#cuda_tile.ptr_attr<none>#cuda_tile.ptr_attr<none>#cuda_tile.ptr_attr<none>#cuda_tile.ptr_attr<none>#cuda_tile.ptr_attr<none>#cuda_tile.ptr_attr<none>#cuda_tile.ptr_attr<none>#cuda_tile.ptr_attr<none>#cuda_tile.ptr_attr<none>#cuda_tile.ptr_attr<none>#cuda_tile.ptr_attr<none>#cuda_tile.ptr_attr<none>#cuda_tile.ptr_attr<none>#cuda_tile.ptr_attr<none>#cuda_tile.ptr_attr<none>#cuda_tile.ptr_attr<none>#cuda_tile.ptr_attr<none>" (type K.Pointer S.I8 false true [] [] [] [] [] (pos 0) P.Absent 0 0 0 0) ∷
    row "tile<4xf32><<<<<<<<<<<<<<<<<<<<<<<<<<<<<<<<<<<<<<<<<<<<<<<<<<<<<<<<<<<<<<<<<<<<<<<<<<<<<<<<<<<<<<<<<<<<<<<<<<<<<<<<<<<<<<<<<<<<<<<<<<<<<<<<<<<<<<<<<<<<<<<<<<<<<<<<<<<<<<<<<<<<<<<<<<<<<<<<<<<<<<<<<<<<<<<<<<<<<<<<<<<<<<<<<<<<<<<<<<<<<<<<<<<<<<<<<<<<<<<<<<<<<<<<<<<<<<<<<<<<<<<<<<<<<<<<<<<<<<<<<<<<<<<<<<<<<<<<<<<<<<<<<<<<<<<<<<<<<<<<<<<<<<<<<<<<<<<<<<<<<<<<<<<<<<<<<<<<<<<<<<<<<<<<<<<<<<<<<<<<<<<<<<<<<<<<<<<<<<<<<<<<<<<<<<<<<<<<<<<<<<<<<<<<<<<<<<<<<<<<<<<<<<<<<<<<<<<<<<<<<<<<<<<<<<<<<<<<<<<<<<<<<<<<<<<<<<<<<<<<<<<<<<<<<<<<<<<<<<<<<<<<<<<<<<<<<<<<<<<<<<<<<<<<<<<<<<<<<<<<<<<<<<<<<<<<<<<<<<<<<<<<<<<<<<<<<<<<<<<<<<<<<<<<<<<<<<<<<<<<<<<<<<<<<<<<<<<<<<<<<<<<<<<<<<<<<<<<<<<<<<<<<<<<<<<<<<<<<<<<<<<<<<<<<<<<<<<<<<<<<<<<<<<<<<<<<<<<<<<<<<<<<<<<<<<<<<<<<<<<<<<<<<<<<<<<<<<<<<<<<<<<<<<<<<<<<<<<<<<<<<<<<<<<<<<<<<<<<<<<<<<<<<<<<<<<<<<<<<<<<<<<<<<<<<<<<<<<<<<<<<<<<<<<<<<<<<<<<<<<<<<<<<<<<<<<<<<<<<<<<<<<<<<<<<<<<<<<<<<<<<<<<<<<<<<<<<<<<<<<<<<<<<<<<<<<<<<<<<<<<<<<<<<<<<<<<<<<<<<<<<<<<<<<<<<<<<<<<<<<<<<<<<<<<<<<<<<<<<<<<<<<<<<<<<<<" (type K.Tile S.F32 false false (pos 4 ∷ []) [] [] [] [] (pos 0) P.Absent 0 0 0 0) ∷
    row "tile<000000000000000000000000000000000000000000000000000000000000000000000000000000000000000000000000000000000000000000000000000000000000000000000000000000000000000000000000000000000000000000000000000000000000000000000000000000000000000000000000000000000000000000000000000000000000000000000000000000000000000000000000000000000000000000000000000000000000000000000000000000000000000000000000000000000000000000000000000000000000000000000000000000000000000000000000000000000000000000000000000000000000000000000000000000000000000000000000000000000000000000000000000000000000000000000000000000000000000000000000000000000000000000000000000000000000000000000000000000000000000000000000000000000000000000000000000000000000000000000000000000000000000000000000000000000000000000000000000000000000000000000000000000000000000000000000000000000000000000000000000000000000000000000000000000000000000000000000000000000000000000000000000000000000000000000000000000000000000000000000000000000000000000000000000000000000000000000000000007xf32>" (type K.Tile S.F32 false false (pos 7 ∷ []) [] [] [] [] (pos 0) P.Absent 0 0 0 0) ∷
    row "tile<0000000000000000000000000000000000000000000000000000000000000000000000000000000000000000000000000000000000000000000000000000000000000000000000000000000000000000000000000000000000000000000000000000000000000000000000000000000000000000000000000000000000000000000000000000000000000000000000000000000000000000000000000000000000000000000000000000000000000000000000000000000000000000000000000000000000000000000000000000000000000000000000000000000000000000000000000000000000000000000000000000000000000000000000000000000000000000000000000000000000000000000000000000000000000000000000000000000000000000000000000000000000000000000000000000000000000000000000000000000000000000000000000000000000000000000000000000000000000000000000000000000000000000000000000000000000000000000000000000000000000000000000000000000000000000000000000000000000000000000000000000000000000000000000000000000000000000000000000000000000000000000000000000000000000000000000000000000000000000000000000000000000000000000000000000000000000000000000000000007xf32>" (refused R.TooLong 0) ∷
    row "token, #cuda_tile.ptr_att, #cuda_tile.ptr_att, #cuda_tile.ptr_att, #cuda_tile.ptr_att, #cuda_tile.ptr_att, #cuda_tile.ptr_att, #cuda_tile.ptr_att, #cuda_tile.ptr_att, #cuda_tile.ptr_att, #cuda_tile.ptr_att, #cuda_tile.ptr_att, #cuda_tile.ptr_attr<none>r<none>r<none>r<none>r<none>r<none>r<none>r<none>r<none>r<none>r<none>r<none>                                                                                                                                                                                                                                                                                                                                                                                                                                                                                                                                                                                                                                                                                                                      \u{80}" (refused R.HighByte 1023) ∷
    row "tensor_view<2x4xf8e5m3fnu,strides=[?,4,9223372036854775807]>" (type K.TensorView S.F8E5M3FNU false false (pos 2 ∷ pos 4 ∷ []) (DYN ∷ pos 4 ∷ pos 9223372036854775807 ∷ []) [] [] [] (pos 0) P.Absent 0 0 0 0) ∷
    row "strided_view<tile=(-1x-3x128x16x64x-3x32x1),traversal_strides=[32], padding_value=neg_zero,!cuda_tile.tensor_view<f8e4m3fn>, dim_map=[3]>" (type K.Strided S.F8E4M3FN false false [] [] (negsuc 0 ∷ negsuc 2 ∷ pos 128 ∷ pos 16 ∷ pos 64 ∷ negsuc 2 ∷ pos 32 ∷ pos 1 ∷ []) (pos 3 ∷ []) (pos 32 ∷ []) (pos 0) P.NegZero 0 0 0 0) ∷
    row "tensor_view<8x?x0xi1, strides=[64]>" (type K.TensorView S.I1 false false (pos 8 ∷ DYN ∷ pos 0 ∷ []) (pos 64 ∷ []) [] [] [] (pos 0) P.Absent 0 0 0 0) ∷
    row "gather_scatter_view<tile=(-3x-1x3x2x-1x-1x2),tensor_view=!cuda_tile.tensor_view<0x128x0x4xf8e8m0fnu,strides=[32,64, 1]>,sparse_dim=32>" (type K.GatherScatter S.F8E8M0FNU false false (pos 0 ∷ pos 128 ∷ pos 0 ∷ pos 4 ∷ []) (pos 32 ∷ pos 64 ∷ pos 1 ∷ []) (negsuc 2 ∷ negsuc 0 ∷ pos 3 ∷ pos 2 ∷ negsuc 0 ∷ negsuc 0 ∷ pos 2 ∷ []) [] [] (pos 32) P.Absent 0 0 0 0) ∷
    row "!cuda_tile.tile<00x-3x?x0xbf16>" (type K.Tile S.BF16 false false (pos 0 ∷ negsuc 2 ∷ DYN ∷ pos 0 ∷ []) [] [] [] [] (pos 0) P.Absent 0 0 0 0) ∷
    row "\r!cuda_tile.tile<4294967296xptr<token>>" (refused R.NoType 0) ∷
    row "!cuda_tile.ptr<f8e5m3fnu, #cuda_tile.ptr_attr<none>>" (type K.Pointer S.F8E5M3FNU false true [] [] [] [] [] (pos 0) P.Absent 0 0 0 0) ∷
    row "ptr<f8E5M3FNU>" (type K.Pointer S.F8E5M3FNU false false [] [] [] [] [] (pos 0) P.Absent 0 0 0 0) ∷
    row "b[oool" (refused R.NoType 0) ∷
    row "!cuda_#ile.token" (refused R.NoType 0) ∷
    row "tensor_view<+ 1x021474836)47x-9223372036854775809xf8e4m3fn, stri?des=[?,1?- 1, -2147483648, ?,32 , ?]" (refused R.NoType 0) ∷
    row "!cuda_tile.partiton_view<tile=(8,16, 32,2), !cuda_tile.tensor_view<128x1x-1xf4e2m1fn, strides=[8,128,128, 8]>,dim_map=[7,16,32, -3,16,1, -3]>" (refused R.NoType 0) ∷
    row "tile<0x3x-21474836494x0xptr<f8e8m0fnuf4E2 M1FN>>" (refused R.NoType 0) ∷
    row "partition_view<, #x 9223372036854775807gather_scatter_view<1e3-2147483647+2147483647tile<,strides=[8,1]>" (refused R.NoType 0) ∷
    row "tensor_view<, dim_map=[1,0]" (refused R.NoType 0) ∷
    row "9223372036854775806!cuda_tile.2147483646tile<f16f8e4M3fn>" (refused R.NoType 0) ∷
    row "t, #cuda, #cuda, #cuda, #cuda_tile.ptr_attr<none>_tile.ptr_attr<none>_tile.ptr_attr<none>_tile.ptr_attr<none>ile<ptr<f32>>" (type K.Tile S.F32 true true [] [] [] [] [] (pos 0) P.Absent 0 0 0 0) ∷
    row "tile, #cuda_tile.ptr_attr<none, #cuda_tile.ptr_attr<n, #cuda_tile.ptr_attr<non, #cuda_ti, #cuda_tile.ptr_attr<none>le.ptr_attr<none>e>one>><ptr<f32>>" (type K.Tile S.F32 true true [] [] [] [] [] (pos 0) P.Absent 0 0 0 0) ∷
    row "tile<, #, #, #, #cuda_tile.ptr_attr<none>cuda_tile.ptr_attr<none>cuda_tile.ptr_attr<none>cuda_tile.ptr_attr<none>ptr<f32>>" (type K.Tile S.F32 true true [] [] [] [] [] (pos 0) P.Absent 0 0 0 0) ∷
    row "token, #cu, #cu, #cu, #cu, #cuda_tile.ptr_attr<none>da_tile.ptr_attr<none>da_tile.ptr_attr<none>da_tile.ptr_attr<none>da_tile.ptr_attr<none>" (type K.Token S.I1 false true [] [] [] [] [] (pos 0) P.Absent 0 0 0 0) ∷
    row "tok, #cuda_tile., #cuda, #c, #cuda_tile.ptr_attr<none>uda_tile.ptr_att, #cuda_tile.ptr_attr<none>r<none>_tile.ptr_attr<none>ptr_attr<none>en" (type K.Token S.I1 false true [] [] [] [] [] (pos 0) P.Absent 0 0 0 0) ∷
    row "!cuda_tile.t, #cuda, #cuda_tile.ptr_attr<none>_tile.ptr_attr<none>ile<3x?x2147483647x9223372036854775806xf8e4m3fn>" (type K.Tile S.F8E4M3FN false true (pos 3 ∷ DYN ∷ pos 2147483647 ∷ pos 9223372036854775806 ∷ []) [] [] [] [] (pos 0) P.Absent 0 0 0 0) ∷
    row "tensor_view<128x?x-9, #cuda_tile.ptr_attr<none>22, #cuda_tile.ptr_attr<none>3372036854775807x?x2x8x3x32xf64,strides=[4294967296,64]>" (type K.TensorView S.F64 false true (pos 128 ∷ DYN ∷ negsuc 9223372036854775806 ∷ DYN ∷ pos 2 ∷ pos 8 ∷ pos 3 ∷ pos 32 ∷ []) (pos 4294967296 ∷ pos 64 ∷ []) [] [] [] (pos 0) P.Absent 0 0 0 0) ∷
    row ", #cuda_tile.ptr_attr<none>i32" (type K.Scalar S.I32 false true [] [] [] [] [] (pos 0) P.Absent 0 0 0 0) ∷
    row "f8e4m3#cuda_tile.ptr_attr<none>fn," (refused R.NoType 0) ∷
    row "!cuda_tile.tensor_view<02147483647, #cuda_tile.ptr_attr<none>x(4x++1x32x32x?x?x4\u{c}ptr_attr<none>xf4E2M1FN, strides=[\t4\u{b}, 3 , 32,2147483646]>" (type K.TensorView S.F4E2M1FN false true (pos 2147483647 ∷ DYN ∷ DYN ∷ pos 32 ∷ pos 32 ∷ DYN ∷ DYN ∷ DYN ∷ []) (pos 4 ∷ pos 3 ∷ pos 32 ∷ pos 2147483646 ∷ []) [] [] [] (pos 0) P.Absent 3 0 0 0) ∷
    row ", #cuda_tile.ptr_at#cuda_tile.ptr_attr<nonetr<none, #cuda_tile, #cuda_tile.ptr_attr<none>.ptr_attr<none>>i4" (refused R.NoType 0) ∷
    row "!cuda_tile.!cuda_tile.tile<, #cuda_tile.ptr_attr<none>ptr<f8e<none>8m0fnu>>" (refused R.NoType 0) ∷
    row "\n\n\n\n!cuda_ti\r\r\rle.tile<7x?x4x!cud\ta_tile.ptr<bf16>>\r\r" (refused R.NoType 0) ∷
    row "\u{b}\u{b}\u{b}!cuda_tile.tensor_view<7 x?\u{b}x?x4xf8E5M3FNU,!!!strides=[-3, 2, ?]>>\u{c} \u{c}\u{c}" (refused R.NoType 0) ∷
    row "tensor_view<2x?x?xi1, strides=[?, ?], #cu\t\t\tda_tile.ptr_attr<none>>" (type K.TensorView S.I1 false false (pos 2 ∷ DYN ∷ DYN ∷ []) (DYN ∷ DYN ∷ DYN ∷ []) [] [] [] (pos 0) P.Absent 2 0 0 0) ∷
    row "\u{1c}\u{1c}      !cuda_tile.partition_view<ti\u{c}\u{c}le=(3,3),padding_value=neg_inf, !cuda_tile.tensor_view<32xf4e2m1fn,strides=[7,128]>, dim_map=[3,128,1,7]>\n" (refused R.NoType 0) ∷
    row "!cuda_tile.gather_scatter_view<tile=((4\u{a0},tensor_view=!cuda_tile.tensor_view<?x??x1.0xi32>, sparse_dim=0 >" (refused R.HighByte 39) ∷
    row "\u{80}gather_scatter_view<tile=(7, 64,-1,-2147483647), padding_value=nan,!cuda_tile.tensor_view<64xbool, strides=[2147483646, é-3,-1, ?, ?,4, 0]>, sparse_dim=32>" (refused R.HighByte 0) ∷
    row "\u{80}strided_view<tile=(0, Â\u{85}4), traversal_strides=[-, 64 , -+1],padding_value=nan zero, tensor_view<\rf8e5m2>, dim_map=[-3]>" (refused R.HighByte 0) ∷
    row "partition_view<tile=(9223372036854775808x+?x1),padding_value=Zero tensor_view<?xf4E2M1FN,\u{85} strides=[-,]>, dim_map=[\n64, 1,2147483647]>" (refused R.HighByte 89) ∷
    row "!cud)a_tile.partition_view<tile=(1x-1x7),tensor_view<32x4x16xbool,strides=[16, 64, ?,2], #cuda_tile.ptr_attr<none>>, dim_map=[1, 3, 2,32]>" (refused R.NoType 0) ∷
    row "gather_scatter_view<tile=128x1x4, tensor_view<f8e4m3fn, strides=[64,0,)1,-1]>,sparse_dim=-3>" (refused R.NoType 0) ∷
    row "gather_scatter_view<tile=(-1x7x-3x16<, ten<sor_view=!cuda_tile.tensor_view<3x-2147483647xf8E4M3FN,strides=[7, 128, 8]>, sparse_dim=16>" (refused R.NoType 0) ∷
    row "ptr)<i16, #cuda_tile.ptr_attr<none>>" (refused R.NoType 0) ∷
    row "!cuda_cuda_tile.tile. !cuda_tile.!cuda_tile.token" (refused R.NoType 0) ∷
    row "!cuda_!cuda_tile.!cuda_tile.tile.cuda_tile.ptr<i4>" (refused R.NoType 0) ∷
    row "!cuda_tile.partition_view<tile=(3,128,128),!cuda_tile.tensor_view<2x4x32x4xi64,s !cuda_tile.trides=[4294967295,0, 2147483647]>, dim_map=[-2147483647,4, 1, 7]>" (refused R.NoType 0) ∷
    row "par!cuda_tile.tition_view<tile=(-3),tensor_view=!cuda_tile.tensor_view<32x32x-1xf8e5m3fnu, strides=[1,?,3, 2147483646,-3,?, 4, 8, 2, 16,4]>, dim_map=[1]>" (refused R.NoType 0) ∷
    row "partition_view<,sparse_dim=1, tensor_view<\r4x02147483647x128x4294967297xf8e8m0fnu, strides=[2, ?,0\n ,64\t], #cuda_tile.ptr_attr<none>>>" (refused R.NoType 0) ∷
    row "!cuda_tile.gather_scatter_view<tile=(-2147483648xone), tensor_view<8xi16,strides=[-2147483648,64,  ?,4,?, ?, ?, 128,4294967296]>,tile=()>" (refused R.TooMany 0) ∷
    row "tensor_view< ,tile=(0), dim_map=[4,64,8, 1], padding_value=neg_zero,tile=(), tensor_view<64xi64, strides=[128,02147483647]>>" (type K.TensorView S.I64 false false (DYN ∷ []) (pos 128 ∷ DYN ∷ []) [] [] [] (pos 0) P.Absent 2 0 0 0) ∷
    row "tensor_view<tile=(0, 8 ,-2147483649, ?1, -1), !cuda_tile.tensor_view<1x8\u{c}x8x+0x i8, #cuda_tile.ptr_attr<none>>,!cuda_tile.token,tensor_view<4>x-2147483647xi16>>" (type K.TensorView S.I16 false true (DYN ∷ pos 8 ∷ pos 8 ∷ pos 0 ∷ DYN ∷ negsuc 2147483646 ∷ []) (DYN ∷ DYN ∷ DYN ∷ DYN ∷ DYN ∷ DYN ∷ []) [] [] [] (pos 0) P.Absent 2 0 0 1) ∷
    row "gather_scatter_view<tile=(4), padding_value=-0, neg_inf_Zero pos_inf, tensor_view<4xf32, strides=[1]>, dim_map=[0]>" (type K.GatherScatter S.F32 false false (pos 4 ∷ []) (pos 1 ∷ []) (pos 4 ∷ []) [] [] (pos 0) P.PosInf 0 0 0 1) ∷
    row "partition_view<tile=(4), padding_value=zero neg_zeroneg_zero, tensor_view<4xf32, strides=[1]>nan>" (type K.Partition S.F32 false false (pos 4 ∷ []) (pos 1 ∷ []) (pos 4 ∷ []) (pos 0 ∷ []) [] (pos 0) P.NegZero 0 0 0 1) ∷
    row "partition_view<tile=(4), neg_zero, , tensor_view<4xf32, strides=[1]>, dim_map=[0]>" (type K.Partition S.F32 false false (pos 4 ∷ []) (pos 1 ∷ []) (pos 4 ∷ []) (pos 0 ∷ []) [] (pos 0) P.Absent 0 0 0 0) ∷
    row "strided_view<tile=(4), padding_value=zero zero, neg_zero pos_inf neg_zero nan , tensor_view<4xf32, strides=[1]>nan>" (type K.Strided S.F32 false false (pos 4 ∷ []) (pos 1 ∷ []) (pos 4 ∷ []) (pos 0 ∷ []) (pos 1 ∷ []) (pos 0) P.NegZero 0 0 0 2) ∷
    row "tile<-1xf8E4M3FN>" (type K.Tile S.F8E4M3FN false false (negsuc 0 ∷ []) [] [] [] [] (pos 0) P.Absent 0 0 0 0) ∷
    row "tile<2147483648xi8>" (type K.Tile S.I8 false false (pos 2147483648 ∷ []) [] [] [] [] (pos 0) P.Absent 0 0 0 0) ∷
    row "gather_scatter_view<tile=(2, 4, 128, 128,,16, 64,3,8, +9223372036854775808), tensor_view<f8e8m0fnu, strides=[-9223372036854775807]>>" (refused R.TooMany 0) ∷
    row "tile<4x-1x-1x?x?x32x0xi32>" (type K.Tile S.I32 false false (pos 4 ∷ negsuc 0 ∷ negsuc 0 ∷ DYN ∷ DYN ∷ pos 32 ∷ pos 0 ∷ []) [] [] [] [] (pos 0) P.Absent 0 0 0 0) ∷
    row "partition_view<tile=(2), !cuda_tile.tensor_view<?xi16, strides=[7]>, ,>" (type K.Partition S.I16 false false (DYN ∷ []) (pos 7 ∷ []) (pos 2 ∷ []) (pos 0 ∷ []) [] (pos 0) P.Absent 0 0 0 1) ∷
    row "partition_view<tile=(2)tensor_view<8x?x2x64xf8e8m0fnu, strides=[9223372036854775807, 8,64,-3,8,128, 8]>>,,, >" (type K.Partition S.F8E8M0FNU false false (pos 8 ∷ DYN ∷ pos 2 ∷ pos 64 ∷ []) (pos 9223372036854775807 ∷ pos 8 ∷ pos 64 ∷ negsuc 2 ∷ pos 8 ∷ pos 128 ∷ pos 8 ∷ []) (pos 2 ∷ []) (pos 0 ∷ []) [] (pos 0) P.Absent 0 0 0 1) ∷
    row "gather_scatter_view<,tile=(2)tensor_view =8x2147483647x3xf4E2M1FN, strides=[7, 32]>>,!cuda_tile.tensor_view<1xf4e2m1fn,strides=[4,2, -3]>, >>" (refused R.NoType 0) ∷
    row "partition_view<tensor_view=tensor_view<f64>,tile=(2)!cuda_tile.tensor_view<128x0x7xf32,strides=[-2147483649]<>, ,>>" (type K.Partition S.F32 false false (pos 128 ∷ pos 0 ∷ pos 7 ∷ []) (DYN ∷ DYN ∷ DYN ∷ []) (pos 2 ∷ []) (pos 0 ∷ []) [] (pos 0) P.Absent 3 0 0 1) ∷
    row "tensor_view<?xf32,strides=[3221474836460,1]>" (type K.TensorView S.F32 false false (DYN ∷ []) (pos 3221474836460 ∷ pos 1 ∷ []) [] [] [] (pos 0) P.Absent 0 0 0 0) ∷
    row "partition_view<tile=(2x-2147483648), tensor_view<f32>, dim_map=[0]>" (type K.Partition S.F32 false false [] [] (pos 2 ∷ negsuc 2147483647 ∷ []) (pos 0 ∷ []) [] (pos 0) P.Absent 0 0 0 0) ∷
    row "tensor_view<?xf32,strides=[1_019223372036854775806,1]>" (type K.TensorView S.F32 false false (DYN ∷ []) (DYN ∷ pos 1 ∷ []) [] [] [] (pos 0) P.Absent 1 0 0 0) ∷
    row "tile<-3x-99999999999999999999999999999999999999999 ptr<i8>>" (type K.Tile S.I8 true false (negsuc 2 ∷ DYN ∷ []) [] [] [] [] (pos 0) P.Absent 1 0 0 0) ∷
    row "? =" (refused R.NoType 0) ∷
    row "x[>(" (refused R.NoType 0) ∷
    row "  (>" (refused R.NoType 0) ∷
    row " 1= " (refused R.NoType 0) ∷
    []
