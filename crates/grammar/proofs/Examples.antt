-- Strict texts of each kind and what they mean, where the strict reader stops in others, and whole answers; worked out by hand.
use Prim.Native.Nat.{◌-◌, ◌^◌}
use Prim.Native.String.{String}
use mathlib.Core.Bool.{true, false}
use mathlib.Core.List.{List, [], ◌∷◌, map}
use mathlib.Core.Path.{◌≡◌, refl}
use lib.IntN.{ℤ, pos, negsuc}
use lib.ListN.{length}
use Rattle.lexis.specs.Text.{Text, bytes}
use Rattle.scalars.specs.Names.{names}
use Rattle.scalars.specs.declared.scalar.Scalar.TheVariants.{I1, I8, F16, BF16, F32, F8E5M2}
use Rattle.meaning.specs.declared.Kind.TheVariants as K
use Rattle.meaning.specs.declared.Padding.TheVariants as P
use Rattle.meaning.specs.declared.Refusal.TheVariants.{HighByte, NotStrict, TooMany}
use Rattle.meaning.specs.Ordinary.{refused}
use Rattle.meaning.specs.Strict.{words, scalars, mark}
use Rattle.meaning.specs.Meant.{Any, any, fits, taken}
use Rattle.grammar.specs.Piece.{Answer, got, left}
use Rattle.grammar.specs.Table.{◌↝◌}
use Rattle.grammar.specs.Spelt.{zipped}
use Rattle.grammar.proofs.Whole.{read}
use Rattle.grammar.proofs.Answer.{answer}

abbrev reading : String → Answer Any
reading s = read (bytes s)

abbrev DYN : ℤ
DYN = negsuc (2 ^ 63 - 1)

-- ── tables ──

-- the names of strict forms are the accepted spellings (01, module 2), with the same scalars
names_same : zipped (λ s. s) words scalars ≡ map (λ n. bytes n.spelling ↝ n.scalar) names
names_same = refl

mark_27 : length (mark true) ≡ 27
mark_27 = refl

-- ── read whole ──

r1 : reading "bool" ≡ got (any K.Scalar I1 false false [] [] [] [] [] (pos 0) P.Absent) []
r1 = refl

r2 : reading "!cuda_tile.token" ≡ got (any K.Token I1 false false [] [] [] [] [] (pos 0) P.Absent) []
r2 = refl

r3 : reading "ptr<f32, #cuda_tile.ptr_attr<none>>" ≡ got (any K.Pointer F32 false true [] [] [] [] [] (pos 0) P.Absent) []
r3 = refl

r4 : reading "tile<4x?x!cuda_tile.ptr<f8e5m2>>" ≡ got (any K.Tile F8E5M2 true false (pos 4 ∷ DYN ∷ []) [] [] [] [] (pos 0) P.Absent) []
r4 = refl

r5 : reading "tensor_view<-7xi8,strides=[?, 1]>" ≡ got (any K.TensorView I8 false false (negsuc 6 ∷ []) (DYN ∷ pos 1 ∷ []) [] [] [] (pos 0) P.Absent) []
r5 = refl

r6 : reading "partition_view<tile=(4x8), tensor_view<?x16xf32, strides=[16, 1]>, dim_map=[1,0]>"
    ≡ got (any K.Partition F32 false false (DYN ∷ pos 16 ∷ []) (pos 16 ∷ pos 1 ∷ []) (pos 4 ∷ pos 8 ∷ []) (pos 1 ∷ pos 0 ∷ []) [] (pos 0) P.Absent) []
r6 = refl

r7 : reading "gather_scatter_view<tile=(1, 2),padding_value=neg_zero,tensor_view=!cuda_tile.tensor_view<f16, #cuda_tile.ptr_attr<none>>, sparse_dim=-1>"
    ≡ got (any K.GatherScatter F16 false true [] [] (pos 1 ∷ pos 2 ∷ []) [] [] (negsuc 0) P.NegZero) []
r7 = refl

r8 : reading "!cuda_tile.strided_view<tile=(2), traversal_strides=[3], !cuda_tile.tensor_view<4xbf16, strides=[1]>,dim_map=[0]>"
    ≡ got (any K.Strided BF16 false false (pos 4 ∷ []) (pos 1 ∷ []) (pos 2 ∷ []) (pos 0 ∷ []) (pos 3 ∷ []) (pos 0) P.Absent) []
r8 = refl

r9 : reading "tile<f32>" ≡ got (any K.Tile F32 false false [] [] [] [] [] (pos 0) P.Absent) []
r9 = refl

r10 : reading "tile<ptr<f16, #cuda_tile.ptr_attr<none>>>" ≡ got (any K.Tile F16 true true [] [] [] [] [] (pos 0) P.Absent) []
r10 = refl

r11 : reading "tensor_view<f32>" ≡ got (any K.TensorView F32 false false [] [] [] [] [] (pos 0) P.Absent) []
r11 = refl

r12 : reading "tensor_view<f32, strides=[5]>" ≡ got (any K.TensorView F32 false false [] (pos 5 ∷ []) [] [] [] (pos 0) P.Absent) []
r12 = refl

r13 : reading "tensor_view<2x3xf32, strides=[1]>" ≡ got (any K.TensorView F32 false false (pos 2 ∷ pos 3 ∷ []) (pos 1 ∷ []) [] [] [] (pos 0) P.Absent) []
r13 = refl

r14 : reading "tile<9223372036854775807x-9223372036854775807xi1>"
    ≡ got (any K.Tile I1 false false (pos 9223372036854775807 ∷ negsuc 9223372036854775806 ∷ []) [] [] [] [] (pos 0) P.Absent) []
r14 = refl

r15 : reading "gather_scatter_view<tile=(-2147483648x2147483647), padding_value=pos_inf, tensor_view<f32>, sparse_dim=0>"
    ≡ got (any K.GatherScatter F32 false false [] [] (negsuc 2147483647 ∷ pos 2147483647 ∷ []) [] [] (pos 0) P.PosInf) []
r15 = refl

-- ── what is left where the reader stops ──

abbrev rest : String → Text
rest s = left (reading s)

abbrev stops : List (String × String)
stops =
    ("tile<01xf32>", "1xf32>") ∷
    ("tile<-0xf32>", "0xf32>") ∷
    ("f8E5M", "") ∷
    ("f8E5M4FNU", "4FNU") ∷
    ("tile<9223372036854775808xf32>", "8xf32>") ∷
    ("tile<-9223372036854775808xf32>", "8xf32>") ∷
    ("tensor_view<4xf32>", ">") ∷
    ("tensor_view<f32, #cuda_tile.ptr_attr<none>>", "") ∷
    ("partition_view<tile=(4x8,2)", ",2)") ∷
    ("i166", "6") ∷
    ("tile<f32>junk", "junk") ∷
    (" f32", " f32") ∷
    ("!cuda_tile.f32", "f32") ∷
    ("tensor_view<f32, strides=[]>", "]>") ∷
    ("partition_view<tile=(), tensor_view<f32>>", "), tensor_view<f32>>") ∷
    ("tile<f32, #cuda_tile.ptr_attr<none>>", ", #cuda_tile.ptr_attr<none>>") ∷
    ("ptr<f32,#cuda_tile.ptr_attr<none>>", "#cuda_tile.ptr_attr<none>>") ∷
    ("tile<+1xf32>", "+1xf32>") ∷
    ("tile<1x f32>", " f32>") ∷
    ("partition_view<tile=(2147483648)", "8)") ∷
    ("partition_view<tile=(-2147483649)", "9)") ∷
    ("partition_view<tile=(?)", "?)") ∷
    ("token, #cuda_tile.ptr_attr<none>", ", #cuda_tile.ptr_attr<none>") ∷
    ("ptr<ptr<f32>>", "ptr<f32>>") ∷
    ("tensor_view<ptr<f32>>", "ptr<f32>>") ∷
    ("tensor_view<f32,  strides=[1]>", " strides=[1]>") ∷
    ("tensor_view<f32, #cuda_tile.ptr_attr<none>, #cuda_tile.ptr_attr<none>>", ", #cuda_tile.ptr_attr<none>>") ∷
    ("partition_view<tile=(1), tensor_view=tensor_view<f32>, dim_map=[0]>", "tensor_view<f32>, dim_map=[0]>") ∷
    ("partition_view<tile=(1), padding_value=!cuda_tile.zero", "!cuda_tile.zero") ∷
    ("partition_view<tile=(1), tensor_view<f32>>", ">") ∷
    ("partition_view<tile=(1), tensor_view<f32>, dim_map=[]>", "]>") ∷
    ("partition_view<tile=(1, 2x3)", "x3)") ∷
    ("gather_scatter_view<tile=(1), tensor_view<f32>, dim_map=[0]>", "dim_map=[0]>") ∷
    ("strided_view<tile=(1), tensor_view<f32>, dim_map=[0]>", "ensor_view<f32>, dim_map=[0]>") ∷
    ("strided_view<tile=(1), padding_value=zero", "padding_value=zero") ∷ []

stop : map (λ r. rest r.0) stops ≡ map (λ r. bytes r.1) stops
stop = refl

-- ── whole answers: lists of at most 8 entries, texts of at most 1,024 bytes ──

a1 : answer 8 1024 [] ≡ refused 8 NotStrict 0
unfolding answer
a1 = refl

a2 : answer 8 1024 (102 ∷ 128 ∷ []) ≡ refused 8 HighByte 1
unfolding answer
a2 = refl

a3 : answer 8 1024 (bytes "tile<1x1x1x1x1x1x1x1xf32>")
    ≡ taken 8 (any K.Tile F32 false false (pos 1 ∷ pos 1 ∷ pos 1 ∷ pos 1 ∷ pos 1 ∷ pos 1 ∷ pos 1 ∷ pos 1 ∷ []) [] [] [] [] (pos 0) P.Absent)
unfolding answer fits
a3 = refl

a4 : answer 8 1024 (bytes "tile<1x1x1x1x1x1x1x1x1xf32>") ≡ refused 8 TooMany 0
unfolding answer fits
a4 = refl

-- not strict and of too many entries: not strict comes first
a5 : answer 8 1024 (bytes "tile<1x1x1x1x1x1x1x1x1xf32>>") ≡ refused 8 NotStrict 0
unfolding answer
a5 = refl
