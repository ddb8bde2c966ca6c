-- The slips that document 01 expects, and those next to them: one table, one theorem. The answers are the Rust's; the counts follow document 01.
use mathlib.Core.Path.{◌≡◌, refl}
use mathlib.Core.Bool.{false}
use mathlib.Core.List as L
use mathlib.Core.List.{List, [], ◌∷◌}
use lib.IntN.{pos, negsuc}
use Rattle.scalars.specs.declared.scalar.Scalar.TheVariants.{I1, I4, F16, F32}
use Rattle.meaning.specs.declared.Kind.TheVariants as K
use Rattle.meaning.specs.declared.Padding.TheVariants.{Absent, Zero, NegZero}
use Rattle.meaning.specs.declared.Refusal.TheVariants.{TooLong, HighByte, NoType, TooMany}
use Rattle.meaning.proofs.Open.{reading}
use Rattle.meaning.proofs.Answers.{Row, row, type, refused, DYN, texts, answers}

abbrev slips : List Row
slips =
    -- absent traversal strides are 1, the absent map counts up
    row "strided_view<tile=(2x3), tensor_view<f32>>"
    (type K.Strided F32 false false [] [] (pos 2 ∷ pos 3 ∷ []) (pos 0 ∷ pos 1 ∷ []) (pos 1 ∷ pos 1 ∷ []) (pos 0) Absent 0 0 0 2) ∷
    -- an unclosed list is absent in a strided view, and refuses a partition view
    row "strided_view<tile=(2), tensor_view<f32>, dim_map=[1>" (type K.Strided F32 false false [] [] (pos 2 ∷ []) (pos 0 ∷ []) (pos 1 ∷ []) (pos 0) Absent 0 0 0 2) ∷
    row "partition_view<tile=(2), tensor_view<f32>, dim_map=[1>" (refused NoType 0) ∷
    -- `neg_zero` is not zero
    row "partition_view<tile=(2), padding_value=neg_zero, tensor_view<f32>, dim_map=[0]>"
    (type K.Partition F32 false false [] [] (pos 2 ∷ []) (pos 0 ∷ []) [] (pos 0) NegZero 0 0 0 0) ∷
    row "partition_view<tile=(2), padding_value=zero, tensor_view<f32>, dim_map=[0]>"
    (type K.Partition F32 false false [] [] (pos 2 ∷ []) (pos 0 ∷ []) [] (pos 0) Zero 0 0 0 0) ∷
    -- a bracket is cut at the `>` that matches
    row "ptr<f<>f32>" (refused NoType 0) ∷
    row "tensor_view<4xf32, strides=[1<2>, 3]>" (type K.TensorView F32 false false (pos 4 ∷ []) (DYN ∷ pos 3 ∷ []) [] [] [] (pos 0) Absent 1 0 0 0) ∷
    -- VT (11) is white space
    row "\u{b}tile<\u{b}4\u{b}x f16\u{b}>" (type K.Tile F16 false false (pos 4 ∷ []) [] [] [] [] (pos 0) Absent 0 0 0 0) ∷
    -- numerals at the edges of their ranges
    row "tile<9223372036854775807x9223372036854775808x+07xi4>"
    (type K.Tile I4 false false (pos 9223372036854775807 ∷ DYN ∷ pos 7 ∷ []) [] [] [] [] (pos 0) Absent 1 0 0 0) ∷
    row "gather_scatter_view<tile=(2147483647,-2147483648,2147483648), tensor_view<f32>, sparse_dim=-1>"
    (type K.GatherScatter F32 false false [] [] (pos 2147483647 ∷ negsuc 2147483647 ∷ pos 1 ∷ []) [] [] (negsuc 0) Absent 0 1 0 0) ∷
    -- `bool` is I1
    row "ptr< bool >" (type K.Pointer I1 false false [] [] [] [] [] (pos 0) Absent 0 0 0 0) ∷
    -- eight entries, and nine
    row "tile<1x1x1x1x1x1x1x1xi1>" (type K.Tile I1 false false (pos 1 ∷ pos 1 ∷ pos 1 ∷ pos 1 ∷ pos 1 ∷ pos 1 ∷ pos 1 ∷ pos 1 ∷ []) [] [] [] [] (pos 0) Absent 0 0 0 0) ∷
    row "tile<1x1x1x1x1x1x1x1x1xi1>" (refused TooMany 0) ∷
    -- 3 comes before 4, and 2 before 3
    row "tile<1x1x1x1x1x1x1x1x1xj1>" (refused NoType 0) ∷
    row "tile<\u{80}>" (refused HighByte 5) ∷
    row "" (refused NoType 0) ∷ []

slips_hold : L.map (reading 8 1024) (texts slips) ≡ answers slips
unfolding reading
slips_hold = refl

-- the limit of a text is a parameter too: at 4 bytes `token` is too long, at 5 it is not
limit_holds : L.map (λ size. reading 8 size (Rattle.lexis.specs.Text.bytes "token")) (4 ∷ 5 ∷ []) ≡ refused TooLong 0 ∷ type K.Token I1 false false [] [] [] [] [] (pos 0) Absent 0 0 0 0 ∷ []
unfolding reading
limit_holds = refl
