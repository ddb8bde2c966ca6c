-- The first words, and what they begin.
use Rattle.std.specs.Prelude.{List, [], ◌∷◌, ◌++◌}
use Rattle.lexis.specs.Text.{bytes}
use Rattle.grammar.specs.Table.{Entry, ◌↝◌}
use Rattle.strict.specs.Words.{table, relabel}
use Rattle.strict.specs.Inner.{names}
use Rattle.strict.specs.declared.heads.Head.{Head}
use Rattle.strict.specs.declared.heads.Head.TheVariants as H

abbrev pub heads : List (Entry Head)
heads =
    relabel H.Scalar names ++
    table (bytes "token|!cuda_tile.token|ptr<|!cuda_tile.ptr<|tile<|!cuda_tile.tile<|tensor_view<|!cuda_tile.tensor_view<|")
    (H.Token ∷ H.Token ∷ H.Pointer ∷ H.Pointer ∷ H.Tile ∷ H.Tile ∷ H.TensorView ∷ H.TensorView ∷ []) ++
    table (bytes "partition_view<tile=(|!cuda_tile.partition_view<tile=(|") (H.Partition ∷ H.Partition ∷ []) ++
    table (bytes "gather_scatter_view<tile=(|!cuda_tile.gather_scatter_view<tile=(|") (H.GatherScatter ∷ H.GatherScatter ∷ []) ++
    table (bytes "strided_view<tile=(|!cuda_tile.strided_view<tile=(|") (H.Strided ∷ H.Strided ∷ [])

-- the kinds in one spelling
abbrev pub kinds : List (Entry Head)
kinds =
    (bytes "token" ↝ H.Token) ∷ (bytes "ptr<" ↝ H.Pointer) ∷ (bytes "tile<" ↝ H.Tile) ∷ (bytes "tensor_view<" ↝ H.TensorView) ∷
    (bytes "partition_view<tile=(" ↝ H.Partition) ∷ (bytes "gather_scatter_view<tile=(" ↝ H.GatherScatter) ∷ (bytes "strided_view<tile=(" ↝ H.Strided) ∷ []
