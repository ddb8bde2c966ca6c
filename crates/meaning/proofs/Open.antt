-- `unfolding reading` opens every definition of the ordinary reading, for tables that the checker computes.
use Prim.Native.Nat.{ℕ}
use Rattle.lexis.specs.Text.{Text}
use Rattle.meaning.specs.Ordinary.{ordinary}
use Rattle.meaning.specs.declared.Reading.{Reading}

unfoldable pub reading : ℕ → ℕ → Text → Reading
unfolding Rattle.scalars.specs.Names.scalar_name Rattle.meaning.specs.Found.flat Rattle.meaning.specs.Found.within Rattle.meaning.specs.Found.counts Rattle.meaning.specs.Found.made Rattle.meaning.specs.Found.plain Rattle.meaning.specs.Found.token Rattle.meaning.specs.Found.with_attribute Rattle.meaning.specs.Tile.DYNAMIC Rattle.meaning.specs.Tile.dimension Rattle.meaning.specs.Tile.tile_of Rattle.meaning.specs.Tile.tile Rattle.meaning.specs.Tile.stride_parts Rattle.meaning.specs.Tile.tensor_parts Rattle.meaning.specs.Tile.tensor Rattle.meaning.specs.Tile.tensor_found Rattle.meaning.specs.Tile.tensor_view Rattle.meaning.specs.Views.small Rattle.meaning.specs.Views.tile_entries Rattle.meaning.specs.Views.opened Rattle.meaning.specs.Views.padding Rattle.meaning.specs.Views.view Rattle.meaning.specs.Views.entries Rattle.meaning.specs.Views.view_of Rattle.meaning.specs.Views.partition_view Rattle.meaning.specs.Views.gather_scatter_view Rattle.meaning.specs.Views.strided_of Rattle.meaning.specs.Views.strided_view Rattle.meaning.specs.Ordinary.pointer Rattle.meaning.specs.Ordinary.forms Rattle.meaning.specs.Ordinary.unmarked Rattle.meaning.specs.Ordinary.mark Rattle.meaning.specs.Ordinary.parse Rattle.meaning.specs.Ordinary.refused Rattle.meaning.specs.Ordinary.accepted Rattle.meaning.specs.Ordinary.ordinary
reading cap size s = ordinary cap size s
