-- Each arm's row is the kind's row in `uses`.
use mathlib.Core.Path.{sym, ap, ◌∙◌}
use Rattle.meaning.specs.Normal.{uses}
use Rattle.meaning.proofs.normal.used_by.Goals as goal

pub returns-in-Scalar : goal.returns-in-Scalar
returns-in-Scalar c = c.row.ensures ∙ sym (ap uses c.in-Scalar.is)

pub returns-in-Pointer : goal.returns-in-Pointer
returns-in-Pointer c = c.row-in-Pointer.ensures ∙ sym (ap uses c.in-Pointer.is)

pub returns-in-Tile : goal.returns-in-Tile
returns-in-Tile c = c.row-in-Tile.ensures ∙ sym (ap uses c.in-Tile.is)

pub returns-in-TensorView : goal.returns-in-TensorView
returns-in-TensorView c = c.row-in-TensorView.ensures ∙ sym (ap uses c.in-TensorView.is)

pub returns-in-Partition : goal.returns-in-Partition
returns-in-Partition c = c.row-in-Partition.ensures ∙ sym (ap uses c.in-Partition.is)

pub returns-in-GatherScatter : goal.returns-in-GatherScatter
returns-in-GatherScatter c = c.row-in-GatherScatter.ensures ∙ sym (ap uses c.in-GatherScatter.is)

pub returns-in-Strided : goal.returns-in-Strided
returns-in-Strided c = c.row-in-Strided.ensures ∙ sym (ap uses c.in-Strided.is)

pub returns-in-Token : goal.returns-in-Token
returns-in-Token c = c.row-in-Token.ensures ∙ sym (ap uses c.in-Token.is)
