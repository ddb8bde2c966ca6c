-- `simple` meets its contract: the lists of a view are none.
use Rattle.std.specs.Prelude.{Some}
use mathlib.Core.Path.{ap, ◌∙◌}
use Rattle.meaning.specs.Found.{unused}
use Rattle.meaning.specs.declared.Padding.TheVariants.{Absent}
use Rattle.lists.specs.Laid.{Laid, list}
use Rattle.port.specs.Carried.{built, answered}
use native.Mathlib.Omega.{arith}
use Rattle.port.proofs.Making as L
use Rattle.port.proofs.made.simple.Goals as goal

pub made-requires : goal.made-requires
made-requires c = let n = L.sound_list unused c.none-l.ensures in record { shape = c.requires.0; strides = c.requires.1; map = n; traversal = n; sparse = L.sound_one unused c.none-l.ensures (omega arith) }

pub returns : goal.returns
returns c = let a = c.args in
    c.made.ensures ∙ ap (λ (l : Laid). answered a.marked (Some (built a.kind a.element a.pointer (list a.shape) (list a.strides) l l l l Absent))) c.none-l.ensures
