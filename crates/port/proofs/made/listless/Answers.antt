-- `listless` meets its contract: its lists are none.
use Rattle.std.specs.Prelude.{Some}
use mathlib.Core.Path.{ap, ◌∙◌}
use Rattle.meaning.specs.Found.{unused}
use Rattle.port.specs.Carried.{Carried, answered}
use Rattle.port.proofs.Building as B
use Rattle.port.proofs.Making as L
use Rattle.port.proofs.made.listless.Goals as goal

pub simple-requires : goal.simple-requires
simple-requires c = let n = L.sound_list unused c.none-l.ensures in (n, n)

pub returns : goal.returns
returns c = let n = c.none-l.ensures in let a = c.args in
    c.simple.ensures ∙ ap (λ (x : Carried). answered a.marked (Some x)) (B.plain_is a.kind a.element n n)
