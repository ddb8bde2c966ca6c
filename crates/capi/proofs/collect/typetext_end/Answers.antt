-- `typetext_end` meets its contract: a block without the form is refused; else number and mark are read off it.
use mathlib.Core.Path.{ap, ◌∙◌}
use Rattle.numbers.specs.Numbers.{in_numbers}
use Rattle.capi.proofs.Blocks as L
use Rattle.capi.proofs.collect.typetext_end.Goals as goal

pub returns-in_default : goal.returns-in_default
returns-in_default c = let g = L.end_none 1024 c.args.block.now c.refuse.result (rw c.in_default.is at c.read_last.ensures) c.refuse.ensures in (c.in_numbers.ensures ∙ g.0, g.1)

pub end_formed-requires : goal.end_formed-requires
end_formed-requires c = rw c.in-Some.is at c.read_last.ensures

pub returns : goal.returns
returns c = (c.in_numbers-2.ensures ∙ ap in_numbers c.end_formed.ensures.0, c.end_formed.ensures.1)
