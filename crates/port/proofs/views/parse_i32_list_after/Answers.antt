-- `parse_i32_list_after` meets its contract: by the three answers that a list can be.
use Rattle.std.proofs.Common.{◌∙◌}
use Rattle.lists.specs.Laid.{list}
use Rattle.port.proofs.Clauses as L
use Rattle.port.proofs.views.parse_i32_list_after.Goals as goal

pub returns-in-Between : goal.returns-in-Between
returns-in-Between c = L.entries_are c.in-Between.l.now c.parse_smalls.ensures ∙ L.laid_as c.list_after.ensures c.in-Between.is (list c.args.own)
