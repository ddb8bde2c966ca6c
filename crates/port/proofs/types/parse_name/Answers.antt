-- `parse_name` meets its contract: the name decides.
use mathlib.Core.Path.{sym, ◌∙◌}
use Rattle.port.proofs.Dispatching as L
use Rattle.port.proofs.types.parse_name.Goals as goal

pub returns-in-Some : goal.returns-in-Some
returns-in-Some c = L.told c.args.marked c.args.s.now (sym c.parse_scalar.ensures ∙ c.in-Some.is) c.args.kind c.listless.ensures

pub returns-in-None : goal.returns-in-None
returns-in-None c = L.told c.args.marked c.args.s.now (sym c.parse_scalar.ensures ∙ c.in-None.is) c.args.kind c.refuse.ensures
