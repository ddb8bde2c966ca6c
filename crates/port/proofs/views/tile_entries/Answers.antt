-- `tile_entries` meets its contract: split at `x` where one occurs, else at commas; a short text has few defaults.
use mathlib.Core.Path.{sym, ◌∙◌}
use Rattle.port.proofs.Clauses as L
use Rattle.port.proofs.views.tile_entries.Goals as goal

pub returns-then-contains : goal.returns-then-contains
returns-then-contains c = L.tile_crossed c.args.s.now (sym c.contains.ensures ∙ c.if-contains.true) c.parse_smalls.ensures

pub returns-else-contains : goal.returns-else-contains
returns-else-contains c = L.tile_listed c.args.s.now (sym c.contains.ensures ∙ c.if-contains.false) c.parse_smalls-else-contains.ensures
