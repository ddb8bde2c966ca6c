-- `parse_named` meets its contract: the first form that applies decides, and where none does, what is left.
use Rattle.meaning.specs.Ordinary.{forms}
use Rattle.port.specs.Forms.{shorthand}
use Rattle.port.proofs.Dispatching as L
use Rattle.port.proofs.types.parse_named.Goals as goal

pub parse_tile-requires : goal.parse_tile-requires
unfolding forms shorthand
parse_tile-requires c = L.placed c.strip_prefix_suffix.ensures c.in-Some.is

pub returns-in-Some : goal.returns-in-Some
unfolding forms shorthand
returns-in-Some c = L.decides (L.untried shorthand _ c.args.t.now) c.strip_prefix_suffix.ensures c.args.marked c.in-Some.is c.parse_tile.ensures

pub parse_tensor_view-requires : goal.parse_tensor_view-requires
unfolding forms shorthand
parse_tensor_view-requires c = L.placed c.strip_prefix_suffix-2.ensures c.in-Some-strip_prefix_suffix.is

pub returns-in-Some-strip_prefix_suffix : goal.returns-in-Some-strip_prefix_suffix
unfolding forms shorthand
returns-in-Some-strip_prefix_suffix c = L.decides (L.past (L.untried shorthand _ _) c.strip_prefix_suffix.ensures c.in_default.is) c.strip_prefix_suffix-2.ensures c.args.marked c.in-Some-strip_prefix_suffix.is c.parse_tensor_view.ensures

pub returns : goal.returns
unfolding forms shorthand
returns c = L.at_last c.args.marked (L.past (L.past (L.untried shorthand _ _) c.strip_prefix_suffix.ensures c.in_default.is) c.strip_prefix_suffix-2.ensures c.in_default-strip_prefix_suffix.is) c.parse_views.ensures
