-- `parse_views` meets its contract: the first view that applies decides, and where none does, what is left.
use lib.ListN.{drop}
use Rattle.meaning.specs.Ordinary.{forms}
use Rattle.port.specs.Forms.{shorthand}
use Rattle.port.proofs.Dispatching as L
use Rattle.port.proofs.types.parse_views.Goals as goal

pub parse_partition_view-requires : goal.parse_partition_view-requires
unfolding forms shorthand
parse_partition_view-requires c = L.placed c.strip_prefix_suffix.ensures c.in-Some.is

pub returns-in-Some : goal.returns-in-Some
unfolding forms shorthand
returns-in-Some c = L.decides (L.untried (drop 2 shorthand) _ c.args.t.now) c.strip_prefix_suffix.ensures c.args.marked c.in-Some.is c.parse_partition_view.ensures

pub returns-in-Some-strip_prefix_suffix : goal.returns-in-Some-strip_prefix_suffix
unfolding forms shorthand
returns-in-Some-strip_prefix_suffix c = L.decides (L.past (L.untried (drop 2 shorthand) _ _) c.strip_prefix_suffix.ensures c.in_default.is) c.strip_prefix_suffix-2.ensures c.args.marked c.in-Some-strip_prefix_suffix.is c.parse_gather_scatter_view.ensures

pub returns-in-Some-strip_prefix_suffix-2 : goal.returns-in-Some-strip_prefix_suffix-2
unfolding forms shorthand
returns-in-Some-strip_prefix_suffix-2 c = L.decides (L.past (L.past (L.untried (drop 2 shorthand) _ _) c.strip_prefix_suffix.ensures c.in_default.is) c.strip_prefix_suffix-2.ensures c.in_default-strip_prefix_suffix.is) c.strip_prefix_suffix-3.ensures c.args.marked c.in-Some-strip_prefix_suffix-2.is c.parse_strided_view.ensures

pub returns : goal.returns
unfolding forms shorthand
returns c = L.at_last c.args.marked (L.past (L.past (L.past (L.untried (drop 2 shorthand) _ _) c.strip_prefix_suffix.ensures c.in_default.is) c.strip_prefix_suffix-2.ensures c.in_default-strip_prefix_suffix.is) c.strip_prefix_suffix-3.ensures c.in_default-strip_prefix_suffix-2.is) c.parse_last.ensures
