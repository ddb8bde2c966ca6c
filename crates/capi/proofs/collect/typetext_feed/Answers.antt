-- `typetext_feed` meets its contract: a block without the form is refused; else number and mark are read off it.
use Rattle.capi.proofs.Blocks as L
use Rattle.capi.proofs.collect.typetext_feed.Goals as goal

pub returns-in_default : goal.returns-in_default
returns-in_default c = L.feed_none 1024 c.args.block.now c.args.piece.now (rw c.in_default.is at c.read_last.ensures)

pub feed_formed-requires : goal.feed_formed-requires
feed_formed-requires c = rw c.in-Some.is at c.read_last.ensures

pub returns : goal.returns
returns c = c.feed_formed.ensures
