-- `feed_formed` meets its contract: the collector's parts are lent, and laid back where they were altered.
use native.Mathlib.Omega.{arith}
use mathlib.Core.Path.{sym}
use lib.Seq.{length-take-le}
use Rattle.collector.specs.Parts.{of_parts}
use Rattle.capi.proofs.Blocks as L
use Rattle.capi.proofs.collect.feed_formed.Goals as goal

pub slice_bounds-feed_parts-end : goal.slice_bounds-feed_parts-end
slice_bounds-feed_parts-end c = let l = L.long 1024 c.args.block.now c.requires.form in omega arith

pub slice_bounds-feed_parts-end-2 : goal.slice_bounds-feed_parts-end-2
slice_bounds-feed_parts-end-2 c = let l = L.long 1024 c.args.block.now c.requires.form in sym (length-take-le 1024 c.args.block.now (omega arith))

pub store-requires : goal.store-requires
store-requires c = let x = c.feed_parts in let d = of_parts x.new.bytes x.new.len x.new.over in L.ready 1024 c.args.block.now c.requires d (L.fed_order 1024 c.args.block.now c.requires c.args.piece.now x.result d x.ensures (L.taken_not_6 c.in-Ok.is))

pub returns-in-Ok : goal.returns-in-Ok
returns-in-Ok c = let x = c.feed_parts in let d = of_parts x.new.bytes x.new.len x.new.over in L.feed_0 1024 c.args.block.now c.requires c.args.piece.now x.result d x.ensures (L.taken_not_6 c.in-Ok.is) c.store.new.block c.store.ensures

pub returns-in-Err-NotInOrder : goal.returns-in-Err-NotInOrder
returns-in-Err-NotInOrder c = let x = c.feed_parts in let d = of_parts x.new.bytes x.new.len x.new.over in L.feed_6 1024 c.args.block.now c.requires c.args.piece.now x.result d x.ensures (L.refused_6 c.in-Err-NotInOrder.field-0 c.in-Err-NotInOrder.is)
