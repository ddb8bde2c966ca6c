-- `end_formed` meets its contract: the collector's parts are lent, and laid back where they were altered.
use native.Mathlib.Omega.{arith}
use mathlib.Core.Path.{sym}
use lib.Seq.{length-take-le}
use Rattle.collector.specs.Parts.{of_parts}
use Rattle.capi.proofs.Blocks as L
use Rattle.capi.proofs.collect.end_formed.Goals as goal

pub slice_bounds-end_parts-end : goal.slice_bounds-end_parts-end
slice_bounds-end_parts-end c = let l = L.long 1024 c.args.block.now c.requires.form in omega arith

pub slice_bounds-end_parts-end-2 : goal.slice_bounds-end_parts-end-2
slice_bounds-end_parts-end-2 c = let l = L.long 1024 c.args.block.now c.requires.form in sym (length-take-le 1024 c.args.block.now (omega arith))

pub returns-in-NotNormal : goal.returns-in-NotNormal
returns-in-NotNormal c = let x = c.end_parts-r in let d = of_parts x.new.bytes x.new.len x.new.over in L.end_6 1024 c.args.block.now c.requires x.result d x.ensures (L.not_normal_6 c.in-NotNormal.is)

pub store-requires : goal.store-requires
store-requires c = let x = c.end_parts-r in let d = of_parts x.new.bytes x.new.len x.new.over in L.ready 1024 c.args.block.now c.requires d (L.end_order 1024 c.args.block.now c.requires x.result d x.ensures (L.not_6 _ c.in_default.not-NotNormal))

pub returns-in_default : goal.returns-in_default
returns-in_default c = let x = c.end_parts-r in let d = of_parts x.new.bytes x.new.len x.new.over in L.end_0 1024 c.args.block.now c.requires x.result d x.ensures (L.not_6 _ c.in_default.not-NotNormal) c.store.new.block c.store.ensures
