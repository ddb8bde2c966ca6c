-- A collector in order has room for its number of bytes.
use mathlib.Core.Path.{sym}
use native.Mathlib.Omega.{arith}
use lib.Seq.{length-take-le}
use Rattle.collector.proofs.Order as L
use Rattle.collector.proofs.parts.read.Goals as goal

pub slice_bounds-parse-end : goal.slice_bounds-parse-end
slice_bounds-parse-end c =
    let a = c.args in
    let k = L.ordered 1024 a.bytes.now a.len a.over c.requires in
    let h = k.bound in
    let e = k.full in
    sym (length-take-le a.len a.bytes.now (omega arith))
