-- `run` meets its contract: zeros, then digits have been passed up to the rest, and wrote n.
use Rattle.std.proofs.Common.{rules}
use Rattle.numerals.proofs.Walking as L
use Rattle.numerals.proofs.part.run.Goals as goal

pub loop-b-preserved : goal.loop-b-preserved
loop-b-preserved c = let l = c.loop-b in let s = c.in-Some in
    let w = L.passes (L.quiet _ c.requires.apart) {n = 0} {d = 0} l.invariant.0 (search rules) l.invariant.1 l.invariant.2 s.ensures.cases.0 (search rules) (search rules) (search rules) (search rules) in
    (w.0, w.2, w.3)

pub loop-b-2-preserved : goal.loop-b-2-preserved
loop-b-2-preserved c = let l = c.loop-b-2 in let s = c.in-Some-split_first in
    L.passes (L.quiet _ c.requires.apart) l.invariant.0 l.invariant.1 l.invariant.2 l.invariant.3 s.ensures.cases.0 (search rules) (search rules) (search rules) (search rules)
