-- `v` stands before the place i.
use Rattle.std.proofs.Common.{replicate}
use Rattle.lists.proofs.Filling as F
use Rattle.lists.proofs.fill.filled.Given as goal

abbrev pub invariant-loop-i : goal.invariant-loop-i
invariant-loop-i g l = F.Filled 8 (replicate l.n (g.A.Entry.Integer.is l.v)) (g.A.Entries.values l.values) l.i
