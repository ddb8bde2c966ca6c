-- The numbers from 0 stand before the place i.
use Rattle.meaning.specs.Views.{count_up}
use Rattle.lists.proofs.Filling as F
use Rattle.lists.proofs.fill.count_up.Given as goal

abbrev pub invariant-loop-i : goal.invariant-loop-i
invariant-loop-i l = F.Filled 8 (count_up 0 l.n) l.values l.i
