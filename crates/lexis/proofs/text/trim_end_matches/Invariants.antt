-- `trim_end_matches` meets its contract: what is passed matches.
use Rattle.std.proofs.Common.{◌≡◌, length}
use Rattle.lexis.specs.Text.{less_trailing}
use Rattle.lexis.proofs.text.trim_end_matches.Given as goal

abbrev pub invariant-loop-last : goal.invariant-loop-last
invariant-loop-last g l = let p = g.P.Pattern.matches l.p in less_trailing p l.text ≡ less_trailing p l.rest

abbrev pub decreases-loop-last : goal.decreases-loop-last
decreases-loop-last g l = length l.rest
