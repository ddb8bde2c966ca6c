-- `trim_start_matches` meets its contract: what is passed matches.
use Rattle.std.proofs.Common.{◌≡◌, length}
use Rattle.lexis.specs.Text.{less_leading}
use Rattle.lexis.proofs.text.trim_start_matches.Given as goal

abbrev pub invariant-loop-first : goal.invariant-loop-first
invariant-loop-first g l = let p = g.P.Pattern.matches l.p in less_leading p l.text ≡ less_leading p l.rest

abbrev pub decreases-loop-first : goal.decreases-loop-first
decreases-loop-first g l = length l.rest
