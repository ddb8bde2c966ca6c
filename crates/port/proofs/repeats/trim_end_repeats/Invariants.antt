-- `trim_end_repeats` meets its contract: behind the rest stands only what is dropped.
use Rattle.std.proofs.Common.{◌≡◌, length}
use Rattle.meaning.specs.Parts.{less_repeats}
use Rattle.port.proofs.repeats.trim_end_repeats.Given as goal

abbrev pub invariant-loop-before : goal.invariant-loop-before
invariant-loop-before l = less_repeats l.what l.s ≡ less_repeats l.what l.rest

abbrev pub decreases-loop-before : goal.decreases-loop-before
decreases-loop-before l = length l.rest
