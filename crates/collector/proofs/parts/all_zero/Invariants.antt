-- `all_zero` meets its contract: so many bytes have been looked at.
use Rattle.std.proofs.Common.{◌≡◌, ◌&&◌, drop}
use Rattle.collector.specs.Collecting.{zeros}
use Rattle.collector.proofs.parts.all_zero.Given as goal

abbrev pub invariant-loop-b : goal.invariant-loop-b
invariant-loop-b l = zeros l.part ≡ l.zero && zeros (drop l.b-index l.part)
