-- The number that is left fits the places that are left, and its digits before those behind them are the digits of n.
use Rattle.std.proofs.Common.{◌≡◌, suc, ◌+◌, ◌<◌, ◌^◌, [], length, drop}
use Rattle.meaning.specs.Decimal.{digits}
use Rattle.writer.proofs.put.Draft.put_digits.Given as goal

abbrev pub invariant-loop-rest : goal.invariant-loop-rest
invariant-loop-rest l = record {
  room : length l.text ≡ 20;
  place : l.first < 20;
  fits : l.rest < 10 ^ suc l.first;
  same : digits l.rest l.rest (drop (l.first + 1) l.text) ≡ digits l.n l.n [];
}

abbrev pub decreases-loop-rest : goal.decreases-loop-rest
decreases-loop-rest l = l.rest
