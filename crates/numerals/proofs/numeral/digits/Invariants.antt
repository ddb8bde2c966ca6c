-- `digits` meets its contract: the answer is that for the rest of the digits, after those that wrote n, which is within the limit.
use Rattle.std.proofs.Common.{◌≡◌, ◌≤◌, length, drop}
use Rattle.numerals.specs.Parts as P
use Rattle.numerals.specs.Numeral as N
use Rattle.numerals.proofs.numeral.digits.Given as goal

abbrev pub invariant-loop-b : goal.invariant-loop-b
invariant-loop-b l = (l.b-index ≤ length l.text) × (l.n ≤ l.most) × (P.under l.most (N.number l.text) ≡ P.under l.most (N.number_from l.n (drop l.b-index l.text)))
