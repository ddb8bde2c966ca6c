-- The totals so far, with those of the rows from the walker's place on, are the sheet's.
use Rattle.sheet.proofs.Summing as L
use Rattle.sheet.proofs.totals.Given as goal

abbrev pub invariant-loop-c : goal.invariant-loop-c
invariant-loop-c l = L.Counting l.sheet l.t l.c-iterator
