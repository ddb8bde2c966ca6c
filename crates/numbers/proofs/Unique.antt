-- Each public function's contract leaves one answer: two answers that meet the generated reading of it, for the same arguments, are the same.
use mathlib.Core.Path.{sym, ◌∙◌}
use Rattle.lexis.proofs.Unique.{One}
use Rattle.numbers.proofs.in_numbers.Reads as in_numbers
use Rattle.numbers.proofs.sent.of_numbers.Reads as of_numbers

pub in_numbers_one : One in_numbers.Post
in_numbers_one κs a x y s t p q = p ∙ sym q

pub of_numbers_one : One of_numbers.Post
of_numbers_one κs a x y s t p q = p ∙ sym q
