-- The public call's contract leaves one answer: two answers that meet the generated reading of it, for the same text, are the same.
use Rattle.lexis.proofs.Unique.{One}
use Rattle.grammar.proofs.Answer.{one_answer}
use Rattle.strict.proofs.answer.parse_strict.Reads as parse-strict

pub parse_strict_one : One parse-strict.Post
parse_strict_one κs a x y s t p q = one_answer 8 1024 a.0.now x y p q
