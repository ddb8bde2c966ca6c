-- The public call's contract leaves one answer: two answers that meet the generated reading of it, for the same text, are the same.
use mathlib.Core.Path.{sym, ◌∙◌}
use Rattle.lexis.proofs.Unique.{One}
use Rattle.port.proofs.types.parse.Reads as parse

pub parse_one : One parse.Post
parse_one κs a x y s t p q = p ∙ sym q
