-- Each public function's contract leaves one answer: two answers that meet the generated reading of it, for the same arguments, are the same.
use mathlib.Core.Path.{sym, ◌∙◌}
use Rattle.lexis.proofs.Unique.{One}
use Rattle.scalars.proofs.scalar.Scalar.byte_width.Reads as byte_width
use Rattle.scalars.proofs.scalar.Scalar.is_integer.Reads as is-integer
use Rattle.scalars.proofs.scalar.Scalar.is_float.Reads as is-float
use Rattle.scalars.proofs.scalar.Scalar.bits.Reads as bits
use Rattle.scalars.proofs.scalar.parse_scalar.Reads as parse-scalar

pub byte_width_one : One byte_width.Post
byte_width_one κs a x y s t p q = p ∙ sym q

pub is_integer_one : One is-integer.Post
is_integer_one κs a x y s t p q = p ∙ sym q

pub is_float_one : One is-float.Post
is_float_one κs a x y s t p q = p ∙ sym q

pub bits_one : One bits.Post
bits_one κs a x y s t p q = p ∙ sym q

pub parse_scalar_one : One parse-scalar.Post
parse_scalar_one κs a x y s t p q = p ∙ sym q
