-- The reading in numbers is that of what the strict reader answers.
use Rattle.capi.proofs.typetext_parse_strict.Goals as goal

pub returns : goal.returns
returns c = record { reading = c.parse_strict.result; strictly = c.parse_strict.ensures; numbers = c.in_numbers.ensures }
