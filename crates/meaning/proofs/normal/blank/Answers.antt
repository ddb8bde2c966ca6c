-- The blank record is the token's flat record: both compute to one.
use mathlib.Core.Path.{refl}
use Rattle.meaning.specs.Found.{flat, token, plain, made}
use Rattle.meaning.proofs.normal.blank.Goals as goal

pub returns : goal.returns
unfolding flat token plain made
returns c = refl
