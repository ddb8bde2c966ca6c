-- The strict reader's and the writer's answers in numbers (docs/ABI.md).
use Rattle.std.specs.Prelude.{◌≡◌, Option, Some, None}
use Rattle.lexis.specs.Text.{Text}
use Rattle.meaning.specs.Refusals.{number}
use Rattle.meaning.specs.declared.Reading.{Reading}
use Rattle.meaning.specs.declared.Record.{Record}
use Rattle.meaning.specs.declared.Refusal.TheVariants.{NotNormal}
use Rattle.meaning.specs.declared.Written.{Written}
use Rattle.meaning.specs.Meant.{Strictly}
use Rattle.meaning.specs.Written as W
use Rattle.meaning.specs.Written.{writing}
use Rattle.numbers.specs.Numbers.{in_numbers, of_numbers}
use Rattle.numbers.specs.declared.TypetextReading.{TypetextReading}
use Rattle.numbers.specs.declared.TypetextRecord.{TypetextRecord}
use Rattle.capi.specs.declared.write.TypetextWritten.{TypetextWritten}

-- the strict reader's answer in numbers
pub record StrictNumbers (s : Text) (n : TypetextReading) : Type 0 where
  pub reading : Reading
  pub strictly : Strictly 8 1024 s reading
  pub numbers : n ≡ in_numbers reading

-- ── the writer's answer, and the room after it ──

pub record Outcome : Type 0 where
  pub answer : TypetextWritten
  pub room : Text

abbrev pub outcome : TypetextWritten → Text → Outcome
outcome w room = record { answer = w; room = room }

abbrev pub answer_numbers : Written → TypetextWritten
answer_numbers w = record { len = w.len; refusal = number w.refusal }

abbrev pub outcome_numbers : W.Outcome → Outcome
outcome_numbers o = outcome (answer_numbers o.answer) o.room

-- numbers that are no record's are refused as not normal
abbrev pub write_given : Option Record → Text → W.Outcome
write_given None room = W.refused NotNormal room
write_given (Some r) room = writing 8 r room

unfoldable pub write_numbers : TypetextRecord → Text → Outcome
write_numbers n room = outcome_numbers (write_given (of_numbers n) room)
