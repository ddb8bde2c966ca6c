-- The passes over the marks, for private contracts: the text without them, and the reading that goes on with it.
use Rattle.std.specs.Prelude.{ℕ, zero, suc, ◌≤◌, ◌<◌, ◌≡◌, length, take, Option, None}
use Rattle.lexis.specs.Text.{Text, trim, nowhere, at, cut}
use Rattle.meaning.specs.Found.{Found}
use Rattle.meaning.specs.Parts.{remove}
use Rattle.meaning.specs.Ordinary.{unmarked, mark}

-- n bytes of s are left without its marks: at the front of the room, where it has one
pub record Rewritten (s room : Text) (n : ℕ) : Type 0 where
  pub left : n ≡ length (remove mark s)
  pub fits : n < length s → n ≤ length room
  pub is : n < length s → take n room ≡ remove mark s

-- `passes` of the definition, without the attribute
abbrev pub reads_on : ℕ → Text → Option Found
reads_on zero s = None
reads_on (suc n) s = elim (cut mark (trim s)) [ nowhere ↦ unmarked (trim s) | at u t ↦ reads_on n (remove mark (trim s)) ]
