-- A collector in a block of bytes that C lends (docs/ABI.md): the room for the bytes so far, their number in two bytes, high byte
-- first, and the over-full mark, 0 or 1. `size` is the limit of a text, `cap` that of a list.
use Rattle.std.specs.Prelude.{if◌then◌else◌, ℕ, ◌+◌, ◌*◌, ◌/◌, ◌%◌, Bool, true, false, ◌&&◌, [], ◌∷◌, ◌++◌, ◌≡◌, eqb, leb, length, take, get_or, Option, None, Some}
use Rattle.lexis.specs.Text.{Text}
use Rattle.meaning.specs.Ordinary.{refused}
use Rattle.meaning.specs.declared.Reading.{Reading}
use Rattle.meaning.specs.declared.Refusal.TheVariants.{NotNormal}
use Rattle.collector.specs.declared.Collector.{Collector}
use Rattle.collector.specs.Collecting.{in_order, fresh, fed, answered}
use Rattle.numbers.specs.Numbers.{flag_number}
use Rattle.capi.specs.declared.collect.LastBytes.{LastBytes}

-- a block of the right size, with a mark that is one
abbrev pub formed : ℕ → Text → Bool
formed size b = eqb (length b) (size + 3) && leb (get_or b (size + 2) 0) 1

abbrev pub of_block : ℕ → Text → Collector
of_block size b = record { bytes = take size b; len = get_or b size 0 * 256 + get_or b (size + 1) 0; over = eqb (get_or b (size + 2) 0) 1 }

abbrev pub last_bytes : ℕ → Bool → Text
last_bytes n o = (n / 256) ∷ (n % 256) ∷ flag_number o ∷ []

abbrev pub to_block : Collector → Text
to_block c = c.bytes ++ last_bytes c.len c.over

-- the collector in order that a block holds
unfoldable pub lent : ℕ → Text → Option Collector
lent size b = if formed size b && in_order size (of_block size b) then Some (of_block size b) else None

-- a piece: 0; 6 for a block that holds no collector in order, which is unaltered
abbrev pub feed_number : Option Collector → ℕ
feed_number (Some c) = 0
feed_number None = 6

abbrev pub fed_block : ℕ → Text → Text → Option Collector → Text
fed_block size b piece (Some c) = to_block (fed size c piece)
fed_block size b piece None = b

-- the end
abbrev pub read_block : ℕ → ℕ → Option Collector → Reading
read_block cap size (Some c) = answered cap size c
read_block cap size None = refused cap NotNormal 0

abbrev pub ended_block : ℕ → Text → Option Collector → Text
ended_block size b (Some c) = to_block (fresh size)
ended_block size b None = b

-- for private contracts: number and mark of a block that has the form
pub record Formed (size : ℕ) (b : Text) (n : ℕ) (o : Bool) : Type 0 where
  pub form : formed size b ≡ true
  pub len : n ≡ (of_block size b).len
  pub over : o ≡ (of_block size b).over

-- the same, where it may lack the form
abbrev pub LastRead : ℕ → Text → Option LastBytes → Type 0
LastRead size b (Some l) = Formed size b l.len l.over
LastRead size b None = formed size b ≡ false
