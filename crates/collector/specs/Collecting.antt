-- Texts in fragments (02, C-13): what a collector holds, when it is in order, what a piece makes of it and what the end answers.
-- `size` is the limit of a text, `cap` that of a list.
use Rattle.std.specs.Prelude.{if◌then◌else◌, ℕ, ◌-◌, Bool, true, false, ◌&&◌, [], ◌∷◌, ◌++◌, eqb, leb, length, take, drop, replicate, Result, Ok, Err}
use Rattle.lexis.specs.Text.{Text}
use Rattle.meaning.specs.Ordinary.{ordinary, refused}
use Rattle.meaning.specs.declared.Reading.{Reading}
use Rattle.meaning.specs.declared.Refusal.TheVariants.{TooLong, NotNormal}
use Rattle.collector.specs.declared.Collector.{Collector}
use Rattle.collector.specs.declared.Refused.{Refused}
use Rattle.collector.specs.declared.Refused.TheVariants.{NotInOrder}

-- ── in order ──

abbrev pub zeros : Text → Bool
zeros [] = true
zeros (b ∷ s) = eqb b 0 && zeros s

-- there is room for as many bytes as the limit (a `Collector` has it, a caller's parts may not); the number is at most the limit,
-- the room past it is zero, and an over-full one has number 0 and only zeros
unfoldable pub in_order : ℕ → Collector → Bool
in_order size c =
    eqb (length c.bytes) size
    && leb c.len size
    && zeros (drop c.len c.bytes)
    && (if c.over then eqb c.len 0 && zeros c.bytes else true)

-- ── what a collector in order holds ──

-- the bytes so far; or, once they are over the limit, that they are too many
pub data Held : Type 0 where
  holds : Text → Held
  over_full : Held

unfoldable pub held : Collector → Held
held c = if c.over then over_full else holds (take c.len c.bytes)

-- the collector that holds this
abbrev pub laid : ℕ → Held → Collector
laid size (holds s) = record { bytes = s ++ replicate (size - length s) 0; len = length s; over = false }
laid size over_full = record { bytes = replicate size 0; len = 0; over = true }

unfoldable pub fresh : ℕ → Collector
fresh size = laid size (holds [])

-- ── a piece ──

-- once the total passes the limit it stays over-full
abbrev pub joined : ℕ → Held → Text → Held
joined size (holds s) piece = if leb (length (s ++ piece)) size then holds (s ++ piece) else over_full
joined size over_full piece = over_full

-- a collector that isn't in order is refused and unaltered; a piece gives no other refusal
abbrev pub Fed : Type 0
Fed = Result (Unit {0}) Refused

unfoldable pub told : ℕ → Collector → Fed
told size c = if in_order size c then Ok tt else Err NotInOrder

unfoldable pub fed : ℕ → Collector → Text → Collector
fed size c piece = if in_order size c then laid size (joined size (held c) piece) else c

-- the number of each answer
abbrev pub number : Fed → ℕ
number (Ok t) = 0
number (Err NotInOrder) = 6

-- ── the end ──

-- as the ordinary reader does on the bytes; over-full, 1
abbrev pub answer : ℕ → ℕ → Held → Reading
answer cap size (holds s) = ordinary cap size s
answer cap size over_full = refused cap TooLong 0

-- 6 first, exactly for a collector that isn't in order
unfoldable pub answered : ℕ → ℕ → Collector → Reading
answered cap size c = if in_order size c then answer cap size (held c) else refused cap NotNormal 0

-- fresh again, after every answer but 6
unfoldable pub ended : ℕ → Collector → Collector
ended size c = if in_order size c then fresh size else c
