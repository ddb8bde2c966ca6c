-- The refusals' numbers (01, "Records and numbers").
use Rattle.std.specs.Prelude.{ℕ}
use Rattle.meaning.specs.declared.Refusal.{Refusal}
use Rattle.meaning.specs.declared.Refusal.TheVariants.{Accepted, TooLong, HighByte, NoType, TooMany, NotStrict, NotNormal, NoText, RoomShort}

abbrev pub number : Refusal → ℕ
number Accepted = 0
number TooLong = 1
number HighByte = 2
number NoType = 3
number TooMany = 4
number NotStrict = 5
number NotNormal = 6
number NoText = 7
number RoomShort = 8
