-- How the entries of a list are printed.
use Rattle.std.specs.Prelude.{ℕ, ℤ, List, [], ◌∷◌, ◌++◌, if◌then◌else◌}
use Rattle.lexis.specs.Text.{bytes}
use Rattle.meaning.specs.Written.{unknown}
use Rattle.std.specs.Fmt.{signed_decimal}
use Rattle.std.specs.List.{flat_map}

-- `?` for DYNAMIC, the smallest of 64 bits
abbrev pub entry_text : ℤ → List ℕ
entry_text z = if unknown z then bytes "?" else signed_decimal z

-- one after the other, with the same text between any two
abbrev pub entries_text : List ℕ → List ℤ → List ℕ
entries_text between [] = []
entries_text between (z ∷ zs) = entry_text z ++ flat_map (λ x. between ++ entry_text x) zs
