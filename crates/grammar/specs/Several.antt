-- What the pieces of lists (proofs/Several.antt) are made of: the first bytes of entries, and two parts of a syntax.
use Rattle.std.specs.Prelude.{ℕ, List, ℤ}
use Rattle.lexis.specs.Text.{bytes}

-- the first bytes of an entry
abbrev pub figs : List ℕ
figs = bytes "-0123456789"

abbrev pub figs? : List ℕ
figs? = bytes "?-0123456789"

-- two parts of a syntax
pub record Both (X Y : Type 0) : Type 0 where
  pub left : X
  pub right : Y

abbrev pub same : ℤ → ℤ
same z = z
