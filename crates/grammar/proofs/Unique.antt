-- A strict text has one meaning: the strict reader is a function, and reads every strict text.
use mathlib.Core.Path.{◌≡◌}
use Rattle.lexis.specs.Text.{Text}
use Rattle.meaning.specs.Meant.{Any, Strict}
use Rattle.grammar.proofs.Whole.{strict_complete}

pub unique : (t : Text) (a b : Any) → Strict t a → Strict t b → a ≡ b
unique t a b s r = cc (strict_complete t a s, strict_complete t b r)
