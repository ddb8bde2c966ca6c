-- A scalar's name is one: two texts that meet the contract, for the same scalar, hold the same bytes.
use mathlib.Core.Path.{sym, ◌∙◌}
use Rattle.lexis.proofs.Unique.{Alike}
use Rattle.terminal.proofs.name.scalar_name.Reads as scalar-name

pub scalar_name_one : Alike (λ κs x. x.now) scalar-name.Post
scalar_name_one κs a x y s t p q = p.0 ∙ sym q.0
