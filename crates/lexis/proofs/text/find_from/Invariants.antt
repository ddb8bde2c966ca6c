-- `find_from` meets its contract: the place in the whole text is i - k more than that in its rest from there on.
-- From a place where the text doesn't stand to the next where its byte k does, nothing is passed over.
use Rattle.lexis.proofs.Seeking as L
use Rattle.lexis.specs.Text.{cut, place}
use lib.ListN.{length, drop}
use Prim.Native.Nat.{◌≤◌, ◌-◌}
use mathlib.Core.Path.{◌≡◌}
use Rattle.lexis.proofs.text.find_from.Given as goal

abbrev pub invariant-loop-i : goal.invariant-loop-i
invariant-loop-i l = (l.k ≤ l.i) × (place (cut l.what l.text) ≡ L.shifted (l.i - l.k) (place (cut l.what (drop (l.i - l.k) l.text))))

abbrev pub decreases-loop-i : goal.decreases-loop-i
decreases-loop-i l = length l.text - l.i
