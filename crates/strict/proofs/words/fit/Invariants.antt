-- `fit` meets its contract: what is left of the word against what is left of the text.
use Rattle.strict.specs.Words as W
use Rattle.grammar.specs.Table.{◌↝◌}
use mathlib.Core.List.{[], ◌∷◌}
use lib.ListN.{drop, length}
use Prim.Native.Nat.{◌≤◌}
use mathlib.Core.Path.{◌≡◌}
use Rattle.strict.proofs.words.fit.Given as goal

abbrev pub invariant-loop-b : goal.invariant-loop-b
invariant-loop-b g l = (l.i ≤ length l.s) × (l.at ≤ l.i) × (W.among ((l.w ↝ l.value) ∷ []) (drop l.at l.s) ≡ W.among ((drop l.b-index l.w ↝ l.value) ∷ []) (drop l.i l.s))
