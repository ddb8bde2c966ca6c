-- The definition, computed on the recorded texts, gives the Rust's answers, and the counts worked out apart from it.
use mathlib.Core.Path.{◌≡◌, refl}
use mathlib.Core.List as L
use mathlib.Core.List.{List, ◌++◌}
use Rattle.meaning.proofs.Open.{reading}
use Rattle.meaning.proofs.Answers.{Row, texts, answers}
use Rattle.held.proofs.Part1.{part_1}
use Rattle.held.proofs.Part2.{part_2}
use Rattle.held.proofs.Part3.{part_3}
use Rattle.held.proofs.Part4.{part_4}
use Rattle.held.proofs.Part5.{part_5}
use Rattle.held.proofs.Part6.{part_6}
use Rattle.held.proofs.Part7.{part_7}

abbrev pub table : List Row
table = part_1 ++ part_2 ++ part_3 ++ part_4 ++ part_5 ++ part_6 ++ part_7

pub held : L.map (reading 8 1024) (texts table) ≡ answers table
unfolding reading
held = refl
