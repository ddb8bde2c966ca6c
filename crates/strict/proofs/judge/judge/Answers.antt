-- `judge` meets its contract: what is refused is stuck, or has something behind the type.
use Rattle.strict.proofs.Judging as L
use mathlib.Core.Path.{◌∙◌}
use Rattle.strict.proofs.judge.judge.Goals as goal
use Rattle.strict.proofs.judge.judge.Goals.{in_default-via-in-Ok+else-r-text, in_default-via-in_default}

pub returns-in_default : goal.returns-in_default
returns-in_default c = let t = c.read_whole-read.ensures in c.refuse.ensures ∙ elim c.in_default.branch [
  | in_default-via-in-Ok+else-r-text w ↦ L.behind c.args.text.now t w.in-Ok.is w.if-r-text.false
  | in_default-via-in_default w ↦ L.halted c.args.text.now t w.in_default.is
]
