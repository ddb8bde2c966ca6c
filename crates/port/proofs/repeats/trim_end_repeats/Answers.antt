-- `trim_end_repeats` meets its contract: what the library strips is dropped; what it leaves stays.
use Rattle.std.proofs.Common.{arith, sym, ap, ◌∙◌, ◌≤◌, length}
use Rattle.meaning.specs.Parts.{less_repeats}
use Rattle.port.proofs.Repeating as L
use Rattle.port.proofs.repeats.trim_end_repeats.Goals as goal

pub loop-before-preserved : goal.loop-before-preserved
loop-before-preserved c = let l = c.loop-before in let w = c.args.what.now in let s = c.in-Some.ensures.cases in
    let k : length w ≤ length l.rest.now = omega arith in
    l.invariant ∙ L.strip_goes w c.requires l.rest.now k s.0 ∙ ap (less_repeats w) (sym s.1)

pub returns : goal.returns
returns c = let l = c.loop-before in sym (l.invariant ∙ L.strip_stays c.args.what.now c.requires l.rest.now c.in_default.ensures.cases)
