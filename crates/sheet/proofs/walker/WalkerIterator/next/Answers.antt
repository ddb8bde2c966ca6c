-- A row that is found ends behind the place where it was sought, and lies within the sheet.
use Rattle.std.proofs.Common.{arith}
use Rattle.sheet.proofs.Cutting.{found}
use Rattle.sheet.proofs.walker.WalkerIterator.next.Goals as goal

pub returns-clause-goes : goal.returns-clause-goes
returns-clause-goes c =
    let w = c.args.self.now in
    let row = found 65536 w.sheet.now w.place c.in_ok-c.c c.in_ok-c.ensures in
    let inside = row.inside in
    let onward = row.onward in
    grind arith
