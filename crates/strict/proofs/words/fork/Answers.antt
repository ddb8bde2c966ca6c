-- `fork` meets its contract: the first byte of the second word tells which of them.
use Rattle.strict.proofs.Tree as L
use borrow.Author.Rules.{rules}
use Rattle.strict.proofs.words.fork.Goals as goal

pub bounds-w-0 : goal.bounds-w-0
bounds-w-0 g c = let a = c.args in let h = L.has_first a.v.now a.w.now c.requires.apart in search rules

pub returns-then-peek-w : goal.returns-then-peek-w
returns-then-peek-w g c = let a = c.args in L.either_second a.j a.k a.v.now a.w.now c.requires.apart c.peek.ensures c.if-peek-w.true c.fit.ensures

pub returns : goal.returns
returns g c = let a = c.args in L.either_first a.j a.k a.v.now a.w.now c.requires.apart c.peek.ensures c.if-peek-w.false c.fit-2.ensures
