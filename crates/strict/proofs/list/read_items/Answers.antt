-- `read_items` meets its contract: read up to here, and the list from here on; by the laws of Listing.
use Rattle.strict.proofs.Listing as L
use mathlib.Core.Path.{sym, ◌∙◌}
use native.Mathlib.Omega.{arith}
use borrow.Author.Rules.{rules}
use Rattle.strict.proofs.list.read_items.Goals as goal

pub loop-i-smaller : goal.loop-i-smaller
loop-i-smaller g c = let l = c.loop-i in let e = c.in_ok-m.m.end in let q = L.longer g.met.I.Items.law l.invariant (search rules) (sym c.begins.ensures ∙ c.if-not-begins.false) c.in_ok-m.ensures in omega arith

pub loop-i-preserved : goal.loop-i-preserved
loop-i-preserved g c = L.goes_on g.met.I.Items.law c.loop-i.invariant (search rules) (sym c.begins.ensures ∙ c.if-not-begins.false) c.in_ok-m.ensures c.put.ensures
