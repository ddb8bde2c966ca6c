-- A dimension by its numeral: one that is readable, else `?`, else the default.
use Rattle.std.proofs.Common.{rules, sym, ap, ◌∙◌}
use Rattle.numerals.specs.Numeral.{numeral}
use Rattle.meaning.specs.Found.{as_read}
use Rattle.lists.proofs.ByNumeral as L
use Rattle.lists.proofs.entry.dim_of.Goals as goal

pub returns-in-Some : goal.returns-in-Some
returns-in-Some c = ap as_read (search rules) ∙ L.known c.args.s.now (sym c.in-Some.is ∙ c.requires)

pub returns-then-same : goal.returns-then-same
returns-then-same c = L.unknown c.args.s.now c.trim.ensures c.same.ensures c.if-same.true

pub returns-else-same : goal.returns-else-same
returns-else-same c =
    L.number c.args.s.now c.trim.ensures c.same.ensures c.if-same.false (sym c.in-None.is ∙ c.requires ∙ ap (numeral 64) (sym c.trim.ensures))
