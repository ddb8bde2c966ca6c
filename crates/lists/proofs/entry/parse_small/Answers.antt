-- A 32-bit entry, by the numeral's answer on the trimmed text.
use Rattle.std.proofs.Common.{rules, ap, ◌∙◌, ℤ}
use Rattle.meaning.specs.Tile.{read_or}
use Rattle.lists.proofs.ByNumeral as L
use Rattle.lists.proofs.entry.parse_small.Goals as goal

pub returns : goal.returns
returns c = let a = c.args in
    c.small_of.ensures ∙ ap (λ (d : ℤ). read_or d c.parse.result) (search rules)
    ∙ L.number32 a.default a.s.now c.trim.ensures (L.as_it_is _ c.parse.ensures)
