-- `slow` meets its contract: the bytes before the first x are those up to its place.
use Rattle.numerals.proofs.Walking as L
use Rattle.std.proofs.Common.{◌∙◌}
use Rattle.numerals.proofs.part.slow.Goals as goal

pub slice_bounds-trim-end : goal.slice_bounds-trim-end
slice_bounds-trim-end g c = L.until_part _ c.args.text.now c.until-len.ensures

pub returns : goal.returns
returns g c = (c.until-len.ensures, c.parse-value.ensures ∙ L.sought_part _ c.args.text.now c.until-len.ensures g.T.Integer.bits c.trim.ensures)
