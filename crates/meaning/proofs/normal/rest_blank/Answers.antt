-- The tests and the pointer flag joined are `rest_blank`: a path in each of its parts.
use Rattle.std.proofs.Common.{rules, ◌&&◌, ◌||◌, not, w32}
use Rattle.meaning.proofs.Blanks.{zero_bits}
use Rattle.meaning.specs.Normal.{rest_blank}
use Rattle.meaning.proofs.normal.rest_blank.Goals as goal

pub returns : goal.returns
unfolding rest_blank
returns c = let u = c.args.u in let r = c.args.r.now in λ i.
    (u.element || c.is_i1.ensures i)
    && (u.pointer || not r.pointer)
    && (u.sparse || zero_bits w32 r.sparse (search rules) i)
    && (u.padding || c.is_absent.ensures i)
