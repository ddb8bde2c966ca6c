-- One entry more than none.
use Rattle.std.proofs.Common.{arith, ap, ◌∙◌, [], pos}
use Rattle.meaning.specs.Views.{small}
use Rattle.lists.specs.Laid.{Laid}
use Rattle.lists.specs.Push.{push}
use Rattle.lists.proofs.Laying.{laid_more}
use Rattle.lists.proofs.list.parse_one.Goals as goal

pub push-requires : goal.push-requires
push-requires c = omega (arith, ap (λ (l : Laid). l.row.len) c.none-l.ensures, ap (λ (l : Laid). l.row.tally.fell) c.none-l.ensures)

pub returns : goal.returns
returns c = c.push.ensures ∙ (λ i. push (c.none-l.ensures i) (c.parse_small.ensures i))
    ∙ laid_more 8 [] (small (pos 0) c.args.s.now)
