-- `refuse` meets its contract: the blank record, and nothing noted.
use Rattle.meaning.specs.Ordinary.{refused}
use Rattle.meaning.proofs.refused.refuse.Goals as goal

pub returns : goal.returns
unfolding refused
returns c = cc (c.blank-value.ensures, c.no_note.ensures)
