-- Part behind part: each call puts its own behind what is there.
use Rattle.std.proofs.Common.{append_assoc}
use Rattle.writer.specs.Flat.{inner_in}
use Rattle.writer.proofs.put.Draft.put_inner.Goals as goal

pub returns : goal.returns
unfolding inner_in
returns c = rw (c.put_bytes-3.ensures, c.put_body.ensures, c.put_bytes-2.ensures, c.put_bytes.ensures, c.padding_clause.ensures) (simp append_assoc)
