-- Part behind part: each call puts its own behind what is there.
use Rattle.std.proofs.Common.{append_assoc}
use Rattle.writer.proofs.put.Draft.put_pointer.Goals as goal

pub returns : goal.returns
returns c = rw (c.put_byte.ensures, c.put_mark.ensures, c.put_bytes-2.ensures, c.put_bytes.ensures, c.scalar_name.ensures) (simp append_assoc)
