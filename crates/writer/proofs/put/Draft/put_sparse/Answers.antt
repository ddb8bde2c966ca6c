-- Part behind part; the number is handed on as it is.
use Rattle.std.proofs.Common.{◌≡◌, to_z, of_z, w32, append_assoc, rules}
use Rattle.writer.specs.Flat.{sparse_text}
use Rattle.writer.proofs.put.Draft.put_sparse.Goals as goal

pub returns : goal.returns
unfolding sparse_text
returns c =
    let z : to_z w32 (of_z w32 c.args.sparse) ≡ c.args.sparse = search rules in
    rw (c.put_byte.ensures, c.put.ensures, c.put_bytes.ensures, z) (simp append_assoc)
