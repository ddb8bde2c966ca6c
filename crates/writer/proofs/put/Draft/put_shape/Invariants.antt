-- What is put, and the entries from the index on, are all that is put.
use Rattle.std.proofs.Common.{◌≡◌, ◌++◌, drop}
use Rattle.std.specs.List.{flat_map}
use Rattle.meaning.specs.Written.{shape_in}
use Rattle.writer.specs.Flat.{before_x}
use Rattle.writer.proofs.put.Draft.put_shape.Given as goal

abbrev pub invariant-loop-z : goal.invariant-loop-z
invariant-loop-z l = l.self ++ flat_map before_x (drop l.z-index l.z-items) ≡ l.fn.self ++ flat_map before_x (shape_in l.fn.v.r.now)
