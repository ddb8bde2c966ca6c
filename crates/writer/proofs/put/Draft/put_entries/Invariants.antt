-- What is put, and the entries from the index on, each behind its separator, are all that is put.
use Rattle.std.proofs.Common.{◌≡◌, [], ◌∷◌, ◌++◌, drop}
use Rattle.writer.specs.Flat.{behind, parted}
use Rattle.writer.proofs.put.Draft.put_entries.Given as goal

abbrev pub invariant-loop-e : goal.invariant-loop-e
invariant-loop-e g l =
    let sep = l.sep ∷ [] in
    l.self ++ behind sep g.E.Entry.text (drop l.e-index l.rest) ≡ l.fn.self ++ parted sep g.E.Entry.text l.fn.l
