-- `none_yet` meets its contract: nothing of a keyword is seen where less than all of it has room.
use native.Mathlib.Omega.{arith}
use Rattle.port.proofs.Sighting as L
use Rattle.port.proofs.Behinding as B
use Rattle.port.proofs.keys.none_yet.Goals as goal

pub returns : goal.returns
returns c = let s = c.args.s.now in record {
  ptr = L.unseen (omega arith) s;
  spaced = L.unseen (omega arith) s;
  bare = L.unseen (omega arith) s;
  tile = L.unseen (omega arith) s;
  map = L.unseen (omega arith) s;
  traversal = L.unseen (omega arith) s;
  sparse = L.unseen (omega arith) s;
  named = L.unseen (omega arith) s;
  prefixed = L.unseen (omega arith) s;
  padding = L.unseen (omega arith) s;
  plain = B.unopened s;
}
