-- `sighted` meets its contract: the keywords that are known by the byte are sighted, the others stay.
use Rattle.std.proofs.Common.{rules}
use mathlib.Core.Path.{refl}
use Rattle.port.proofs.Sighting as L
use Rattle.port.proofs.Behinding as B
use Rattle.port.proofs.Keeping as K
use Rattle.port.proofs.keys.sighted.Goals as goal

pub returns-in-61 : goal.returns-in-61
returns-in-61 c = let g = c.requires.1 in let b = c.in-61.is in record {
  ptr = L.beside g.ptr refl b refl;
  spaced = c.sight.ensures;
  bare = c.sight-in-61.ensures;
  tile = c.sight-in-61-2.ensures;
  map = c.sight-in-61-3.ensures;
  traversal = c.sight-in-61-4.ensures;
  sparse = c.sight-in-61-5.ensures;
  named = L.beside g.named refl b refl;
  prefixed = L.beside g.prefixed refl b refl;
  padding = L.beside g.padding refl b refl;
  plain = B.tiled g.plain g.tile c.sight-in-61-2.ensures (B.unlike b refl);
}

pub returns-in-60 : goal.returns-in-60
returns-in-60 c = let g = c.requires.1 in let b = c.in-60.is in record {
  ptr = c.sight-in-60.ensures;
  spaced = L.beside g.spaced refl b refl;
  bare = L.beside g.bare refl b refl;
  tile = L.beside g.tile refl b refl;
  map = L.beside g.map refl b refl;
  traversal = L.beside g.traversal refl b refl;
  sparse = L.beside g.sparse refl b refl;
  named = c.sight-in-60-2.ensures;
  prefixed = c.sight-in-60-3.ensures;
  padding = L.beside g.padding refl b refl;
  plain = c.sight_behind.ensures;
}

pub returns-in-103 : goal.returns-in-103
returns-in-103 c = let g = c.requires.1 in let b = c.in-103.is in record {
  ptr = L.beside g.ptr refl b refl;
  spaced = L.beside g.spaced refl b refl;
  bare = L.beside g.bare refl b refl;
  tile = L.beside g.tile refl b refl;
  map = L.beside g.map refl b refl;
  traversal = L.beside g.traversal refl b refl;
  sparse = L.beside g.sparse refl b refl;
  named = L.beside g.named refl b refl;
  prefixed = L.beside g.prefixed refl b refl;
  padding = c.sight-in-103.ensures;
  plain = B.beside g.plain (B.unlike b refl);
}

pub returns-in_default : goal.returns-in_default
returns-in_default c = K.still c.requires.1 (search rules) (search rules) (search rules)
