-- What the grammar says of a text, in the code's words. From it, the record and the answer.
use Rattle.std.specs.Prelude.{if◌then◌else◌, Bool, ◌&&◌, [], ◌∷◌, leb}
use Rattle.meaning.specs.declared.Record.{Record}
use Rattle.meaning.specs.declared.Reading.{Reading}
use Rattle.meaning.specs.declared.Refusal.TheVariants.{Accepted, NotStrict, TooMany}
use Rattle.meaning.specs.Meant.{Any}
use Rattle.meaning.specs.Ordinary.{refused}
use Rattle.grammar.specs.Piece.{Answer, got, stuck}
use Rattle.strict.specs.Lists.{nothing, pushes}
use Rattle.strict.specs.Whole.{Plain}

abbrev pub seen : Any → Plain
seen a = record {
  kind = a.kind;
  pointer = a.pointer;
  element = a.element;
  marked = a.attribute;
  shape = pushes nothing a.shape;
  strides = pushes nothing a.strides;
  tile = pushes nothing a.tile;
  map = pushes nothing a.map;
  walk = pushes nothing a.traversal;
  sparse = a.sparse;
  padding = a.padding;
}

abbrev pub record_of : Plain → Record
record_of p = record {
  kind = p.kind;
  element = p.element;
  pointer = p.pointer;
  attribute = p.marked;
  shape = p.shape.values;
  shape_len = p.shape.len;
  strides = p.strides.values;
  strides_len = p.strides.len;
  tile = p.tile.values;
  tile_len = p.tile.len;
  map = p.map.values;
  map_len = p.map.len;
  traversal = p.walk.values;
  traversal_len = p.walk.len;
  sparse = p.sparse;
  padding = p.padding;
}

-- no list has over eight entries
abbrev pub small : Plain → Bool
small p = leb p.shape.len 8 && leb p.strides.len 8 && leb p.tile.len 8 && leb p.map.len 8 && leb p.walk.len 8

abbrev pub accepted : Plain → Reading
accepted p = record { refusal = Accepted; place = 0; value = record_of p; note = record { a = 0; b = 0; c = 0; d = 0 } }

-- the whole text has to be the type
abbrev pub judged : Answer Plain → Reading
judged (got p []) = if small p then accepted p else refused 8 TooMany 0
judged (got p (c ∷ r)) = refused 8 NotStrict 0
judged (stuck r) = refused 8 NotStrict 0
