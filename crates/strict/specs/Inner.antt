-- What stands in a pointer, a tile and a tensor view, with what ends it, as the code reads it: lists as rows.
use Rattle.std.specs.Prelude.{ℕ, Bool, true, false, cond, List, [], ◌∷◌, ◌++◌, eqb, ℤ, Option, Some, None}
use Rattle.lexis.specs.Text.{bytes}
use Rattle.scalars.specs.declared.scalar.Scalar.{Scalar}
use Rattle.scalars.specs.declared.scalar.Scalar.TheVariants as S
use Rattle.meaning.specs.Strict.{scalars}
use Rattle.grammar.specs.Piece.{Answer, got}
use Rattle.grammar.specs.Join.{mapped, after}
use Rattle.grammar.specs.Table.{Entry, ◌↝◌}
use Rattle.strict.specs.Words.{among, table, relabel, advances, both}
use Rattle.strict.specs.Rows.{dims64, list64}
use Rattle.strict.specs.Lists.{Row, row, nothing, pushes}
use Rattle.strict.specs.declared.inner.Core.{Core}
use Rattle.strict.specs.declared.inner.Tile.{Tile}
use Rattle.strict.specs.declared.inner.Rest.{Rest}
use Rattle.strict.specs.declared.inner.Tensor.{Tensor}

-- ── tables ──
abbrev pub names : List (Entry Scalar)
names = table (bytes "i1|i4|i8|i16|i32|i64|f16|bf16|f32|tf32|f64|f8E4M3FN|f8e4m3fn|f8E5M2|f8e5m2|f8E8M0FNU|f8e8m0fnu|f4E2M1FN|f4e2m1fn|f8E5M3FNU|f8e5m3fnu|bool|") scalars

-- what is left of the names after some bytes
abbrev pub named : List ℕ → List (Entry Scalar)
named u = advances u names

-- the four after `f8E` or `f8e`, in capitals or in small letters
abbrev pub eights : List ℕ → List ℕ → List ℕ → List ℕ → List (Entry Scalar)
eights w m v x = (52 ∷ w ↝ S.F8E4M3FN) ∷ (53 ∷ m ++ bytes "2" ↝ S.F8E5M2) ∷ (56 ∷ x ↝ S.F8E8M0FNU) ∷ (53 ∷ m ++ v ↝ S.F8E5M3FNU) ∷ []

-- a name, or the beginning of a pointer
abbrev pub kerns : List (Entry (Option Scalar))
kerns = relabel Some names ++ table (bytes "ptr<|!cuda_tile.ptr<|") (None ∷ None ∷ [])

-- what ends a part, without or with the mark
abbrev pub closings : List ℕ → List ℕ → List (Entry Bool)
closings v w = (v ↝ false) ∷ (w ↝ true) ∷ []

abbrev pub close : List (Entry Bool)
close = closings (bytes ">") (bytes ", #cuda_tile.ptr_attr<none>>")

abbrev pub close_both : List (Entry Bool)
close_both = closings (bytes ">>") (bytes ", #cuda_tile.ptr_attr<none>>>")

abbrev pub brackets : List (Entry Bool)
brackets = closings (bytes "]>") (bytes "], #cuda_tile.ptr_attr<none>>")

-- the end of a tensor view, or the strides
abbrev pub opened : List (Entry (Option Bool))
opened = table (bytes ">|, #cuda_tile.ptr_attr<none>>|,strides=[|, strides=[|") (Some false ∷ Some true ∷ None ∷ None ∷ [])

abbrev pub must : List (Entry Bool)
must = both (bytes ",") (bytes "strides=[") false (bytes " strides=[") true

-- ── a pointer and a tile ──
pub record Cored : Type 0 where
  pub pointer : Bool
  pub element : Scalar
  pub marked : Bool

abbrev pub closed : Scalar → Bool → Cored
closed s m = record { pointer = true; element = s; marked = m }

abbrev pub plain : Scalar → Cored
plain s = record { pointer = false; element = s; marked = false }

abbrev pub pointee : List (Entry Bool) → List ℕ → Answer Cored
pointee cs t = after (λ s r. mapped (closed s) (among cs r)) (among names t)

abbrev pub core_of : Option Scalar → List ℕ → Answer Cored
core_of (Some s) r = mapped (λ (u : Unit {0}). plain s) (among ((bytes ">" ↝ tt) ∷ []) r)
core_of None r = pointee close_both r

unfoldable pub core : List ℕ → Answer Cored
core t = after core_of (among kerns t)

abbrev pub cored : Core → Cored
cored c = record { pointer = c.pointer; element = c.element; marked = c.marked }

-- ── a list of dimensions ──
abbrev pub shape : List ℕ → Answer (Row ℤ)
shape t = mapped (pushes nothing) (dims64 t)

abbrev pub strides : List ℕ → Answer (Row ℤ)
strides t = mapped (pushes nothing) (list64 t)

pub record Tiled : Type 0 where
  pub shape : Row ℤ
  pub core : Cored

abbrev pub tile_of : Row ℤ → Cored → Tiled
tile_of l c = record { shape = l; core = c }

unfoldable pub tile : List ℕ → Answer Tiled
tile t = after (λ l r. mapped (tile_of l) (core r)) (shape t)

abbrev pub tiled : List ℤ → Tile → Tiled
tiled l c = tile_of (row l c.rank) (cored c.core)

-- ── a tensor view ──
pub record Rested : Type 0 where
  pub strides : Row ℤ
  pub marked : Bool

abbrev pub rest_of : Row ℤ → Bool → Rested
rest_of l m = record { strides = l; marked = m }

unfoldable pub listed : List ℕ → Answer Rested
listed t = after (λ l r. mapped (rest_of l) (among brackets r)) (strides t)

abbrev pub begun : Option Bool → List ℕ → Answer Rested
begun (Some m) r = got (rest_of nothing m) r
begun None r = listed r

abbrev pub given : Bool → List ℕ → Answer Rested
given b r = listed r

-- after the name, at a rank
unfoldable pub rest : ℕ → List ℕ → Answer Rested
rest n t = cond (eqb n 0) (after begun (among opened t)) (after given (among must t))

abbrev pub rested : List ℤ → Rest → Rested
rested l c = record { strides = row l c.len; marked = c.marked }

pub record Tensed : Type 0 where
  pub shape : Row ℤ
  pub element : Scalar
  pub rest : Rested

abbrev pub tens_of : Row ℤ → Scalar → Rested → Tensed
tens_of l s r = record { shape = l; element = s; rest = r }

unfoldable pub tensor : List ℕ → Answer Tensed
tensor t = after (λ l r. after (λ s x. mapped (tens_of l s) (rest l.len x)) (among names r)) (shape t)

abbrev pub tensed : List ℤ → List ℤ → Tensor → Tensed
tensed l m c = tens_of (row l c.rank) c.element (rested m c.rest)
