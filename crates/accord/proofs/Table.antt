-- The rows of document 01, whole: each text with what the ordinary reader, the strict reader and the writer answer. One table, one theorem:
-- the three columns are computed by the checker, and the strict one is turned into the definition by `answer_right`.
use Rattle.std.specs.Prelude.{if◌then◌else◌, Option, None, Some}
use Prim.Native.Nat.{ℕ}
use Prim.Native.String.{String}
use mathlib.Core.Bool.{false}
use mathlib.Core.List as L
use mathlib.Core.List.{List, [], ◌∷◌, ◌++◌}
use mathlib.Core.Path.{◌≡◌, refl, subst, ap}
use native.Mathlib.Omega.{arith}
use lib.Dec.{eqb}
use lib.IntN.{pos}
use lib.ListN.{length, drop, replicate}
use Rattle.lexis.specs.Text.{Text, bytes}
use Rattle.scalars.specs.declared.scalar.Scalar.TheVariants.{F32}
use Rattle.meaning.specs.declared.Kind.TheVariants as K
use Rattle.meaning.specs.declared.Padding.TheVariants.{Absent}
use Rattle.meaning.specs.declared.Reading.{Reading}
use Rattle.meaning.specs.declared.Refusal.TheVariants.{Accepted, NotStrict, TooMany, NoType, NoText}
use Rattle.meaning.specs.Refusals.{number}
use Rattle.meaning.specs.Ordinary.{ordinary}
use Rattle.meaning.specs.Meant.{Strictly, fits, flat_any, taken}
use Rattle.meaning.specs.Normal.{lists_clear, rest_blank, normal}
use Rattle.meaning.specs.Written as W
use Rattle.meaning.proofs.Open.{reading}
use Rattle.meaning.proofs.Answers.{Row, row, type, refused, DYN}
use Rattle.meaning.proofs.Rows.{rows}
use Rattle.grammar.proofs.Answer.{answer, answer_right}

-- ── the columns ──
pub data Writes : Type 0 where
  text : String → Writes
  no_text : Writes
  nothing_read : Writes

pub record Columns : Type 0 where
  pub strict : Reading
  pub writes : Writes

-- a text that is not strict, and what is written of what the ordinary reader makes of it
abbrev loose : Writes → Columns
loose w = record { strict = refused NotStrict 0; writes = w }

-- a strict text: the same answer, and what is written of it
abbrev strict : Reading → Writes → Columns
strict r w = record { strict = r; writes = w }

abbrev view : Reading
view = type K.Partition F32 false false (DYN ∷ pos 16 ∷ []) (pos 16 ∷ pos 1 ∷ []) (pos 4 ∷ pos 8 ∷ []) (pos 1 ∷ pos 0 ∷ []) [] (pos 0) Absent 0 0 0 0

abbrev eight : Reading
eight = type K.Tile F32 false false (L.map (λ (k : ℕ). pos 1) (replicate 8 0)) [] [] [] [] (pos 0) Absent 0 0 0 0

-- the rows marked P, in document 01's order, then those that are not
abbrev pub all_rows : List Row
all_rows = rows ++ (row "tile<1x1x1x1x1x1x1x1xf32>" eight ∷ row "tile<1x1x1x1x1x1x1x1x1xf32>" (refused TooMany 0) ∷ row "" (refused NoType 0) ∷ [])

abbrev pub columns : List Columns
columns =
    loose (text "!cuda_tile.tile<f32>") ∷
    loose (text "!cuda_tile.tile<?xf32>") ∷
    loose (text "!cuda_tile.tile<?x?xf32>") ∷
    loose (text "!cuda_tile.tile<?x!cuda_tile.ptr<f32>>") ∷
    loose (text "!cuda_tile.tile<4x?x!cuda_tile.ptr<f32>>") ∷
    loose (text "!cuda_tile.tensor_view<f32, strides=[?]>") ∷
    loose (text "!cuda_tile.tensor_view<4xf32, strides=[?]>") ∷
    loose (text "!cuda_tile.partition_view<tile=(1), tensor_view<f32>, dim_map=[0]>") ∷
    loose (text "!cuda_tile.gather_scatter_view<tile=(2), tensor_view<4xf32, strides=[1]>, sparse_dim=0>") ∷
    loose no_text ∷
    loose nothing_read ∷
    loose (text "!cuda_tile.tile<?xf32>") ∷
    strict view (text "!cuda_tile.partition_view<tile=(4x8), tensor_view<?x16xf32, strides=[16,1]>, dim_map=[1,0]>") ∷
    strict eight (text "!cuda_tile.tile<1x1x1x1x1x1x1x1xf32>") ∷
    strict (refused TooMany 0) nothing_read ∷
    loose nothing_read ∷ []

-- ── what they say ──
-- a room with bytes behind every text
abbrev room : Text
room = replicate 120 7

-- the record that was read, written
abbrev pub wrote : Reading → Option W.Outcome
wrote r = if eqb (number r.refusal) 0 then Some (W.writing 8 r.value room) else None

abbrev pub says : Writes → Option W.Outcome
says (text s) = Some (W.outcome (record { refusal = Accepted; len = length (bytes s) }) (bytes s ++ drop (length (bytes s)) room))
says no_text = Some (W.refused NoText room)
says nothing_read = None

pub record Held (r : Row) (c : Columns) : Type 0 where
  pub ordinary : ordinary 8 1024 (bytes r.text) ≡ r.answer
  pub strict : Strictly 8 1024 (bytes r.text) c.strict
  pub written : wrote r.answer ≡ says c.writes

abbrev pub Hold : List Row → List Columns → Type 0
Hold [] [] = Unit {0}
Hold [] (c ∷ cs) = ⊥
Hold (r ∷ rs) [] = ⊥
Hold (r ∷ rs) (c ∷ cs) = Held r c × Hold rs cs

-- ── shown ──
record Line : Type 0 where
  ordinary : Reading
  strict : Reading
  written : Option W.Outcome

abbrev worked : Row → Line
worked r = record { ordinary = reading 8 1024 (bytes r.text); strict = answer 8 1024 (bytes r.text); written = wrote r.answer }

abbrev expected : List Row → List Columns → List Line
expected [] cs = []
expected (r ∷ rs) [] = []
expected (r ∷ rs) (c ∷ cs) = record { ordinary = r.answer; strict = c.strict; written = says c.writes } ∷ expected rs cs

abbrev first : Line → List Line → Line
first d [] = d
first d (x ∷ xs) = x

abbrev rest : List Line → List Line
rest [] = []
rest (x ∷ xs) = xs

by_lines : (rs : List Row) (cs : List Columns) → length rs ≡ length cs → L.map worked rs ≡ expected rs cs → Hold rs cs
unfolding reading
by_lines [] [] l e = tt
by_lines [] (c ∷ cs) l e = let f : ⊥ = omega arith in f
by_lines (r ∷ rs) [] l e = let f : ⊥ = omega arith in f
by_lines (r ∷ rs) (c ∷ cs) l e = let h = ap (first (worked r)) e in (
  record {
    ordinary = ap (λ (x : Line). x.ordinary) h;
    strict = subst (Strictly 8 1024 (bytes r.text)) (ap (λ (x : Line). x.strict) h) (answer_right 8 1024 (bytes r.text));
    written = ap (λ (x : Line). x.written) h;
  },
  by_lines rs cs (omega arith) (ap rest e),
)

lines : L.map worked all_rows ≡ expected all_rows columns
unfolding reading answer fits flat_any taken lists_clear rest_blank normal W.written W.writing
lines = refl

pub rows_hold : Hold all_rows columns
rows_hold = by_lines all_rows columns refl lines
