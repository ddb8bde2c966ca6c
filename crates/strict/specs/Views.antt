-- What stands in each of the three views, as the code reads it: lists as rows.
use Rattle.std.specs.Prelude.{ℕ, ◌^◌, ◌+◌, Bool, true, false, cond, List, [], ◌∷◌, ◌++◌, ℤ, pos}
use Rattle.lexis.specs.Text.{bytes}
use Rattle.meaning.specs.declared.Padding.{Padding}
use Rattle.meaning.specs.declared.Padding.TheVariants as P
use Rattle.meaning.specs.Strict.{paddings}
use Rattle.grammar.specs.Piece.{Answer, got}
use Rattle.grammar.specs.Join.{mapped, after}
use Rattle.grammar.specs.Table.{Entry, ◌↝◌}
use Rattle.strict.specs.Cursor.{numeral}
use Rattle.strict.specs.Words.{among, table, both}
use Rattle.strict.specs.Rows.{list32}
use Rattle.strict.specs.Lists.{Row, row, nothing, pushes}
use Rattle.strict.specs.Inner.{Tensed, tensor, tensed}
use Rattle.strict.specs.declared.view.Sight.{Sight}
use Rattle.strict.specs.declared.view.Last.{Last}

-- ── tables ──
abbrev pub pads : List (Entry Padding)
pads = table (bytes "zero|neg_zero|nan|pos_inf|neg_inf|") paddings

abbrev pub leads : List (Entry (Unit {0}))
leads = table (bytes ",tensor_view<|, tensor_view<|,!cuda_tile.tensor_view<|, !cuda_tile.tensor_view<|,tensor_view=!cuda_tile.tensor_view<|, tensor_view=!cuda_tile.tensor_view<|") (tt ∷ tt ∷ tt ∷ tt ∷ tt ∷ tt ∷ [])

-- after the entries of the tile, and after those of the traversal: whether a padding begins
abbrev pub mids : List (Entry Bool)
mids =
    table (bytes "),padding_value=|), padding_value=|),tensor_view<|), tensor_view<|") (true ∷ true ∷ false ∷ false ∷ []) ++
    table (bytes "),!cuda_tile.tensor_view<|), !cuda_tile.tensor_view<|") (false ∷ false ∷ []) ++
    table (bytes "),tensor_view=!cuda_tile.tensor_view<|), tensor_view=!cuda_tile.tensor_view<|") (false ∷ false ∷ [])

abbrev pub walk_mids : List (Entry Bool)
walk_mids =
    table (bytes "],padding_value=|], padding_value=|],tensor_view<|], tensor_view<|") (true ∷ true ∷ false ∷ false ∷ []) ++
    table (bytes "],!cuda_tile.tensor_view<|], !cuda_tile.tensor_view<|") (false ∷ false ∷ []) ++
    table (bytes "],tensor_view=!cuda_tile.tensor_view<|], tensor_view=!cuda_tile.tensor_view<|") (false ∷ false ∷ [])

-- the beginnings of a tensor view in one of these
abbrev pub tensors : {A : Type 0} → A → List (Entry A)
tensors a = (bytes "tensor_view<" ↝ a) ∷ (bytes "!cuda_tile.tensor_view<" ↝ a) ∷ (bytes "tensor_view=!cuda_tile.tensor_view<" ↝ a) ∷ []

abbrev pub maps : List (Entry Bool)
maps = both (bytes ",") (bytes "dim_map=[") false (bytes " dim_map=[") true

abbrev pub sparses : List (Entry Bool)
sparses = both (bytes ",") (bytes "sparse_dim=") false (bytes " sparse_dim=") true

abbrev pub travels : List (Entry Bool)
travels = both (bytes "),") (bytes "traversal_strides=[") false (bytes " traversal_strides=[") true

-- ── the tensor view, and the padding before it ──
pub record Seen : Type 0 where
  pub padding : Padding
  pub tensor : Tensed

abbrev pub seen : Padding → Tensed → Seen
seen p t = record { padding = p; tensor = t }

abbrev pub led : Padding → List ℕ → Answer Seen
led p r = after (λ (u : Unit {0}) x. mapped (seen p) (tensor x)) (among leads r)

unfoldable pub sight : Bool → List ℕ → Answer Seen
sight b t = cond b (after led (among pads t)) (mapped (seen P.Absent) (tensor t))

abbrev pub sighted : List ℤ → List ℤ → Sight → Seen
sighted l m v = seen v.padding (tensed l m v.tensor)

-- ── the entries of the tile, and what stands behind them ──
abbrev pub entries : Bool → List ℕ → Answer (Row ℤ)
entries b t = mapped (pushes nothing) (list32 b t)

unfoldable pub mid : Bool → List ℕ → Answer Bool
mid b t = cond b (among mids t) (among walk_mids t)

-- between the tile and that word: nothing, or, in a strided view, the traversal
unfoldable pub walking : Bool → List ℕ → Answer (Row ℤ)
walking bare t = cond bare (got nothing t) (after (λ (k : Bool) x. entries false x) (among travels t))

-- ── the ends ──
abbrev pub map_tail : Row ℤ → List ℕ → Answer (Row ℤ)
map_tail l r = mapped (λ (u : Unit {0}). l) (among ((bytes "]>" ↝ tt) ∷ []) r)

abbrev pub map_from : Bool → List ℕ → Answer (Row ℤ)
map_from k r = after map_tail (entries false r)

unfoldable pub map_part : List ℕ → Answer (Row ℤ)
map_part t = after map_from (among maps t)

abbrev pub small : List ℕ → Answer ℤ
small = numeral (2 ^ 31) (2 ^ 31 + 1)

abbrev pub sparse_tail : ℤ → List ℕ → Answer ℤ
sparse_tail z r = among ((bytes ">" ↝ z) ∷ []) r

abbrev pub sparse_from : Bool → List ℕ → Answer ℤ
sparse_from k r = after sparse_tail (small r)

unfoldable pub sparse_part : List ℕ → Answer ℤ
sparse_part t = after sparse_from (among sparses t)

-- the map, or the sparse dimension
pub record Closed : Type 0 where
  pub map : Row ℤ
  pub sparse : ℤ

abbrev pub closed : Row ℤ → ℤ → Closed
closed m z = record { map = m; sparse = z }

abbrev pub enclosed : List ℤ → Last → Closed
enclosed m e = closed (row m e.map) e.sparse

unfoldable pub ending : Bool → List ℕ → Answer Closed
ending sparse t = cond sparse (mapped (closed nothing) (sparse_part t)) (mapped (λ m. closed m (pos 0)) (map_part t))

-- ── the views ──
pub record Viewed : Type 0 where
  pub tile : Row ℤ
  pub sight : Seen
  pub map : Row ℤ
  pub walk : Row ℤ
  pub sparse : ℤ

abbrev pub viewed : Row ℤ → Seen → Row ℤ → Row ℤ → ℤ → Viewed
viewed t v m w z = record { tile = t; sight = v; map = m; walk = w; sparse = z }
