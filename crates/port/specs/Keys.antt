-- The keywords: each with the number of its bytes behind the one by which it is known.
use Rattle.std.specs.Prelude.{ℕ, ◌+◌, ◌-◌, ◌≤◌, ◌<◌, ◌≡◌, length, take, drop, Option, None, Some}
use Rattle.lexis.specs.Text.{Text, bytes, cut, place}
use Rattle.meaning.specs.Parts.{each, close, content}
use Rattle.port.specs.Seen.{told, Sight}
use Rattle.port.specs.declared.keys.Places.{Places}
use Rattle.port.specs.declared.survey.Scanning.{Scanning}

-- n says the first `tensor_view<` behind the first `tile=(`, whose place is t: its place from there on
pub record Behind (s : Text) (i t n : ℕ) : Type 0 where
  pub past : t < length s → Sight (bytes "tensor_view<") 0 (drop (t + 6) s) (i - (t + 6)) n
  pub shut : length s ≤ t → n ≡ length s

-- what has been sighted before the place i
pub record Sights (s : Text) (i : ℕ) (r : Places) : Type 0 where
  pub ptr : Sight (bytes "ptr<") 0 s i r.ptr
  pub spaced : Sight (bytes ", strides=") 0 s i r.spaced
  pub bare : Sight (bytes ",strides=") 0 s i r.bare
  pub tile : Sight (bytes "tile=(") 1 s i r.tile
  pub map : Sight (bytes "dim_map=[") 1 s i r.map
  pub traversal : Sight (bytes "traversal_strides=[") 1 s i r.traversal
  pub sparse : Sight (bytes "sparse_dim=") 0 s i r.sparse
  pub named : Sight (bytes "tensor_view=!cuda_tile.tensor_view<") 0 s i r.named
  pub prefixed : Sight (bytes "!cuda_tile.tensor_view<") 0 s i r.prefixed
  pub padding : Sight (bytes "padding_value") 6 s i r.padding
  pub plain : Behind s i r.tile r.plain

-- n says the first place of p in c
pub record Spot (p c : Text) (n : ℕ) : Type 0 where
  pub is : told (length c) n ≡ place (cut p c)

-- n says the first `tensor_view<` behind the `tile=(` at t
pub record Later (c : Text) (t n : ℕ) : Type 0 where
  pub past : t < length c → Spot (bytes "tensor_view<") (drop (t + 6) c) n

-- the first places of the keywords in a content
pub record Placed (c : Text) (r : Places) : Type 0 where
  pub ptr : Spot (bytes "ptr<") c r.ptr
  pub spaced : Spot (bytes ", strides=") c r.spaced
  pub bare : Spot (bytes ",strides=") c r.bare
  pub tile : Spot (bytes "tile=(") c r.tile
  pub map : Spot (bytes "dim_map=[") c r.map
  pub traversal : Spot (bytes "traversal_strides=[") c r.traversal
  pub sparse : Spot (bytes "sparse_dim=") c r.sparse
  pub named : Spot (bytes "tensor_view=!cuda_tile.tensor_view<") c r.named
  pub prefixed : Spot (bytes "!cuda_tile.tensor_view<") c r.prefixed
  pub padding : Spot (bytes "padding_value") c r.padding
  pub plain : Later c r.tile r.plain

-- a place is at most n
abbrev pub AtMost : ℕ → Option ℕ → Type 0
AtMost n (Some i) = i ≤ n
AtMost n None = Unit {0}

-- what stands before a place: all, where there is none
abbrev pub before : Text → Option ℕ → Text
before s None = s
before s (Some n) = take n s

-- where the content ends, if it does, and the places in what stands before
pub record Scanned (s : Text) (r : Scanning) : Type 0 where
  pub end : r.end ≡ place (close 0 s)
  pub inside : AtMost (length s) r.end
  pub places : Placed (before s r.end) r.places

-- the same of the content, which may end at a final `>`
pub record Contained (s : Text) (r : Scanning) : Type 0 where
  pub end : r.end ≡ each length (content s)
  pub inside : AtMost (length s) r.end
  pub places : Placed (before s r.end) r.places

-- what follows a place, where there is one
abbrev pub from : Text → Option ℕ → Option Text
from c None = None
from c (Some x) = Some (drop x c)
