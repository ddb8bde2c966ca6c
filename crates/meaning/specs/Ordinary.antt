-- `Type::parse` (01, module 7), and what the ordinary reader answers.
use Rattle.std.specs.Prelude.{if◌then◌else◌, ℕ, zero, suc, ◌||◌, List, [], ◌∷◌, leb, length, Option, None, Some}
use Prim.Native.String.{String}
use Rattle.lexis.specs.Text.{Text, bytes, same, trim, nowhere, at, cut}
use Rattle.scalars.specs.Names.{scalar_name}
use Rattle.meaning.specs.Parts.{each, bracketed, remove}
use Rattle.meaning.specs.Found.{Found, plain, token, with_attribute, flat, within, counts, unnoted}
use Rattle.meaning.specs.Tile.{tile, tensor_view}
use Rattle.meaning.specs.Views.{partition_view, gather_scatter_view, strided_view}
use Rattle.meaning.specs.declared.Kind.TheVariants as K
use Rattle.meaning.specs.declared.Reading.{Reading}
use Rattle.meaning.specs.declared.Refusal.{Refusal}
use Rattle.meaning.specs.declared.Refusal.TheVariants.{Accepted, TooLong, HighByte, NoType, TooMany}

unfoldable pub pointer : Text → Option Found
pointer s = each (plain K.Pointer) (scalar_name s)

-- a form: what it opens with, and how its content is read
pub record Form : Type 0 where
  pub opens : String
  pub content : Text → Option Found

infix 80 ◌reads◌
abbrev pub ◌reads◌ : String → (Text → Option Found) → Form
p reads f = record { opens = p; content = f }

-- the prefixed and shorthand forms
unfoldable pub forms : List Form
forms =
    "!cuda_tile.tile<" reads tile ∷
    "!cuda_tile.tensor_view<" reads tensor_view ∷
    "!cuda_tile.partition_view<" reads partition_view ∷
    "!cuda_tile.gather_scatter_view<" reads gather_scatter_view ∷
    "!cuda_tile.strided_view<" reads strided_view ∷
    "!cuda_tile.ptr<" reads pointer ∷
    "tile<" reads tile ∷
    "tensor_view<" reads tensor_view ∷
    "partition_view<" reads partition_view ∷
    "gather_scatter_view<" reads gather_scatter_view ∷
    "strided_view<" reads strided_view ∷
    "ptr<" reads pointer ∷ []

-- a form that applies decides: where its content can't be read, no other form is tried; at last a bare scalar
abbrev pub by_forms : List Form → Text → Option Found
by_forms [] s = each (plain K.Scalar) (scalar_name s)
by_forms (f ∷ fs) s = elim (bracketed (bytes f.opens) s) [ Some t ↦ f.content t | None ↦ by_forms fs s ]

-- a trimmed text without marks
unfoldable pub unmarked : Text → Option Found
unmarked s = if same s (bytes "!cuda_tile.token") || same s (bytes "token") then Some token else by_forms forms s

unfoldable pub mark : Text
mark = bytes ", #cuda_tile.ptr_attr<none>"

-- trim; while the mark occurs, remove all and read again, at most n times
abbrev pub passes : ℕ → Text → Option Found
passes zero s = None
passes (suc n) s = elim (cut mark (trim s)) [ nowhere ↦ unmarked (trim s) | at u t ↦ each with_attribute (passes n (remove mark (trim s))) ]

-- each pass shortens the text, so that its length is passes enough
unfoldable pub parse : Text → Option Found
parse s = passes (suc (length s)) s

-- ── the ordinary reader's answer: refusals 1, 2, 3, 4 in this order ──

-- the place of the first byte of 128 or more, counted from k
abbrev pub high_from : ℕ → Text → Option ℕ
high_from k [] = None
high_from k (b ∷ s) = if leb 128 b then Some k else high_from (suc k) s

-- the blank record and zero counts
unfoldable pub refused : ℕ → Refusal → ℕ → Reading
refused cap r place = record { refusal = r; place = place; value = flat cap token; note = unnoted }

unfoldable pub accepted : ℕ → Found → Reading
accepted cap t = record { refusal = Accepted; place = 0; value = flat cap t; note = counts t }

abbrev pub judged : ℕ → Option Found → Reading
judged cap None = refused cap NoType 0
judged cap (Some t) = if within cap t then accepted cap t else refused cap TooMany 0

abbrev pub read_ascii : ℕ → Text → Option ℕ → Reading
read_ascii cap s (Some place) = refused cap HighByte place
read_ascii cap s None = judged cap (parse s)

-- for lists of at most `cap` entries and texts of at most `size` bytes
unfoldable pub ordinary : ℕ → ℕ → Text → Reading
ordinary cap size s = if leb (length s) size then read_ascii cap s (high_from 0 s) else refused cap TooLong 0
