-- Document 01's rows of writing: each text is read as ordinary text and its record written, which the checker computes.
use mathlib.Core.List.{[], ◌∷◌, ◌++◌, map}
use mathlib.Core.Path.{◌≡◌, refl}
use lib.ListN.{replicate}
use Rattle.lexis.specs.Text.{Text, bytes}
use Rattle.meaning.specs.declared.Refusal.TheVariants.{Accepted, NoText, RoomShort}
use Rattle.meaning.specs.Refusals.{number}
use Rattle.meaning.specs.Normal.{lists_clear, rest_blank, normal}
use Rattle.meaning.specs.Written.{Outcome, outcome, refused, written, writing}
use Rattle.meaning.proofs.Open.{reading}

-- what writing the record of a text answers, and the room after it
abbrev from : Text → Text → Outcome
from t room = writing 8 (reading 8 1024 t).value room

abbrev view : Text
view = bytes "partition_view<tile=(4x8), tensor_view<?x16xf32, strides=[16, 1]>, dim_map=[1,0]>"

abbrev view_written : Text
view_written = bytes "!cuda_tile.partition_view<tile=(4x8), tensor_view<?x16xf32, strides=[16,1]>, dim_map=[1,0]>"

-- 91 bytes are enough and 90 are not; what stands behind the text is kept
pub view_row : map (from view) (replicate 93 7 ∷ replicate 91 7 ∷ replicate 90 7 ∷ [])
    ≡ outcome (record { refusal = Accepted; len = 91 }) (view_written ++ (7 ∷ 7 ∷ []))
    ∷ outcome (record { refusal = Accepted; len = 91 }) view_written
    ∷ refused RoomShort (replicate 90 7)
    ∷ []
unfolding reading lists_clear rest_blank normal written writing
view_row = refl

-- a token with attribute: 7, with any room, even none
pub token_row : (room : Text) → from (bytes "token, #cuda_tile.ptr_a, #cuda_tile.ptr_attr<none>ttr<none>") room ≡ refused NoText room
unfolding reading lists_clear rest_blank normal written writing
token_row room = refl

pub seven : number NoText ≡ 7
seven = refl
