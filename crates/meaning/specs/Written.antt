-- Written text (01, "Written text"): the text of a record's plain form, so that being strict holds by construction; which
-- records have none; and what the writer answers and leaves in the room.
use Rattle.std.specs.Prelude.{if◌then◌else◌, ℕ, ◌-◌, ◌^◌, Bool, true, false, List, [], ◌∷◌, ◌++◌, map, eqb, leb, ℤ, pos, negsuc, length, take, drop, Option, None, Some}
use Rattle.lexis.specs.Text.{Text}
use Rattle.scalars.specs.declared.scalar.Scalar.{Scalar}
use Rattle.scalars.specs.declared.scalar.Scalar.TheVariants.{I1, I4, I8, I16, I32, I64, F16, BF16, F32, TF32, F64, F8E4M3FN, F8E5M2, F8E8M0FNU, F4E2M1FN, F8E5M3FNU}
use Rattle.meaning.specs.declared.Kind.{Kind}
use Rattle.meaning.specs.declared.Kind.TheVariants as K
use Rattle.meaning.specs.declared.Padding.{Padding}
use Rattle.meaning.specs.declared.Padding.TheVariants.{Absent, Zero, NegZero, Nan, PosInf, NegInf}
use Rattle.meaning.specs.declared.Record.{Record}
use Rattle.meaning.specs.declared.Refusal.{Refusal}
use Rattle.meaning.specs.declared.Refusal.TheVariants.{Accepted, NotNormal, NoText, RoomShort}
use Rattle.meaning.specs.declared.Written.{Written}
use Rattle.meaning.specs.Normal.{normal}
use Rattle.meaning.specs.Parts.{each}
use Rattle.meaning.specs.Decimal.{Dim, dynamic, known}
use Rattle.meaning.specs.Strict as S
use Rattle.meaning.specs.Strict.{Name, Commas, Entries, by_x, Strides, Pads, Tensor, Pointer, View, Form, spell}

infixl 20 ◌>>=◌
abbrev pub ◌>>=◌ : {A B : Type 0} → Option A → (A → Option B) → Option B
None >>= f = None
Some a >>= f = f a

abbrev pub unless : {A : Type 0} → Bool → A → Option A
unless true a = None
unless false a = Some a

-- ── the choices: first spellings, no space inside lists ──

-- the first spelling of a scalar, as in `parse_scalar`: its place among the 22
abbrev pub first : Scalar → Name
first I1 = record { index = 0; within = tt }
first I4 = record { index = 1; within = tt }
first I8 = record { index = 2; within = tt }
first I16 = record { index = 3; within = tt }
first I32 = record { index = 4; within = tt }
first I64 = record { index = 5; within = tt }
first F16 = record { index = 6; within = tt }
first BF16 = record { index = 7; within = tt }
first F32 = record { index = 8; within = tt }
first TF32 = record { index = 9; within = tt }
first F64 = record { index = 10; within = tt }
first F8E4M3FN = record { index = 11; within = tt }
first F8E5M2 = record { index = 13; within = tt }
first F8E8M0FNU = record { index = 15; within = tt }
first F4E2M1FN = record { index = 17; within = tt }
first F8E5M3FNU = record { index = 19; within = tt }

abbrev pub pads_of : Padding → Pads
pads_of Absent = S.Pads.absent
pads_of Zero = S.Pads.given (record { index = 0; within = tt }) true
pads_of NegZero = S.Pads.given (record { index = 1; within = tt }) true
pads_of Nan = S.Pads.given (record { index = 2; within = tt }) true
pads_of PosInf = S.Pads.given (record { index = 3; within = tt }) true
pads_of NegInf = S.Pads.given (record { index = 4; within = tt }) true

-- the smallest i64 is `?`
abbrev pub unknown : ℤ → Bool
unknown (pos n) = false
unknown (negsuc n) = eqb n (2 ^ 63 - 1)

abbrev pub dimension_of : ℤ → Dim
dimension_of z = if unknown z then dynamic else known z

-- an empty list has no text
abbrev pub listed : {A : Type 0} → (ℤ → A) → List ℤ → Option (Commas A)
listed f [] = None
listed f (z ∷ zs) = Some (record { head = f z; tail = map (λ (z : ℤ). record { space = false; entry = f z }) zs })

-- tile entries are parted by `x`
abbrev pub x_joined : List ℤ → Option Entries
x_joined [] = None
x_joined (z ∷ zs) = Some (by_x z zs)

-- strides are present unless empty; empty strides with a shape have no text
abbrev pub strides_of : List ℤ → List ℤ → Option Strides
strides_of [] [] = Some S.Strides.absent
strides_of (d ∷ ds) [] = None
strides_of ds (z ∷ zs) = each (S.Strides.given true) (listed dimension_of (z ∷ zs))

-- ── a record's lists, and the parts of its form ──

abbrev pub shape_in : Record → List ℤ
shape_in r = take r.shape_len r.shape

abbrev pub strides_in : Record → List ℤ
strides_in r = take r.strides_len r.strides

abbrev pub tile_in : Record → List ℤ
tile_in r = take r.tile_len r.tile

abbrev pub map_in : Record → List ℤ
map_in r = take r.map_len r.map

abbrev pub traversal_in : Record → List ℤ
traversal_in r = take r.traversal_len r.traversal

-- `!cuda_tile.` on a tile's pointer, as on every outer name
abbrev pub pointer_of : Record → Pointer
pointer_of r = record { front = true; name = first r.element; marked = r.attribute }

abbrev pub tensor_of : Scalar → Bool → List ℤ → List ℤ → Option Tensor
tensor_of e m ds zs = each (λ s. record { shape = map dimension_of ds; name = first e; strides = s; marked = m }) (strides_of ds zs)

-- none on the inner tensor view; one space after commas between clauses
abbrev pub view_of : Padding → List ℤ → Option Tensor → Option View
view_of p ts o =
    x_joined ts >>= λ e.
    o >>= λ t.
    Some (record { front = true; tile = e; space = true; padding = pads_of p; intro = S.bare; tensor = t; space' = true })

abbrev pub tensor_in : Record → Option Tensor
tensor_in r = tensor_of r.element r.attribute (shape_in r) (strides_in r)

abbrev pub view_in : Record → Option View
view_in r = view_of r.padding (tile_in r) (tensor_in r)

-- ── the form whose text is written; an attribute on a scalar, scalar tile or token has none ──

abbrev pub form_as : Kind → Record → Option Form
form_as K.Scalar r = unless r.attribute (S.scalar (first r.element))
form_as K.Pointer r = Some (S.ptr (pointer_of r))
form_as K.Tile r =
    if r.pointer then Some (S.tile true (map dimension_of (shape_in r)) (S.pointer (pointer_of r)))
    else unless r.attribute (S.tile true (map dimension_of (shape_in r)) (S.plain (first r.element)))
form_as K.TensorView r = each (S.tensor true) (tensor_in r)
form_as K.Partition r = view_in r >>= λ v. each (S.partition v) (listed (λ z. z) (map_in r))
form_as K.GatherScatter r = each (λ v. S.gather v r.sparse) (view_in r)
form_as K.Strided r =
    view_in r >>= λ v.
    listed (λ z. z) (traversal_in r) >>= λ t.
    each (S.strided v t true) (listed (λ z. z) (map_in r))
form_as K.Token r = unless r.attribute (S.token true)

abbrev pub form : Record → Option Form
form r = form_as r.kind r

unfoldable pub written : Record → Option Text
written r = each spell (form r)

-- ── the writer's answer and the room after it: refusals 6, 7, 8 in this order ──

pub record Outcome : Type 0 where
  pub answer : Written
  pub room : Text

abbrev pub outcome : Written → Text → Outcome
outcome w room = record { answer = w; room = room }

-- length 0, and no byte touched
abbrev pub refused : Refusal → Text → Outcome
refused why room = outcome (record { refusal = why; len = 0 }) room

-- the first n bytes are the text, and the rest is kept
abbrev pub laid_in : Text → Text → Outcome
laid_in room t =
    if leb (length t) (length room) then outcome (record { refusal = Accepted; len = length t }) (t ++ drop (length t) room)
    else refused RoomShort room

abbrev pub texted : Option Text → Text → Outcome
texted None room = refused NoText room
texted (Some t) room = laid_in room t

unfoldable pub writing : ℕ → Record → Text → Outcome
writing cap r room = if normal cap r then texted (written r) room else refused NotNormal room
