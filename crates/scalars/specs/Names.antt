-- Scalars (01, module 2): the 16 types, their 22 accepted spellings, widths and classes.
use Rattle.std.specs.Prelude.{if◌then◌else◌, ℕ, ◌*◌, Bool, true, false, List, [], ◌∷◌, Option, None, Some}
use Prim.Native.String.{String}
use Rattle.lexis.specs.Text.{Text, bytes, same, trim}
use Rattle.scalars.specs.declared.scalar.Scalar.{Scalar}
use Rattle.scalars.specs.declared.scalar.Scalar.TheVariants.{I1, I4, I8, I16, I32, I64, F16, BF16, F32, TF32, F64, F8E4M3FN, F8E5M2, F8E8M0FNU, F4E2M1FN, F8E5M3FNU}

pub record Name : Type 0 where
  pub spelling : String
  pub scalar : Scalar

infix 80 ◌is◌
abbrev pub ◌is◌ : String → Scalar → Name
n is s = record { spelling = n; scalar = s }

-- the accepted spellings, in the order of `parse_scalar`
abbrev pub names : List Name
names =
    "i1" is I1 ∷
    "i4" is I4 ∷
    "i8" is I8 ∷
    "i16" is I16 ∷
    "i32" is I32 ∷
    "i64" is I64 ∷
    "f16" is F16 ∷
    "bf16" is BF16 ∷
    "f32" is F32 ∷
    "tf32" is TF32 ∷
    "f64" is F64 ∷
    "f8E4M3FN" is F8E4M3FN ∷ "f8e4m3fn" is F8E4M3FN ∷
    "f8E5M2" is F8E5M2 ∷ "f8e5m2" is F8E5M2 ∷
    "f8E8M0FNU" is F8E8M0FNU ∷ "f8e8m0fnu" is F8E8M0FNU ∷
    "f4E2M1FN" is F4E2M1FN ∷ "f4e2m1fn" is F4E2M1FN ∷
    "f8E5M3FNU" is F8E5M3FNU ∷ "f8e5m3fnu" is F8E5M3FNU ∷
    "bool" is I1 ∷ []

abbrev pub named_in : List Name → Text → Option Scalar
named_in [] s = None
named_in (n ∷ ns) s = if same (bytes n.spelling) s then Some n.scalar else named_in ns s

-- the scalar that a text names, white space around it aside
unfoldable pub scalar_name : Text → Option Scalar
scalar_name s = named_in names (trim s)

-- ── widths and classes ──

abbrev pub byte_width : Scalar → ℕ
byte_width I1 = 1
byte_width I4 = 1
byte_width I8 = 1
byte_width I16 = 2
byte_width I32 = 4
byte_width I64 = 8
byte_width F16 = 2
byte_width BF16 = 2
byte_width F32 = 4
byte_width TF32 = 4
byte_width F64 = 8
byte_width F8E4M3FN = 1
byte_width F8E5M2 = 1
byte_width F8E8M0FNU = 1
byte_width F4E2M1FN = 1
byte_width F8E5M3FNU = 1

abbrev pub integer : Scalar → Bool
integer I1 = true
integer I4 = true
integer I8 = true
integer I16 = true
integer I32 = true
integer I64 = true
integer F16 = false
integer BF16 = false
integer F32 = false
integer TF32 = false
integer F64 = false
integer F8E4M3FN = false
integer F8E5M2 = false
integer F8E8M0FNU = false
integer F4E2M1FN = false
integer F8E5M3FNU = false

-- 1 for I1, 4 for I4 and F4E2M1FN, else 8 times the byte width
abbrev pub bit_width : Scalar → ℕ
bit_width I1 = 1
bit_width I4 = 4
bit_width F4E2M1FN = 4
bit_width I8 = 8 * byte_width I8
bit_width I16 = 8 * byte_width I16
bit_width I32 = 8 * byte_width I32
bit_width I64 = 8 * byte_width I64
bit_width F16 = 8 * byte_width F16
bit_width BF16 = 8 * byte_width BF16
bit_width F32 = 8 * byte_width F32
bit_width TF32 = 8 * byte_width TF32
bit_width F64 = 8 * byte_width F64
bit_width F8E4M3FN = 8 * byte_width F8E4M3FN
bit_width F8E5M2 = 8 * byte_width F8E5M2
bit_width F8E8M0FNU = 8 * byte_width F8E8M0FNU
bit_width F8E5M3FNU = 8 * byte_width F8E5M3FNU
