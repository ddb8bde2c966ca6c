-- The 16 scalars and the name that the writer gives each, which is its first spelling in `parse_scalar` (01, "Written text"). By computation.
use Prim.Native.Nat.{ℕ, zero, suc}
use mathlib.Core.List.{List, [], ◌∷◌, map}
use Rattle.std.specs.Prelude.{Option, None, Some}
use mathlib.Core.Path.{◌≡◌, refl}
use Rattle.lexis.specs.Text.{bytes}
use Rattle.scalars.specs.Names.{Name, ◌is◌}
use Rattle.scalars.specs.declared.scalar.Scalar.{Scalar}
use Rattle.scalars.specs.declared.scalar.Scalar.TheVariants.{I1, I4, I8, I16, I32, I64, F16, BF16, F32, TF32, F64, F8E4M3FN, F8E5M2, F8E8M0FNU, F4E2M1FN, F8E5M3FNU}
use Rattle.meaning.specs.Strict.{word}
use Rattle.meaning.specs.Written.{first}

-- the scalar at a place in a list of names
abbrev at_place : List Name → ℕ → Option Scalar
at_place [] k = None
at_place (n ∷ ns) zero = Some n.scalar
at_place (n ∷ ns) (suc k) = at_place ns k

abbrev pub written_names : List Name
written_names =
    "i1" is I1 ∷
    "i4" is I4 ∷
    "i8" is I8 ∷
    "i16" is I16 ∷
    "i32" is I32 ∷
    "i64" is I64 ∷
    "f16" is F16 ∷
    "bf16" is BF16 ∷
    "f32" is F32 ∷
    "tf32" is TF32 ∷
    "f64" is F64 ∷
    "f8E4M3FN" is F8E4M3FN ∷
    "f8E5M2" is F8E5M2 ∷
    "f8E8M0FNU" is F8E8M0FNU ∷
    "f4E2M1FN" is F4E2M1FN ∷
    "f8E5M3FNU" is F8E5M3FNU ∷ []

pub names_written : map (λ (n : Name). word (first n.scalar)) written_names ≡ map (λ (n : Name). bytes n.spelling) written_names
names_written = refl

-- every scalar stands there
pub all_written : (e : Scalar) → (k : ℕ) × (at_place written_names k ≡ Some e)
all_written I1 = (0, refl)
all_written I4 = (1, refl)
all_written I8 = (2, refl)
all_written I16 = (3, refl)
all_written I32 = (4, refl)
all_written I64 = (5, refl)
all_written F16 = (6, refl)
all_written BF16 = (7, refl)
all_written F32 = (8, refl)
all_written TF32 = (9, refl)
all_written F64 = (10, refl)
all_written F8E4M3FN = (11, refl)
all_written F8E5M2 = (12, refl)
all_written F8E8M0FNU = (13, refl)
all_written F4E2M1FN = (14, refl)
all_written F8E5M3FNU = (15, refl)
