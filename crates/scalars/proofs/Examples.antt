-- Worked examples of the definition, each by computation (01, module 2).
use mathlib.Core.Path.{◌≡◌, refl}
use mathlib.Core.List.{[], ◌∷◌, ◌++◌, map}
use Rattle.std.specs.Prelude.{None, Some}
use Rattle.lexis.specs.Text.{bytes}
use Rattle.scalars.specs.Names.{scalar_name}
use Rattle.scalars.specs.declared.scalar.Scalar.TheVariants.{I1, I4, I8, I16, I32, I64, F16, BF16, F32, TF32, F64, F8E4M3FN, F8E5M2, F8E8M0FNU, F4E2M1FN, F8E5M3FNU}

-- all 22 spellings
spellings : map scalar_name
    (bytes "i1" ∷ bytes "i4" ∷ bytes "i8" ∷ bytes "i16" ∷ bytes "i32" ∷ bytes "i64"
    ∷ bytes "f16" ∷ bytes "bf16" ∷ bytes "f32" ∷ bytes "tf32" ∷ bytes "f64"
    ∷ bytes "f8E4M3FN" ∷ bytes "f8e4m3fn" ∷ bytes "f8E5M2" ∷ bytes "f8e5m2" ∷ bytes "f8E8M0FNU" ∷ bytes "f8e8m0fnu"
    ∷ bytes "f4E2M1FN" ∷ bytes "f4e2m1fn" ∷ bytes "f8E5M3FNU" ∷ bytes "f8e5m3fnu" ∷ bytes "bool" ∷ [])
    ≡ map Some
    (I1 ∷ I4 ∷ I8 ∷ I16 ∷ I32 ∷ I64
    ∷ F16 ∷ BF16 ∷ F32 ∷ TF32 ∷ F64
    ∷ F8E4M3FN ∷ F8E4M3FN ∷ F8E5M2 ∷ F8E5M2 ∷ F8E8M0FNU ∷ F8E8M0FNU
    ∷ F4E2M1FN ∷ F4E2M1FN ∷ F8E5M3FNU ∷ F8E5M3FNU ∷ I1 ∷ [])
unfolding scalar_name
spellings = refl

spaced : scalar_name (11 ∷ bytes "f32" ++ 11 ∷ []) ≡ Some F32
unfolding scalar_name
spaced = refl

unknown : map scalar_name (bytes "I32" ∷ bytes "f8E4m3fn" ∷ bytes "i2" ∷ bytes "i1 x" ∷ [] ∷ (160 ∷ bytes "i1") ∷ []) ≡ None ∷ None ∷ None ∷ None ∷ None ∷ None ∷ []
unfolding scalar_name
unknown = refl
