-- The scalars' widths and classes as the Rust gives them, and their bits. Written by `oracle table`.
use mathlib.Core.Path.{◌≡◌, refl}
use mathlib.Core.Bool.{true, false, not}
use mathlib.Core.List as L
use mathlib.Core.List.{List, [], ◌∷◌}
use Rattle.scalars.specs.Names.{byte_width, integer, bit_width}
use Rattle.scalars.specs.declared.scalar.Scalar.{Scalar}
use Rattle.scalars.specs.declared.scalar.Scalar.TheVariants as S

abbrev all : List Scalar
all = S.I1 ∷ S.I4 ∷ S.I8 ∷ S.I16 ∷ S.I32 ∷ S.I64 ∷ S.F16 ∷ S.BF16 ∷ S.F32 ∷ S.TF32 ∷ S.F64 ∷ S.F8E4M3FN ∷ S.F8E5M2 ∷ S.F8E8M0FNU ∷ S.F4E2M1FN ∷ S.F8E5M3FNU ∷ []

pub widths : L.map byte_width all ≡ 1 ∷ 1 ∷ 1 ∷ 2 ∷ 4 ∷ 8 ∷ 2 ∷ 2 ∷ 4 ∷ 4 ∷ 8 ∷ 1 ∷ 1 ∷ 1 ∷ 1 ∷ 1 ∷ []
widths = refl

pub integers : L.map integer all ≡ true ∷ true ∷ true ∷ true ∷ true ∷ true ∷ false ∷ false ∷ false ∷ false ∷ false ∷ false ∷ false ∷ false ∷ false ∷ false ∷ []
integers = refl

pub floats : L.map (λ s. not (integer s)) all ≡ false ∷ false ∷ false ∷ false ∷ false ∷ false ∷ true ∷ true ∷ true ∷ true ∷ true ∷ true ∷ true ∷ true ∷ true ∷ true ∷ []
floats = refl

pub bits : L.map bit_width all ≡ 1 ∷ 4 ∷ 8 ∷ 16 ∷ 32 ∷ 64 ∷ 16 ∷ 16 ∷ 32 ∷ 32 ∷ 64 ∷ 8 ∷ 8 ∷ 8 ∷ 4 ∷ 8 ∷ []
bits = refl
