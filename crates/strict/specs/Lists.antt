-- Lists as the code has them: the first eight entries and the true number; and a list with entries more.
use Rattle.std.specs.Prelude.{ℕ, ◌+◌, List, [], ◌∷◌, set, ℤ}
use Rattle.meaning.specs.Found.{padded}

pub record Row (A : Type 0) : Type 0 where
  pub values : List A
  pub len : ℕ

abbrev pub row : {A : Type 0} → List A → ℕ → Row A
row l n = record { values = l; len = n }

abbrev pub nothing : Row ℤ
nothing = record { values = padded 8 []; len = 0 }

abbrev pub pushed : {A : Type 0} → Row A → A → Row A
pushed l z = record { values = set l.values l.len z; len = l.len + 1 }

abbrev pub pushes : {A : Type 0} → Row A → List A → Row A
pushes l [] = l
pushes l (z ∷ zs) = pushes (pushed l z) zs
