-- What holds of a value that may be lacking, and how it is carried through `each` and `>>=`.
use mathlib.Core.Bool.{Bool, true, false}
use Rattle.std.specs.Prelude.{Option, None, Some}
use mathlib.Core.Path.{◌≡◌, refl}
use Rattle.meaning.specs.Parts.{each}
use Rattle.meaning.specs.Written.{◌>>=◌, unless}

abbrev pub When : {A : Type 0} → (A → Type 0) → Option A → Type 0
When P None = Unit {0}
When P (Some a) = P a

pub all_each : {A B : Type 0} (Q : B → Type 0) (f : A → B) → ((a : A) → Q (f a)) → (o : Option A) → When Q (each f o)
all_each Q f h None = tt
all_each Q f h (Some a) = h a

module _ {A B : Type 0} (P : A → Type 0) (Q : B → Type 0) where
  pub when_each : (f : A → B) → ((a : A) → P a → Q (f a)) → (o : Option A) → When P o → When Q (each f o)
  when_each f h None w = tt
  when_each f h (Some a) w = h a w

  pub when_bind : (f : A → Option B) → ((a : A) → P a → When Q (f a)) → (o : Option A) → When P o → When Q (o >>= f)
  when_bind f h None w = tt
  when_bind f h (Some a) w = h a w

pub when_unless : {A : Type 0} (P : A → Type 0) (b : Bool) (a : A) → (b ≡ false → P a) → When P (unless b a)
when_unless P true a h = tt
when_unless P false a h = h refl
