-- The items that stand one after the other, without what ends them: a list of any length. The fuel is enough (proofs/Rows).
use Rattle.std.specs.Prelude.{ℕ, zero, suc, Bool, true, false, cond, ◌&&◌, List, [], ◌∷◌, length, drop, get_or, ℤ, eqb, ◌≡◌, ◌^◌, ◌+◌, ◌<◌}
use Rattle.grammar.specs.Piece.{member, Answer, got, stuck, Piece}
use Rattle.grammar.specs.Join.{mapped, after}
use Rattle.meaning.specs.Decimal.{decimal, in32, in64, dim, size}
use Rattle.lexis.specs.Text.{bytes}
use Rattle.strict.specs.Cursor.{numeral, dimension, skip}
use Rattle.grammar.specs.Table.{◌↝◌}
use Rattle.strict.specs.Words.{among}
use Rattle.grammar.specs.Several.{same}
use Rattle.grammar.proofs.Several.{num32, dim64, item, x32, dimx}

abbrev pub more : {A : Type 0} → A → List A → List A
more z zs = z ∷ zs

-- what an item reads, and the list from there
abbrev pub listed : {A : Type 0} → (List ℕ → Answer (List A)) → Answer A → Answer (List A)
listed f p = after (λ z r. mapped (more z) (f r)) p

-- a list of items: it ends with the text, or before a byte that begins none, or goes on with an item, which is not empty
pub record Parts {A : Type 0} (f : List ℕ → Answer (List A)) (F : List ℕ) (g : List ℕ → Answer A) : Type 0 where
  pub nil : f [] ≡ got [] []
  pub off : (c : ℕ) (t : List ℕ) → member c F ≡ false → f (c ∷ t) ≡ got [] (c ∷ t)
  pub on : (c : ℕ) (t : List ℕ) → member c F ≡ true → f (c ∷ t) ≡ listed f (g (c ∷ t))
  pub shorter : (c : ℕ) (t r : List ℕ) (z : A) → member c F ≡ true → g (c ∷ t) ≡ got z r → length r < length (c ∷ t)

module _ {F : List ℕ} {E : ℤ → List ℕ} (P : Piece false F ℤ E) where
  abbrev pub run : ℕ → List ℕ → Answer (List ℤ)
  run zero t = stuck t
  run (suc k) [] = got [] []
  run (suc k) (c ∷ t) = cond (member c F) (after (λ z r. mapped (more z) (run k r)) (P.read (c ∷ t))) (got [] (c ∷ t))

  abbrev pub rows : List ℕ → Answer (List ℤ)
  rows t = run (suc (length t)) t

-- a comma and a numeral, again and again; an `x` and a numeral; a comma and a dimension; a dimension and an `x`
unfoldable pub commas32 : List ℕ → Answer (List ℤ)
commas32 = rows (item num32 tt in32 decimal same (λ a t i. i) (λ a t i. i))

unfoldable pub xs32 : List ℕ → Answer (List ℤ)
xs32 = rows x32

unfoldable pub commas64 : List ℕ → Answer (List ℤ)
commas64 = rows (item dim64 tt in64 dim size (λ a t i. i) (λ a t i. i))

unfoldable pub dims64 : List ℕ → Answer (List ℤ)
dims64 = rows dimx

-- behind a comma, and maybe a space
abbrev pub behind : List ℕ → List ℕ
behind t = skip (drop 1 t)

-- a dimension and the `x` after it
abbrev pub dim_x : List ℕ → Answer ℤ
dim_x t = after (λ z r. among ((bytes "x" ↝ z) ∷ []) r) (dimension t)

-- by `x`, or by commas
abbrev pub parts32 : Bool → List ℕ → Answer (List ℤ)
parts32 false = commas32
parts32 true = xs32

-- what follows the first entry: by commas, or, where it may, by `x`
abbrev pub tail32 : Bool → List ℕ → Answer (List ℤ)
tail32 x t = parts32 (x && eqb (get_or t 0 0) 120) t

-- at least one entry
abbrev pub list32 : Bool → List ℕ → Answer (List ℤ)
list32 x t = listed (tail32 x) (numeral (2 ^ 31) (2 ^ 31 + 1) t)

abbrev pub list64 : List ℕ → Answer (List ℤ)
list64 t = listed commas64 (dimension t)
