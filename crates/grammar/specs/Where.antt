-- The place where a text stops being strict: the length of its longest beginning that begins some strict form.
-- There is one for every text, and no other (proofs/Where.antt).
use Rattle.std.specs.Prelude.{ℕ, ◌≤◌, ◌<◌, List, ◌∷◌, ◌++◌, ◌≡◌, length, take, T}
use Rattle.meaning.specs.Strict.{Form, spell}
use Rattle.meaning.specs.Meant.{ok}

-- u begins some strict form
pub record Beginning (u : List ℕ) : Type 0 where
  pub form : Form
  pub fine : T (ok form)
  pub more : List ℕ
  pub text : u ++ more ≡ spell form

-- r is what follows the longest beginning of t that begins some strict form
pub record Stops (t r : List ℕ) : Type 0 where
  pub text : List ℕ
  pub split : text ++ r ≡ t
  pub begin : Beginning text
  pub most : (c : ℕ) (s x : List ℕ) → r ≡ c ∷ s → Beginning (text ++ (c ∷ x)) → ⊥

-- the first p bytes of t begin some strict form, and no more of them do
pub record Place (t : List ℕ) (p : ℕ) : Type 0 where
  pub inside : p ≤ length t
  pub begins : Beginning (take p t)
  pub most : (k : ℕ) → p < k → k ≤ length t → Beginning (take k t) → ⊥
