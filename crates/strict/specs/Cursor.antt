-- What an answer of the code says of the text: a value with the place after it, or the place where it is stuck; and the numerals.
use Rattle.std.specs.Prelude.{ℕ, ◌-◌, ◌^◌, ◌≤◌, cond, List, [], ◌∷◌, ◌≡◌, eqb, drop, length, ℤ, pos, negsuc, neg_ℤ, Result, Ok, Err}
use Rattle.grammar.specs.Piece.{Answer, got, stuck}
use Rattle.grammar.specs.Join.{mapped}
use Rattle.grammar.specs.Number as N
use Rattle.strict.specs.declared.cursor.Read.{Read}
use Rattle.strict.specs.declared.cursor.Stuck.{Stuck}

-- the code's answer as one on the list: its value in other words, and the rest of the text
abbrev pub said : {A V : Type 0} → List ℕ → (V → A) → Result (Read V) Stuck → Answer A
said s f (Ok r) = got (f r.value) (drop r.end s)
said s f (Err e) = stuck (drop e.at s)

abbrev pub place : {V : Type 0} → Result (Read V) Stuck → ℕ
place (Ok r) = r.end
place (Err e) = e.at

-- the answer on the list is what the code's answer says, with a place in the text, not before `at`
pub record Told {A V : Type 0} (s : List ℕ) (at : ℕ) (p : Answer A) (f : V → A) (r : Result (Read V) Stuck) : Type 0 where
  pub same : p ≡ said s f r
  pub inside : place r ≤ length s
  pub onward : at ≤ place r

abbrev pub minus : ℕ → ℤ
minus n = neg_ℤ (pos n)

-- a numeral below p, or -n with n below q
abbrev pub numeral : ℕ → ℕ → List ℕ → Answer ℤ
numeral p q [] = stuck []
numeral p q (c ∷ t) = cond (eqb c 45) (mapped minus (N.magnitude q t)) (cond (eqb c 48) (got (pos 0) t) (mapped pos (N.magnitude p (c ∷ t))))

-- a dimension
abbrev pub dimension : List ℕ → Answer ℤ
dimension [] = stuck []
dimension (c ∷ t) = cond (eqb c 63) (got (negsuc (2 ^ 63 - 1)) t) (numeral (2 ^ 63) (2 ^ 63) (c ∷ t))

-- past one space, if it stands
abbrev pub skip : List ℕ → List ℕ
skip [] = []
skip (c ∷ t) = cond (eqb 32 c) t (c ∷ t)

pub record Spaced (s : List ℕ) (at r : ℕ) : Type 0 where
  pub same : skip (drop at s) ≡ drop r s
  pub inside : r ≤ length s
  pub onward : at ≤ r
