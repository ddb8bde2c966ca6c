-- The part after the dimensions is the end of the text: its place is the text's length less its own.
use Rattle.std.specs.Prelude.{if◌then◌else◌}
use mathlib.Core.Path.{◌≡◌, refl, sym, ap, subst, ◌∙◌}
use mathlib.Core.Bool.{Bool, true, false}
use mathlib.Core.List.{List, [], ◌∷◌}
use Prim.Native.Nat.{ℕ, suc, ◌-◌, ◌≤◌}
use native.Mathlib.Omega.{arith}
use lib.Dec.{eqb}
use lib.ListN.{length, drop}
use Rattle.lexis.specs.Text.{Text, onto_first, split}
use Rattle.meaning.specs.Parts.{last}
use Rattle.lists.specs.Push.{Ahead}
use Rattle.lists.specs.declared.list.Leading.{Leading}

-- t is the end of s
pub record Ends (s t : Text) : Type 0 where
  pub part : drop (length s - length t) s ≡ t
  pub inside : length t ≤ length s

whole : (s : Text) → Ends s s
whole s = record { part = ap (λ (n : ℕ). drop n s) {x = length s - length s} {y = 0} (omega arith); inside = omega arith }

later : (b : ℕ) (s t : Text) → Ends s t → Ends (b ∷ s) t
later b s t h =
    let i : length t ≤ length s = h.inside in
    record {
      part = ap (λ (n : ℕ). drop n (b ∷ s)) {x = suc (length s) - length t} {y = suc (length s - length t)} (omega arith) ∙ h.part;
      inside = omega arith;
    }

-- one part alone is all of s, and the last of more is its end
abbrev Parted : Text → List Text → Type 0
Parted s [] = ⊥
Parted s (p ∷ []) = p ≡ s
Parted s (p ∷ q ∷ ps) = Ends s (last (q ∷ ps))

parted : (x : ℕ) (s : Text) → Parted s (split x s)
parted x [] = refl
parted x (b ∷ s) = by (eqb x b) (split x s) (parted x s)
  where
    by : (d : Bool) (ps : List Text) → Parted s ps → Parted (b ∷ s) (if d then [] ∷ ps else onto_first b ps)
    by true [] h = absurd h
    by true (p ∷ []) h = later b s p (subst (Ends s) (sym h) (whole s))
    by true (p ∷ q ∷ ps) h = later b s (last (q ∷ ps)) h
    by false [] h = absurd h
    by false (p ∷ []) h = ap (λ (t : Text). b ∷ t) h
    by false (p ∷ q ∷ ps) h = later b s (last (q ∷ ps)) h

last_ends : (x : ℕ) (s : Text) → Ends s (last (split x s))
last_ends x s = of (split x s) (parted x s)
  where
    of : (ps : List Text) → Parted s ps → Ends s (last ps)
    of [] h = absurd h
    of (p ∷ []) h = subst (Ends s) (sym h) (whole s)
    of (p ∷ q ∷ ps) h = h

-- what stands after the dimensions
pub rest_ends : {x : ℕ} {s : Text} {r : Leading} → Ahead x s r → Ends s r.rest.now
rest_ends {x = x} {s = s} a = subst (Ends s) (sym a.part) (last_ends x s)
