-- How large the counts of a list can be: no more entries fall back than there are, and a text has at most one part more than bytes.
use Rattle.std.specs.Prelude.{if◌then◌else◌}
use mathlib.Core.Path.{◌≡◌, refl, ap}
use mathlib.Core.Bool.{Bool, true, false}
use mathlib.Core.List as L
use mathlib.Core.List.{List, [], ◌∷◌}
use Prim.Native.Nat.{ℕ, suc, ◌+◌, ◌-◌, ◌≤◌}
use native.Mathlib.Omega.{arith}
use lib.Dec.{eqb}
use lib.ListN.{length}
use Rattle.lexis.specs.Text.{Text, onto_first, until, split}
use Rattle.lexis.proofs.Seeking.{until_within}
use Rattle.meaning.specs.Parts.{front}
use Rattle.meaning.specs.Found.{Entry, Clause, stands, filled, values, unreadable, lacking}
use Rattle.meaning.specs.Tile.{dimension, dimensions}
use Rattle.lists.specs.Laid.{Laid, laid}
use Rattle.lists.proofs.Laying.{value, few_of}

-- ── every clause ──

-- no more entries fall back than there are
pub fell_within : (c : Clause) → unreadable c ≤ length (values c)
fell_within (stands es) = few_of es
fell_within (filled zs) = omega arith

-- a clause is filled in at most once
pub lacking_within : (c : Clause) → lacking c ≤ 1
lacking_within (stands es) = omega arith
lacking_within (filled []) = omega arith
lacking_within (filled (z ∷ zs)) = omega arith

-- ── how many parts a text has ──

pub split_length : (x : ℕ) (s : Text) → length (split x s) ≤ length s + 1
split_length x [] = omega arith
split_length x (b ∷ s) = by (eqb x b) (split x s) (split_length x s)
  where
    by : (d : Bool) (ps : List Text) → length ps ≤ length s + 1 → length (if d then [] ∷ ps else onto_first b ps) ≤ suc (length s) + 1
    by true ps h = omega arith
    by false [] h = omega arith
    by false (p ∷ ps) h = omega arith

pub front_length : (ps : List Text) → length (front ps) ≤ length ps - 1
front_length [] = omega arith
front_length (p ∷ []) = omega arith
front_length (p ∷ q ∷ ps) = let h : length (front (q ∷ ps)) ≤ length (q ∷ ps) - 1 = front_length (q ∷ ps) in omega arith

-- ── a list that is laid from a text ──

-- at most n entries, so at most n that fell back
pub record Within (n : ℕ) (l : Laid) : Type 0 where
  pub len : l.row.len ≤ n
  pub fell : l.row.tally.fell ≤ n

said_length : (said : Text → Entry) (ps : List Text) → length (L.map value (L.map said ps)) ≡ length ps
said_length said [] = refl
said_length said (p ∷ ps) = ap suc (said_length said ps)

module _ (w : ℕ) {l : Laid} (x : ℕ) (s : Text) where
  pub front_within : l ≡ laid w (dimensions (front (split x s))) → Within (length s) l
  front_within e =
      let c = dimensions (front (split x s)) in
      let a : l.row.len ≡ length (values c) = ap (λ (m : Laid). m.row.len) e in
      let b : l.row.tally.fell ≡ unreadable c = ap (λ (m : Laid). m.row.tally.fell) e in
      let n = said_length dimension (front (split x s)) in
      let k = fell_within c in
      let f = front_length (split x s) in
      let g = split_length x s in
      record { len = omega arith; fell = omega arith }

-- a part is no longer than the text that it begins
pub part_within : (x : ℕ) (t : Text) {k : ℕ} → k ≡ length (until (eqb x) t) → k ≤ length t
part_within x t e = let h = until_within (eqb x) t in omega arith
