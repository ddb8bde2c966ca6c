-- Tiles: what is read of the dimensions before a pointer and of its pointee, and what is shown by the element and by the first `ptr<`.
use Prim.Native.Nat.{ℕ, ◌+◌, ◌-◌, ◌≤◌}
use native.Mathlib.Omega.{arith}
use mathlib.Core.Bool.{Bool}
use mathlib.Core.List.{[], ◌∷◌}
use Rattle.std.specs.Prelude.{Option, None, Some}
use mathlib.Core.Path.{◌≡◌, sym, ap, ◌∙◌}
use lib.Dec.{eqb}
use lib.ListN.{length, take, drop}
use Rattle.lexis.specs.Text.{Text, bytes, trim, less_trailing, split, Cut, nowhere, at, cut, place}
use Rattle.scalars.specs.Names.{scalar_name}
use Rattle.scalars.specs.declared.scalar.Scalar.{Scalar}
use Rattle.lexis.proofs.Lists.{rest}
use Rattle.meaning.specs.Found.{Clause, unused}
use Rattle.meaning.specs.Parts.{each, less_repeats}
use Rattle.meaning.specs.Tile.{dimensions, tile_of, before_pointer, pointee, tile_by, tile}
use Rattle.meaning.specs.declared.Kind.TheVariants as K
use Rattle.lists.specs.Laid.{Laid, laid}
use Rattle.port.specs.Carried.{Carried, carried, fell}
use Rattle.port.proofs.Making.{sound_list}
use Rattle.port.proofs.Building.{bare, tile_is}
use Rattle.port.proofs.Cutting.{cut_found, cut_none}

-- ── by the element ──

-- x is what the code answers
module _ {x : Option Carried} (p : Bool) (shape : Clause) {o : Option Scalar} where
  pub tile_some : {a b : Laid} {e : Scalar} → x ≡ Some (bare K.Tile e p a b) → o ≡ Some e → a ≡ laid 8 shape → b ≡ laid 8 unused
      → x ≡ each (carried 8) (each (tile_of p shape) o)
  tile_some {e = e} d n r u = d ∙ ap Some (tile_is e p shape r u) ∙ sym (ap (λ (q : Option Scalar). each (carried 8) (each (tile_of p shape) q)) n)

  pub tile_none : x ≡ None → o ≡ None → x ≡ each (carried 8) (each (tile_of p shape) o)
  tile_none d n = d ∙ sym (ap (λ (q : Option Scalar). each (carried 8) (each (tile_of p shape) q)) n)

-- ── by the first `ptr<` ──

module _ (s : Text) where
  pub tile_nowhere : cut (bytes "ptr<") s ≡ nowhere → each (carried 8) (tile_by s nowhere) ≡ each (carried 8) (tile s)
  unfolding tile
  tile_nowhere e = ap (λ (c : Cut). each (carried 8) (tile_by s c)) (sym e)

  pub tile_at : (i : ℕ) → cut (bytes "ptr<") s ≡ at (take i s) (drop (i + 4) s)
      → each (carried 8) (tile_by s (at (take i s) (take (length s - (i + 4)) (drop (i + 4) s)))) ≡ each (carried 8) (tile s)
  unfolding tile
  tile_at i e = ap (λ (t : Text). each (carried 8) (tile_by s (at (take i s) t))) (rest s (i + 4)) ∙ ap (λ (c : Cut). each (carried 8) (tile_by s c)) (sym e)

-- ── a pointer ──

module _ {f : Option ℕ} (t : Text) (e : f ≡ place (cut (bytes ">") t)) where
  pub pointee_is : {i : ℕ} {n m : Option Scalar} → f ≡ Some i → n ≡ scalar_name (take i t) → n ≡ m → pointee (cut (bytes ">") t) ≡ m
  pointee_is q d r = ap pointee (cut_found (bytes ">") t e q) ∙ sym d ∙ r

  pub pointee_none : f ≡ None → pointee (cut (bytes ">") t) ≡ None
  pointee_none q = ap pointee (cut_none (bytes ">") t e q)

-- the dimensions before it, as they are read of s
abbrev pub Sized : Laid → Text → Type 0
Sized l s = l ≡ laid 8 (dimensions (before_pointer (less_repeats (bytes "!cuda_tile.") (trim s))))

pub sized_sound : {l : Laid} (s : Text) → Sized l s → fell l ≤ l.row.len
sized_sound s e = sound_list (dimensions (before_pointer (less_repeats (bytes "!cuda_tile.") (trim s)))) e

-- t is s trimmed, and u is what is left of it
module _ {l : Laid} (s t u : Text) (p : t ≡ trim s) (q : u ≡ less_repeats (bytes "!cuda_tile.") t) where
  whole : l ≡ laid 8 (dimensions (before_pointer u)) → Sized l s
  whole e = e ∙ ap (λ (v : Text). laid 8 (dimensions (before_pointer v))) (q ∙ ap (less_repeats (bytes "!cuda_tile.")) p)

  pub shape_none : length u ≡ 0 → l ≡ laid 8 unused → Sized l s
  shape_none z e = whole (by u z)
    where
      by : (u : Text) → length u ≡ 0 → l ≡ laid 8 (dimensions (before_pointer u))
      by [] z = e
      by (b ∷ u) z = let f : ⊥ = omega arith in absurd f

  pub shape_some : {v : Text} → (length u ≡ 0 → ⊥) → v ≡ less_trailing (eqb 120) u → l ≡ laid 8 (dimensions (split 120 v)) → Sized l s
  shape_some {v} n r e = whole (by u n (e ∙ ap (λ (w : Text). laid 8 (dimensions (split 120 w))) r))
    where
      by : (u : Text) → (length u ≡ 0 → ⊥) → l ≡ laid 8 (dimensions (split 120 (less_trailing (eqb 120) u))) → l ≡ laid 8 (dimensions (before_pointer u))
      by [] n k = absurd (n (omega arith))
      by (b ∷ u) n k = k
