-- The call's four answers, each from the test that leads to it; a normal record is small.
use Rattle.std.specs.Prelude.{if◌then◌else◌, Option, None, Some}
use Prim.Native.Nat.{ℕ, ◌≤◌}
use native.Mathlib.Omega.{arith}
use mathlib.Core.Bool.{Bool, true, false}
use mathlib.Core.Path.{◌≡◌, sym, ap, ◌∙◌}
use lib.ListN.{length}
use Rattle.lexis.specs.Text.{Text}
use Rattle.meaning.specs.declared.Record.{Record}
use Rattle.meaning.specs.declared.Refusal.TheVariants.{NotNormal, NoText}
use Rattle.meaning.specs.Normal.{normal}
use Rattle.meaning.specs.Written.{Outcome, laid_in, refused, texted, written, writing}
use Rattle.writer.specs.Flat.{Small, shown, text}
use Rattle.writer.proofs.Same.{Whole, same}
use Rattle.writer.proofs.Opened.{opened}

-- each array has as many entries as the capacity
pub record Arrays (cap : ℕ) (r : Record) : Type 0 where
  pub shape : length r.shape ≡ cap
  pub strides : length r.strides ≡ cap
  pub tile : length r.tile ≡ cap
  pub map : length r.map ≡ cap
  pub traversal : length r.traversal ≡ cap

pub whole : (cap : ℕ) (r : Record) → 1 ≤ cap → Arrays cap r → Whole r
whole cap r h a = record { shape = omega arith; strides = omega arith; tile = omega arith; map = omega arith; traversal = omega arith }

pub arrays : {cap : ℕ} {r : Record} → Small cap r → Arrays cap r
arrays s = record {
  shape = s.shape_array;
  strides = s.strides_array;
  tile = s.tile_array;
  map = s.map_array;
  traversal = s.traversal_array;
}

pub small : (cap : ℕ) (r : Record) → normal cap r ≡ true → Arrays cap r → Small cap r
small cap r e q =
    let o = opened cap r e in
    record {
      shape = o.shape.within;
      shape_array = q.shape;
      strides = o.strides.within;
      strides_array = q.strides;
      tile = o.tile.within;
      tile_array = q.tile;
      map = o.map.within;
      map_array = q.map;
      traversal = o.traversal.within;
      traversal_array = q.traversal;
    }

-- ── the answers ──

abbrev normal_or : Bool → Record → Text → Outcome
normal_or b r room = if b then texted (written r) room else refused NotNormal room

abbrev shown_or : Bool → Record → Text → Outcome
shown_or b r room = texted (if b then Some (text r) else None) room

pub not_normal : (cap : ℕ) (r : Record) (room : Text) → normal cap r ≡ false → refused NotNormal room ≡ writing cap r room
unfolding writing
not_normal cap r room e = ap (λ (b : Bool). normal_or b r room) (sym e)

module _ (cap : ℕ) (r : Record) (w : Whole r) (room : Text) (e : normal cap r ≡ true) where
  by_shown : (b : Bool) → shown r ≡ b → shown_or b r room ≡ writing cap r room
  unfolding writing
  by_shown b h =
      ap (λ (b : Bool). shown_or b r room) (sym h)
      ∙ ap (λ (o : Option Text). texted o room) (sym (same r w))
      ∙ ap (λ (b : Bool). normal_or b r room) (sym e)

  pub no_text : shown r ≡ false → refused NoText room ≡ writing cap r room
  no_text h = by_shown false h

  pub text_laid : shown r ≡ true → laid_in room (text r) ≡ writing cap r room
  text_laid h = by_shown true h
