-- The default counts of a reading are small: no list of an accepted type has over `cap` entries, and there is one sparse dimension.
use Prim.Native.Nat.{ℕ, ◌+◌, ◌*◌, ◌≤◌}
use native.Mathlib.Omega.{arith}
use mathlib.Core.Bool.{Bool, true, false, ◌&&◌, false≢true}
use mathlib.Core.Path.{◌≡◌, refl}
use borrow.Author.Tests.{leb-true}
use lib.ListN.{length}
use Rattle.lexis.specs.Text.{Text}
use Rattle.meaning.specs.Found.{Clause, values, Found, fits, within, unreadable, counts}
use Rattle.meaning.specs.Ordinary.{refused, accepted, ordinary}
use Rattle.meaning.specs.declared.Note.{Note}
use Rattle.meaning.specs.declared.Refusal.{Refusal}
use Rattle.meaning.specs.declared.Refusal.TheVariants.{TooLong, HighByte, NoType, TooMany}
use Rattle.meaning.proofs.Everywhere.{read, ordinary_all}
use Rattle.meaning.proofs.Thin.{Thin, thin}
use Rattle.lists.proofs.Bounds.{fell_within, lacking_within}

-- ── all four ──

pub record Few (n : ℕ) (k : Note) : Type 0 where
  pub a : k.a ≤ n
  pub b : k.b ≤ n
  pub c : k.c ≤ n
  pub d : k.d ≤ n

module _ (cap : ℕ) where
  -- as many as this, of each
  abbrev pub most : ℕ
  most = 2 * cap + 4

  first : (d e : Bool) → d && e ≡ true → d ≡ true
  first true e h = refl
  first false e h = h

  second : (d e : Bool) → d && e ≡ true → e ≡ true
  second true e h = h
  second false e h = absurd (false≢true h)

  -- a clause that fits has no more unreadable entries
  fell : (c : Clause) → fits cap c ≡ true → unreadable c ≤ cap
  fell c e = let h = leb-true (length (values c)) cap e in let k = fell_within c in omega arith

  counts_few : (t : Found) → Thin t → within cap t ≡ true → Few most (counts t)
  unfolding within counts
  counts_few t h e =
      let f = fits cap in
      let e₄ = first (f t.shape && f t.strides && f t.tile && f t.map) (f t.traversal) e in
      let e₃ = first (f t.shape && f t.strides && f t.tile) (f t.map) e₄ in
      let e₂ = first (f t.shape && f t.strides) (f t.tile) e₃ in
      let shape = fell t.shape (first (f t.shape) (f t.strides) e₂) in
      let strides = fell t.strides (second (f t.shape) (f t.strides) e₂) in
      let tile = fell t.tile (second (f t.shape && f t.strides) (f t.tile) e₃) in
      let map = fell t.map (second (f t.shape && f t.strides && f t.tile) (f t.map) e₄) in
      let traversal = fell t.traversal (second (f t.shape && f t.strides && f t.tile && f t.map) (f t.traversal) e) in
      let sparse = fell_within t.sparse in
      record {
        a = omega arith;
        b = omega arith;
        c = omega arith;
        d = omega (arith, lacking_within t.strides, lacking_within t.map, lacking_within t.traversal, lacking_within t.sparse);
      }

  refused_few : (r : Refusal) (place : ℕ) → Few most (refused cap r place).note
  unfolding refused
  refused_few r place = record { a = omega arith; b = omega arith; c = omega arith; d = omega arith }

  pub few : (size : ℕ) (s : Text) → Few most (ordinary cap size s).note
  unfolding accepted
  few size s =
      ordinary_all Thin (read Thin thin) cap (λ r. Few most r.note) (record {
        too_long = refused_few TooLong 0;
        high = refused_few HighByte;
        no_type = refused_few NoType 0;
        too_many = refused_few TooMany 0;
        accepts = counts_few;
      }) size s
