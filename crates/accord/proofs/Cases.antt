-- What the ordinary reading's searches meet in strict forms: texts ahead of a pattern, and the padding.
use Prim.Native.Nat.{ℕ, zero, suc, ◌<◌}
use mathlib.Core.Bool.{Bool, true, false}
use mathlib.Core.List.{List, [], ◌++◌, append_assoc}
use mathlib.Core.Path.{◌≡◌, refl, ap, ◌∙◌}
use lib.Dec.{T, ltb, ltb→lt}
use native.Mathlib.Omega.{arith}
use Rattle.lexis.specs.Text.{bytes, cut, at, found, occurs}
use Rattle.lexis.proofs.Seeking.{never}
use Rattle.meaning.specs.Views.{padding}
use Rattle.meaning.specs.declared.Padding.TheVariants.{Absent, Zero, NegZero, Nan, PosInf, NegInf}
use Rattle.meaning.specs.Strict as Form
use Rattle.meaning.specs.Strict.{◌⊕◌, comma, pads, entries}
use Rattle.meaning.specs.Meant.{meant_pads}
use Rattle.accord.proofs.Shape.{Shape, In, lit, seq, the, both, free, absent, clears, first}
use Rattle.accord.proofs.Forms.{◌▸◌, ◌&◌, say, entries_in, comma_shape, comma_in, body, intro_shape, Sight, whole, tile_shape, view_shape, whole_in}

-- a text w that begins with a text of a shape, and goes on with s
pub record Ahead (sh : Shape) (w s : List ℕ) : Type 0 where
  pub text : List ℕ
  pub is : In sh text
  pub split : text ++ s ≡ w

abbrev pub last : {a : Shape} {u s : List ℕ} → In a u → Ahead a (u ++ s) s
last {u = u} i = record { text = u; is = i; split = refl }

infixr 60 ◌⊳◌
abbrev pub ◌⊳◌ : {a b : Shape} {u w s : List ℕ} → In a u → Ahead b w s → Ahead (seq a b) (u ++ w) s
◌⊳◌ {u = u} {s = s} i r = record { text = u ++ r.text; is = both i r.is; split = append_assoc u r.text s ∙ ap (λ (z : List ℕ). u ++ z) r.split }

pub first_at : (P : List ℕ) {sh : Shape} {w : List ℕ} (s : List ℕ) (a : Ahead sh w (P ++ s)) → T (clears P P sh) → cut P w ≡ at a.text s
first_at P s a h = rw a.split at (first P a.is h s)

-- behind the tile and the traversal
abbrev pub tile_text : Sight → List ℕ → List ℕ
tile_text w s = bytes "tile=(" ⊕ entries w.view.tile ⊕ bytes ")" ⊕ comma w.view.space ⊕ w.middle.text ⊕ s

abbrev pub tiled : (w : Sight) {a : Shape} {u s : List ℕ} → Ahead a u s → Ahead (tile_shape a) (tile_text w u) s
tiled w r = say (bytes "tile=(") ⊳ entries_in w.view.tile ⊳ say (bytes ")") ⊳ comma_in w.view.space ⊳ w.middle.is ⊳ r

-- ── padding ──
hasn't : (P : List ℕ) {sh : Shape} {t : List ℕ} → In sh t → T (free P sh) → occurs P t ≡ false
hasn't P i h = ap found (absent P i h)

has_at : (P : List ℕ) {sh : Shape} {w : List ℕ} (s : List ℕ) → Ahead sh w (P ++ s) → T (clears P P sh) → occurs P w ≡ true
has_at P s a h = ap found (first_at P s a h)

abbrev fixed : List ℕ → Bool → List ℕ
fixed l s = bytes "padding_value=" ⊕ l ⊕ comma s

fixed_in : (l : List ℕ) (s : Bool) → In (lit (bytes "padding_value=") ▸ lit l ▸ comma_shape) (fixed l s)
fixed_in l s = the & the & comma_in s

module _ (w : Sight) {ti : List ℕ} (ii : In intro_shape ti) where
  -- what follows the padding
  abbrev onward : List ℕ
  onward = ti ⊕ bytes "tensor_view<" ⊕ body w.view.tensor [] ⊕ bytes ">" ⊕ comma w.view.space' ⊕ w.end.text

  value_there : (s : List ℕ) → occurs (bytes "padding_value") (tile_text w (bytes "padding_value" ⊕ s)) ≡ true
  value_there s = has_at (bytes "padding_value") s (tiled w (last (say []))) tt

  word_there : (P : List ℕ) → T (clears P P (tile_shape (lit (bytes "padding_value=")))) → (s : List ℕ) → occurs P (tile_text w (bytes "padding_value=" ⊕ (P ⊕ s))) ≡ true
  word_there P h s = has_at P s (tiled w (last (say (bytes "padding_value=")))) h

  hasnt : (P : List ℕ) (l : List ℕ) (s : Bool) → T (free P (view_shape (lit (bytes "padding_value=") ▸ lit l ▸ comma_shape) intro_shape)) →
      occurs P (whole w (fixed l s) ti []) ≡ false
  hasnt P l s h = hasn't P (whole_in w (fixed_in l s) ii) h

  pad_none : padding (whole w [] ti []) ≡ Absent
  unfolding padding
  pad_none = rw (hasn't (bytes "padding_value") (whole_in w (the {l = []}) ii) tt)

  pad_zero : (s : Bool) → padding (whole w (fixed (bytes "zero") s) ti []) ≡ Zero
  unfolding padding
  pad_zero s = rw (value_there (bytes "=zero" ⊕ comma s ++ onward), word_there (bytes "zero") tt (comma s ++ onward), hasnt (bytes "neg_zero") (bytes "zero") s tt)

  pad_neg_zero : (s : Bool) → padding (whole w (fixed (bytes "neg_zero") s) ti []) ≡ NegZero
  unfolding padding
  pad_neg_zero s = rw (value_there (bytes "=neg_zero" ⊕ comma s ++ onward), word_there (bytes "neg_zero") tt (comma s ++ onward), never)

  pad_nan : (s : Bool) → padding (whole w (fixed (bytes "nan") s) ti []) ≡ Nan
  unfolding padding
  pad_nan s = rw (
    value_there (bytes "=nan" ⊕ comma s ++ onward),
    hasnt (bytes "zero") (bytes "nan") s tt,
    hasnt (bytes "neg_zero") (bytes "nan") s tt,
    word_there (bytes "nan") tt (comma s ++ onward),
  )

  pad_pos_inf : (s : Bool) → padding (whole w (fixed (bytes "pos_inf") s) ti []) ≡ PosInf
  unfolding padding
  pad_pos_inf s = rw (
    value_there (bytes "=pos_inf" ⊕ comma s ++ onward),
    hasnt (bytes "zero") (bytes "pos_inf") s tt,
    hasnt (bytes "neg_zero") (bytes "pos_inf") s tt,
    hasnt (bytes "nan") (bytes "pos_inf") s tt,
    word_there (bytes "pos_inf") tt (comma s ++ onward),
  )

  pad_neg_inf : (s : Bool) → padding (whole w (fixed (bytes "neg_inf") s) ti []) ≡ NegInf
  unfolding padding
  pad_neg_inf s = rw (
    value_there (bytes "=neg_inf" ⊕ comma s ++ onward),
    hasnt (bytes "zero") (bytes "neg_inf") s tt,
    hasnt (bytes "neg_zero") (bytes "neg_inf") s tt,
    hasnt (bytes "nan") (bytes "neg_inf") s tt,
    hasnt (bytes "pos_inf") (bytes "neg_inf") s tt,
    word_there (bytes "neg_inf") tt (comma s ++ onward),
  )

  pub pad_reads : (p : Form.Pads) → padding (whole w (Form.pad_text p) ti []) ≡ meant_pads p
  pad_reads Form.Pads.absent = pad_none
  pad_reads (Form.Pads.given p s) = go p.index p.within
    where
      go : (k : ℕ) → T (ltb k 5) → padding (whole w (fixed (Form.nth [] pads k) s) ti []) ≡ (Form.nth Zero Form.paddings k)
      go zero h = pad_zero s
      go (suc zero) h = pad_neg_zero s
      go (suc (suc zero)) h = pad_nan s
      go (suc (suc (suc zero))) h = pad_pos_inf s
      go (suc (suc (suc (suc zero)))) h = pad_neg_inf s
      go (suc (suc (suc (suc (suc k))))) h = absurd (let q : suc (suc (suc (suc (suc k)))) < 5 = ltb→lt (suc (suc (suc (suc (suc k))))) 5 h in omega arith)
