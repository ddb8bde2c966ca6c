-- Laws of a view's clauses, by what the seekers tell: the padding, a text behind another, a list in brackets, entries, the sparse dimension,
-- and what a list or what fills in for it is laid as.
use Rattle.std.specs.Prelude.{if◌then◌else◌, None, Some}
use Prim.Native.Nat.{ℕ, ◌+◌, ◌-◌, ◌≤◌}
use native.Mathlib.Omega.{arith}
use mathlib.Core.Bool.{Bool, true, false, ◌||◌, ◌&&◌, not}
use mathlib.Core.List.{[], ◌∷◌}
use mathlib.Core.Path.{◌≡◌, refl, sym, ap, subst, ◌∙◌}
use lib.Dec.{eqb}
use lib.IntN.{pos}
use lib.ListN.{length, take, drop, length-drop}
use lib.Seq.{drop-drop, length-take-le}
use Rattle.lexis.specs.Text.{Text, bytes, split, Cut, nowhere, at, cut, place, occurs, until}
use Rattle.lexis.proofs.Lists.{rest}
use Rattle.lexis.proofs.Seeking.{turned, cut_at, cut_within, cut_nowhere, until_take, until_within}
use Rattle.meaning.specs.Found.{Clause, stands, filled, values}
use Rattle.meaning.specs.Views as W
use Rattle.meaning.specs.declared.Padding.{Padding}
use Rattle.meaning.specs.declared.Padding.TheVariants.{Absent, Zero, NegZero, Nan, PosInf, NegInf}
use Rattle.lists.specs.Laid.{Laid, laid, smalls}
use Rattle.port.specs.Carried.{fell, listing, ListIs, list_laid}
use Rattle.port.proofs.Making.{sound_list}
use Rattle.port.specs.declared.views.Listed.{Listed}
use Rattle.port.specs.declared.views.Listed.TheVariants as C
use Rattle.std.proofs.Common.{Bor}

-- ── the padding: the code asks for `neg_zero` first ──

-- what is still asked for after a name that doesn't occur
abbrev pub asks_neg_inf : Text → Padding
asks_neg_inf s = if occurs (bytes "neg_inf") s then NegInf else Absent

abbrev pub asks_pos_inf : Text → Padding
asks_pos_inf s = if occurs (bytes "pos_inf") s then PosInf else asks_neg_inf s

abbrev pub asks_nan : Text → Padding
asks_nan s = if occurs (bytes "nan") s then Nan else asks_pos_inf s

abbrev pub asks_zero : Text → Padding
asks_zero s = if occurs (bytes "zero") s then Zero else asks_nan s

abbrev pub asks_neg_zero : Text → Padding
asks_neg_zero s = if occurs (bytes "neg_zero") s then NegZero else asks_zero s

pub asked : (s : Text) → W.padding s ≡ if occurs (bytes "padding_value") s then asks_neg_zero s else Absent
unfolding W.padding
asked s = by (occurs (bytes "padding_value") s) (occurs (bytes "zero") s) (occurs (bytes "neg_zero") s)
  where
    by : (p z n : Bool) → (if not p then Absent else if z && not n then Zero else if n then NegZero else asks_nan s)
        ≡ if p then (if n then NegZero else if z then Zero else asks_nan s) else Absent
    by false z n = refl
    by true true true = refl
    by true true false = refl
    by true false true = refl
    by true false false = refl

-- ── q, n bytes behind the end of p, which stands i bytes into s ──

module _ (p s : Text) (i : ℕ) (e : place (cut p s) ≡ Some i) where
  module _ (q : Text) where
    module _ (n : ℕ) (f : place (cut q (take (length s - (i + length p)) (drop (i + length p) s))) ≡ Some n) where
      there : place (cut q (drop (i + length p) s)) ≡ Some n
      there = rw (rest s (i + length p)) at f

      pub next : cut q (drop (i + length p) s) ≡ at (take n (drop (i + length p) s)) (drop (i + length p + (n + length q)) s)
      next = rw (cut_at q (drop (i + length p) s) n there, drop-drop (n + length q) (i + length p) s)

      pub next_within : i + length p + n + length q ≤ length s
      next_within = omega (arith, cut_within p s i e, cut_within q (drop (i + length p) s) n there, length-drop (i + length p) s)

    pub no_next : place (cut q (take (length s - (i + length p)) (drop (i + length p) s))) ≡ None → cut q (drop (i + length p) s) ≡ nowhere
    no_next f = cut_nowhere q (drop (i + length p) s) (rw (rest s (i + length p)) at f)

-- ── a list in brackets ──

module _ (p s : Text) where
  module _ (i : ℕ) (e : place (cut p s) ≡ Some i) where
    pub list_closed : {t : Bor Text} (n : ℕ) → place (cut (bytes "]") (take (length s - (i + length p)) (drop (i + length p) s))) ≡ Some n
        → t.now ≡ take n (take (length s - (i + length p)) (drop (i + length p) s)) → ListIs (C.Between t) (W.list_after p s)
    list_closed n f g = record {
      is = ap W.listed (g ∙ ap (take n) (rest s (i + length p))) ∙ sym (ap W.list_by (cut_at p s i e) ∙ ap W.closed (next p s i e (bytes "]") n f));
    }

    pub closed_fits : (n : ℕ) → place (cut (bytes "]") (take (length s - (i + length p)) (drop (i + length p) s))) ≡ Some n
        → n ≡ length (take n (take (length s - (i + length p)) (drop (i + length p) s)))
    closed_fits n f = sym (length-take-le n (take (length s - (i + length p)) (drop (i + length p) s)) (let w = cut_within (bytes "]") (take (length s - (i + length p)) (drop (i + length p) s)) n f in omega arith))

    pub list_unclosed : place (cut (bytes "]") (take (length s - (i + length p)) (drop (i + length p) s))) ≡ None → ListIs C.Unclosed (W.list_after p s)
    list_unclosed f = record { is = sym (ap W.list_by (cut_at p s i e) ∙ ap W.closed (no_next p s i e (bytes "]") f)) }

  pub list_absent : place (cut p s) ≡ None → ListIs C.Absent (W.list_after p s)
  list_absent e = record { is = sym (ap W.list_by (cut_nowhere p s e)) }

-- ── entries ──

module _ {l : Laid} (s : Text) where
  pub tile_crossed : occurs (bytes "x") s ≡ true → l ≡ laid 8 (smalls (pos 1) (split 120 s)) → l ≡ laid 8 (stands (W.tile_entries s))
  unfolding W.tile_entries
  tile_crossed t e = rw t e

  pub tile_listed : occurs (bytes "x") s ≡ false → l ≡ laid 8 (smalls (pos 1) (split 44 s)) → l ≡ laid 8 (stands (W.tile_entries s))
  unfolding W.tile_entries
  tile_listed t e = rw t e

pub entries_are : {l : Laid} (s : Text) → l ≡ laid 8 (smalls (pos 0) (split 44 s)) → l ≡ laid 8 (W.entries s)
unfolding W.entries
entries_are s e = e

-- ── the sparse dimension ──

-- up to either byte: up to the one, of what stands before the other
either : (t : Text) → until W.ends_sparse t ≡ until (eqb 62) (until (eqb 44) t)
either [] = refl
either (b ∷ t) = rw (turned b 44, turned b 62) (by (eqb 44 b) (either t))
  where
    by : (d : Bool) → until W.ends_sparse t ≡ until (eqb 62) (until (eqb 44) t)
        → (if d || eqb 62 b then [] else b ∷ until W.ends_sparse t) ≡ until (eqb 62) (if d then [] else b ∷ until (eqb 44) t)
    by true e = refl
    by false e = ap (λ (l : Text). if eqb 62 b then [] else b ∷ l) e

pub until_part : (p : ℕ → Bool) (t : Text) {k : ℕ} → k ≡ length (until p t) → k ≡ length (take k t)
until_part p t {k} e = sym (length-take-le k t (omega (arith, until_within p t)))

module _ {l : Laid} (s : Text) where
  module _ (i : ℕ) (e : place (cut (bytes "sparse_dim=") s) ≡ Some i) (t : Text) (r : t ≡ take (length s - (i + 11)) (drop (i + 11) s)) where
    -- what stands before `>` in what stands before `,`
    pub sparse_read : (k n : ℕ) → k ≡ length (until (eqb 44) t) → n ≡ length (until (eqb 62) (take k t))
        → l ≡ laid 8 (stands (W.small (pos 0) (take n (take k t)) ∷ [])) → l ≡ laid 8 (W.sparse_by (cut (bytes "sparse_dim=") s))
    sparse_read k n f g h =
        let a : take k t ≡ until (eqb 44) t = rw f (until_take (eqb 44) t) in
        let b : take n (take k t) ≡ until (eqb 62) (take k t) = rw g (until_take (eqb 62) (take k t)) in
        let d : take n (take k t) ≡ until W.ends_sparse (drop (i + 11) s) =
        b ∙ ap (until (eqb 62)) a ∙ sym (either t) ∙ ap (until W.ends_sparse) (r ∙ rest s (i + 11)) in
        h ∙ ap (λ (u : Text). laid 8 (stands (W.small (pos 0) u ∷ []))) d ∙
        sym (ap (λ (c : Cut). laid 8 (W.sparse_by c)) (cut_at (bytes "sparse_dim=") s i e))

  pub sparse_absent : place (cut (bytes "sparse_dim=") s) ≡ None → l ≡ laid 8 (filled (pos 0 ∷ [])) → l ≡ laid 8 (W.sparse_by (cut (bytes "sparse_dim=") s))
  sparse_absent e h = h ∙ sym (ap (λ (c : Cut). laid 8 (W.sparse_by c)) (cut_nowhere (bytes "sparse_dim=") s e))

-- there is one
pub one_sparse : (c : Cut) → length (values (W.sparse_by c)) ≤ 1
one_sparse nowhere = omega arith
one_sparse (at u t) = omega arith

-- ── a list, or what fills in for it ──

-- what fills in has no entry that fell back; what is laid has no more than there are
pub sound_or : {l : Laid} (own : Laid) (q : W.Listed) → fell own ≤ own.row.len → l ≡ list_laid own q → fell l ≤ l.row.len
sound_or own W.absent h e = subst (λ (m : Laid). fell m ≤ m.row.len) (sym e) h
sound_or own W.unclosed h e = subst (λ (m : Laid). fell m ≤ m.row.len) (sym e) h
sound_or own (W.listed t) h e = sound_list (W.entries t) e

-- what is said of an answer, of the answer that it was seen to be
module _ {q r : Listed} {l : W.Listed} (g : ListIs q l) (e : q ≡ r) where
  pub told : ListIs r l
  told = rw e at g

  pub laid_as : (own : Laid) → list_laid own (listing r) ≡ list_laid own l
  laid_as own = ap (list_laid own) told.is

pub list_or_laid : (c : Clause) (l : W.Listed) → list_laid (laid 8 c) l ≡ laid 8 (W.list_or c l)
list_or_laid c W.absent = refl
list_or_laid c W.unclosed = refl
list_or_laid c (W.listed t) = refl
