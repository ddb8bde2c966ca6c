-- The six forms with brackets: what stands in the brackets is read by the form's own reader, with the mark or without.
use Prim.Native.Nat.{ℕ}
use mathlib.Core.Bool.{Bool, true, false, ◌&&◌}
use mathlib.Core.List.{List, [], ◌∷◌, ◌++◌, append_assoc}
use Rattle.std.specs.Prelude.{Option, None, Some}
use mathlib.Core.Path.{◌≡◌, refl, subst, ap, ◌∙◌}
use lib.Dec.{T}
use Rattle.lexis.specs.Text.{bytes, white, less_trailing, unless_last, Cut}
use Rattle.meaning.specs.Strict.{◌⊕◌, may, cuda}
use Rattle.meaning.specs.Parts.{each, content, content_by}
use Rattle.meaning.specs.Found.{Found}
use Rattle.meaning.specs.Tile as Tile
use Rattle.meaning.specs.Views as W
use Rattle.meaning.specs.Ordinary as O
use Rattle.meaning.specs.Ordinary.{forms, unmarked, parse}
use Rattle.grammar.specs.Tests.{and_left, and_right}
use Rattle.accord.proofs.Shape.{Shape, In, lit, alt, left, right, the}
use Rattle.accord.proofs.Bracket.{enclosed_by, level}
use Rattle.accord.proofs.Forms.{◌▸◌, say}
use Rattle.accord.proofs.Hole.{Hole, ◌◂◌, inside, hole_in, the_mark, attach, Trimmed, fit, reads}

pub data Bracketed : Type 0 where
  tile tensor pointer partition gather strided : Bracketed

abbrev pub opening : Bracketed → List ℕ
opening tile = bytes "tile<"
opening tensor = bytes "tensor_view<"
opening pointer = bytes "ptr<"
opening partition = bytes "partition_view<"
opening gather = bytes "gather_scatter_view<"
opening strided = bytes "strided_view<"

abbrev pub reading : Bracketed → List ℕ → Option Found
reading tile = Tile.tile
reading tensor = Tile.tensor_view
reading pointer = O.pointer
reading partition = W.partition_view
reading gather = W.gather_scatter_view
reading strided = W.strided_view

-- a form that applies decides
abbrev decide : Option (List ℕ) → (List ℕ → Option Found) → Option Found → Option Found
decide c f o = elim c as (λ _. Option Found) [ Some t ↦ f t | None ↦ o ]

applies : {sh : Shape} {t : List ℕ} (o : Option Found) (f : List ℕ → Option Found) → In sh t → T (level sh) → decide (content (t ++ bytes ">")) f o ≡ f t
applies {t = t} o f i h = ap (λ (k : Cut). decide (content_by (t ++ bytes ">") k) f o) (enclosed_by i h [])

dispatch : (b : Bool) (f : Bracketed) {sh : Shape} {t : List ℕ} → In sh t → T (level sh) → unmarked (cuda b ⊕ opening f ⊕ t ⊕ bytes ">") ≡ reading f t
unfolding unmarked forms
dispatch true tile i h = applies _ Tile.tile i h
dispatch true tensor i h = applies _ Tile.tensor_view i h
dispatch true pointer i h = applies _ O.pointer i h
dispatch true partition i h = applies _ W.partition_view i h
dispatch true gather i h = applies _ W.gather_scatter_view i h
dispatch true strided i h = applies _ W.strided_view i h
dispatch false tile i h = applies _ Tile.tile i h
dispatch false tensor i h = applies _ Tile.tensor_view i h
dispatch false pointer i h = applies _ O.pointer i h
dispatch false partition i h = applies _ W.partition_view i h
dispatch false gather i h = applies _ W.gather_scatter_view i h
dispatch false strided i h = applies _ W.strided_view i h

-- ── nothing is to trim ──
-- what is trimmed at its end is trimmed
begun : (b : Bool) (f : Bracketed) (s : List ℕ) → less_trailing white (cuda b ⊕ opening f ⊕ s) ≡ cuda b ⊕ opening f ⊕ s → Trimmed (cuda b ⊕ opening f ⊕ s)
begun true f s e = record { same = e; some = tt }
begun false tile s e = record { same = e; some = tt }
begun false tensor s e = record { same = e; some = tt }
begun false pointer s e = record { same = e; some = tt }
begun false partition s e = record { same = e; some = tt }
begun false gather s e = record { same = e; some = tt }
begun false strided s e = record { same = e; some = tt }

ended : (t : List ℕ) → less_trailing white (t ++ bytes ">") ≡ t ++ bytes ">"
ended [] = refl
ended (c ∷ t) = ap (unless_last white c) (ended t) ∙ by t
  where
    by : (t : List ℕ) → unless_last white c (t ++ bytes ">") ≡ c ∷ (t ++ bytes ">")
    by [] = refl
    by (d ∷ t) = refl

trimmed : (b : Bool) (f : Bracketed) (t : List ℕ) → Trimmed (cuda b ⊕ opening f ⊕ t ⊕ bytes ">")
trimmed b f t = begun b f (t ⊕ bytes ">") (subst (λ (s : List ℕ). less_trailing white s ≡ s)
    (append_assoc (cuda b ++ opening f) t (bytes ">") ∙ append_assoc (cuda b) (opening f) (t ++ bytes ">")) (ended ((cuda b ++ opening f) ++ t)))

-- ── the law ──
-- with `!cuda_tile.` in front, or without
abbrev opener : Bracketed → Shape
opener f = alt (lit (bytes "!cuda_tile." ⊕ opening f)) (lit (opening f))

-- all that is to be computed of the content's shapes, before and behind the mark
abbrev pub fits : Bracketed → Shape → Shape → Bool
fits f a c = fit (opener f ▸ a) (c ▸ lit (bytes ">")) && level (a ▸ c)

module _ (f : Bracketed) {a c : Shape} {g : List ℕ → List ℕ} (h : Hole a c g) (t : T (fits f a c)) where
  t1 : T (fit (opener f ▸ a) (c ▸ lit (bytes ">")))
  t1 = and_left (fit (opener f ▸ a) (c ▸ lit (bytes ">"))) (level (a ▸ c)) t

  t2 : T (level (a ▸ c))
  t2 = and_right (fit (opener f ▸ a) (c ▸ lit (bytes ">"))) (level (a ▸ c)) t

  front : {o : List ℕ} → In (opener f) o → Hole (opener f ▸ a) (c ▸ lit (bytes ">")) (λ r. o ++ (g r ++ bytes ">"))
  front i = i ◂ inside h (say (bytes ">"))

  -- THE LAW: the content is read by the form's own reader, and the mark is its attribute
  pub bracketed : (b m : Bool) → parse (cuda b ⊕ opening f ⊕ g (may m the_mark) ⊕ bytes ">") ≡ each (attach m) (reading f (g []))
  bracketed true m = reads (front {o = bytes "!cuda_tile." ⊕ opening f} (left the)) t1 (λ r. trimmed true f (g r)) m ∙ ap (each (attach m)) (dispatch true f (hole_in h) t2)
  bracketed false m = reads (front {o = opening f} (right the)) t1 (λ r. trimmed false f (g r)) m ∙ ap (each (attach m)) (dispatch false f (hole_in h) t2)
