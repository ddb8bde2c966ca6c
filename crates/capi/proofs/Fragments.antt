-- Any pieces, fed to a block of zeros: the end's answer is the ordinary reader's on the joined bytes, and the block is zeros again.
-- It rests on `back`: a collector in order that is laid in a block is the one that the block holds.
use Prim.Native.Nat.{ℕ, ◌+◌, ◌*◌, ◌/◌}
use native.Mathlib.Nat.{add-zero, sub-zero}
use native.Mathlib.Omega.{arith}
use mathlib.Core.Bool.{Bool, true, false}
use mathlib.Core.List.{List, [], ◌∷◌, ◌++◌, flatten, foldl}
use Rattle.std.specs.Prelude.{Some}
use mathlib.Core.Path.{◌≡◌, refl, sym, ap, subst, ◌∙◌}
use borrow.Author.Tests.{eq-eqb}
use lib.Dec.{eqb, leb}
use lib.ListN.{length, get_or, replicate, length-append, replicate-append-replicate}
use lib.Seq.{take_at, get_or-append-add}
use Rattle.lexis.specs.Text.{Text}
use Rattle.meaning.specs.Ordinary.{ordinary}
use Rattle.collector.specs.declared.Collector.{Collector}
use Rattle.collector.specs.Collecting.{in_order, fresh, fed}
use Rattle.collector.specs.Parts.{of_parts}
use Rattle.collector.proofs.Order as L
use Rattle.collector.proofs.Pieces as P
use Rattle.numbers.specs.Numbers.{flag_number}
use Rattle.capi.specs.Block.{formed, of_block, last_bytes, to_block, lent, fed_block, read_block, ended_block}

flag_back : (o : Bool) → eqb (flag_number o) 1 ≡ o
flag_back true = refl
flag_back false = refl

flag_one : (o : Bool) → leb (flag_number o) 1 ≡ true
flag_one true = refl
flag_one false = refl

module _ (size : ℕ) (c : Collector) (y : in_order size c ≡ true) where
  full : length c.bytes ≡ size
  full = (L.ordered size c.bytes c.len c.over y).full

  behind : (k : ℕ) → get_or (to_block c) (size + k) 0 ≡ get_or (last_bytes c.len c.over) k 0
  behind k = subst (λ (n : ℕ). get_or (to_block c) (n + k) 0 ≡ get_or (last_bytes c.len c.over) k 0) full (get_or-append-add c.bytes (last_bytes c.len c.over) k 0)

  high : get_or (to_block c) size 0 ≡ c.len / 256
  high = ap (λ (n : ℕ). get_or (to_block c) n 0) (sym (add-zero size)) ∙ behind 0

  len_back : get_or (to_block c) size 0 * 256 + get_or (to_block c) (size + 1) 0 ≡ c.len
  len_back = (λ i. high i * 256 + behind 1 i) ∙ omega arith

  held_back : of_block size (to_block c) ≡ c
  held_back = λ i. of_parts (take_at c.bytes (last_bytes c.len c.over) size full i) (len_back i) ((ap (λ (m : ℕ). eqb m 1) (behind 2) ∙ flag_back c.over) i)

  form_back : formed size (to_block c) ≡ true
  form_back = rw (eq-eqb (length (to_block c)) (size + 3) (length-append c.bytes (last_bytes c.len c.over) ∙ ap (λ (n : ℕ). n + 3) full), behind 2, flag_one c.over)

  pub back : lent size (to_block c) ≡ Some c
  unfolding lent
  back = rw (form_back, ap (in_order size) held_back ∙ y) (ap Some held_back)

module _ (cap size : ℕ) where
  -- the block, after a piece
  abbrev pub after_piece : Text → Text → Text
  after_piece b piece = fed_block size b piece (lent size b)

  fed_all : (c : Collector) (ps : List Text) → in_order size c ≡ true → foldl after_piece (to_block c) ps ≡ to_block (foldl (fed size) c ps)
  fed_all c [] y = refl
  fed_all c (p ∷ ps) y =
      ap (λ (b : Text). foldl after_piece b ps) (ap (fed_block size (to_block c) p) (back size c y))
      ∙ fed_all (fed size c p) ps (P.fed_in_order size c p y)

  -- a fresh collector is a block of zeros
  pub zero_block : to_block (fresh size) ≡ replicate (size + 3) 0
  unfolding fresh
  zero_block = ap (λ (n : ℕ). replicate n 0 ++ 0 ∷ 0 ∷ 0 ∷ []) (sub-zero size) ∙ replicate-append-replicate size 3 0

  -- a block of zeros, after the pieces
  abbrev pub after_pieces : List Text → Text
  after_pieces pieces = foldl after_piece (replicate (size + 3) 0) pieces

  holds : (pieces : List Text) → lent size (after_pieces pieces) ≡ Some (P.after size pieces)
  holds pieces =
      ap (λ (b : Text). lent size (foldl after_piece b pieces)) (sym zero_block)
      ∙ ap (lent size) (fed_all (fresh size) pieces (P.fresh_in_order size)) ∙ back size (P.after size pieces) (P.stays_in_order size pieces)

  pub ends_as_read : (pieces : List Text) → read_block cap size (lent size (after_pieces pieces)) ≡ ordinary cap size (flatten pieces)
  ends_as_read pieces = ap (read_block cap size) (holds pieces) ∙ P.ends_as_read size cap pieces

  pub fresh_again : (pieces : List Text) → ended_block size (after_pieces pieces) (lent size (after_pieces pieces)) ≡ replicate (size + 3) 0
  fresh_again pieces = ap (ended_block size (after_pieces pieces)) (holds pieces) ∙ zero_block
