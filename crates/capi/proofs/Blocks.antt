-- Blocks that hold a collector: what the code's tests say of `lent`, and what is laid back.
use Prim.Native.Nat.{ℕ, ◌+◌, ◌≤◌}
use native.Mathlib.Omega.{arith}
use mathlib.Core.Bool.{Bool, true, false, ◌&&◌, false≢true}
use mathlib.Core.List.{◌++◌, append-nil}
use mathlib.Core.Path.{◌≡◌, refl, sym, ap, ◌∙◌}
use borrow.Rule.Slice.PartMut.{put_mid}
use borrow.Author.Tests.{eqb-true}
use lib.Dec.{eqb, leb}
use lib.ListN.{length, take, drop, get_or, length-append, length-drop, take-append-drop, drop_of_length-le}
use lib.Seq.{take_at}
use Rattle.lexis.specs.Text.{Text}
use Rattle.meaning.specs.Ordinary.{refused}
use Rattle.meaning.specs.Refusals as R
use Rattle.meaning.specs.declared.Refusal.{Refusal}
use Rattle.meaning.specs.declared.Refusal.TheVariants.{Accepted, TooLong, HighByte, NoType, TooMany, NotStrict, NotNormal, NoText, RoomShort}
use Rattle.numbers.specs.Numbers.{in_numbers}
use Rattle.meaning.specs.declared.Reading.{Reading}
use Rattle.collector.specs.declared.Collector.{Collector}
use Rattle.std.specs.Prelude.{Ok, Err, None, Some}
use Rattle.collector.specs.declared.Refused.{Refused}
use Rattle.collector.specs.declared.Refused.TheVariants.{NotInOrder}
use Rattle.collector.specs.Collecting.{Fed, in_order, fresh, number, told, fed, answered, ended}
use Rattle.collector.specs.Parts.{of_parts}
use Rattle.collector.proofs.Order as L
use Rattle.collector.proofs.Pieces as P
use Rattle.collector.proofs.Refusing as S
use Rattle.capi.specs.Block.{formed, of_block, last_bytes, to_block, lent, feed_number, fed_block, read_block, ended_block, Formed}

-- ── which answers are a refusal with 6 ──

pub refused_6 : {v : Fed} (r : Refused) → v ≡ Err r → number v ≡ 6
refused_6 NotInOrder e = ap number e

pub taken_not_6 : {v : Fed} → v ≡ Ok tt → number v ≡ 6 → ⊥
taken_not_6 e h = let z : ◌≡◌ {A = ℕ} 0 6 = sym (ap number e) ∙ h in omega arith

pub not_normal_6 : {f : Refusal} → f ≡ NotNormal → R.number f ≡ 6
not_normal_6 e = ap R.number e

pub not_6 : (f : Refusal) → (f ≡ NotNormal → ⊥) → R.number f ≡ 6 → ⊥
not_6 Accepted k h = omega arith
not_6 TooLong k h = omega arith
not_6 HighByte k h = omega arith
not_6 NoType k h = omega arith
not_6 TooMany k h = omega arith
not_6 NotStrict k h = omega arith
not_6 NotNormal k h = k refl
not_6 NoText k h = omega arith
not_6 RoomShort k h = omega arith

-- what is laid in the place of all that stands behind the first n
pub laid_behind : (b d e : Text) (n k : ℕ) → length b ≡ n + k → d ≡ e → put_mid n k b d ≡ take n b ++ e
laid_behind b d e n k l h =
    (λ i. take n b ++ (h i ++ drop_of_length-le (drop n b) {i = k} (let m = length-drop n b in omega arith) i))
    ∙ ap (λ (x : Text). take n b ++ x) (append-nil e)

both : (a b : Bool) → a && b ≡ true → (a ≡ true) × (b ≡ true)
both true b e = (refl, e)
both false b e = absurd (false≢true e)

sure : (k : Bool) → (k ≡ false → ⊥) → k ≡ true
sure true f = refl
sure false f = absurd (f refl)

module _ (size : ℕ) (b : Text) where
  pub long : formed size b ≡ true → length b ≡ size + 3
  long e = eqb-true (length b) (size + 3) (both (eqb (length b) (size + 3)) (leb (get_or b (size + 2) 0) 1) e).0

  pub unformed : formed size b ≡ false → lent size b ≡ None
  unfolding lent
  unformed e = rw e

  pub feed_none : (p : Text) → formed size b ≡ false → (6 ≡ feed_number (lent size b)) × (b ≡ fed_block size b p (lent size b))
  feed_none p e = rw (unformed e) (refl, refl)

  pub end_none : (r : Reading) → formed size b ≡ false → r ≡ refused 8 NotNormal 0 → (in_numbers r ≡ in_numbers (read_block 8 size (lent size b))) × (b ≡ ended_block size b (lent size b))
  end_none r e g = rw (unformed e) (ap in_numbers g, refl)

  not_lent : formed size b ≡ true → in_order size (of_block size b) ≡ false → lent size b ≡ None
  unfolding lent
  not_lent f e = rw (f, e)

  is_lent : formed size b ≡ true → in_order size (of_block size b) ≡ true → lent size b ≡ Some (of_block size b)
  unfolding lent
  is_lent f e = rw (f, e)

  module _ {n : ℕ} {o : Bool} (f : Formed size b n o) where
    abbrev c : Collector
    c = of_parts (take size b) n o

    same : c ≡ of_block size b
    same = λ i. of_parts (take size b) (f.len i) (f.over i)

    -- what is laid back
    stored : (d : Collector) (t : Text) → length d.bytes ≡ size → t ≡ take size (d.bytes ++ drop size b) ++ last_bytes d.len d.over → t ≡ to_block d
    stored d t l e = e ∙ ap (λ (x : Text). x ++ last_bytes d.len d.over) (take_at d.bytes (drop size b) size l)

    pub ready : (d : Collector) → L.Ordered size d.bytes d.len d.over → (length (d.bytes ++ drop size b) ≡ size + 3) × (d.len ≤ size)
    ready d k =
        let e = length-append d.bytes (drop size b) in
        let l = length-drop size b in
        let m = long f.form in
        let n = k.full in
        (omega arith, k.bound)

    kept : (d : Collector) → d ≡ c → d.bytes ++ drop size b ≡ b
    kept d e = ap (λ (x : Collector). x.bytes ++ drop size b) e ∙ take-append-drop size b

    order : in_order size c ≡ in_order size (of_block size b)
    order = ap (in_order size) same

    -- ── a piece ──

    module _ (p : Text) (v : Fed) (d : Collector) (g : (v ≡ told size c) × (d ≡ fed size c p)) where
      pub feed_6 : number v ≡ 6 → (6 ≡ feed_number (lent size b)) × (d.bytes ++ drop size b ≡ fed_block size b p (lent size b))
      feed_6 h =
          let n = (S.piece_6 8 size c).0 (ap number (sym g.0) ∙ h) in
          rw (not_lent f.form (sym order ∙ n)) (refl, kept d (g.1 ∙ S.piece_unaltered 8 size c n p))

      module _ (h : number v ≡ 6 → ⊥) where
        taken : in_order size c ≡ true
        taken = sure (in_order size c) (λ e. h (ap number g.0 ∙ (S.piece_6 8 size c).1 e))

        pub fed_order : L.Ordered size d.bytes d.len d.over
        fed_order = L.ordered size d.bytes d.len d.over (ap (in_order size) g.1 ∙ P.fed_in_order size c p taken)

        pub feed_0 : (t : Text) → t ≡ take size (d.bytes ++ drop size b) ++ last_bytes d.len d.over → (0 ≡ feed_number (lent size b)) × (t ≡ fed_block size b p (lent size b))
        feed_0 t e = rw (is_lent f.form (sym order ∙ taken)) (refl, stored d t fed_order.full e ∙ ap to_block (g.1 ∙ ap (λ (x : Collector). fed size x p) same))

    -- ── the end ──

    module _ (r : Reading) (d : Collector) (g : (r ≡ answered 8 size c) × (d ≡ ended size c)) where
      pub end_6 : R.number r.refusal ≡ 6 → (r ≡ read_block 8 size (lent size b)) × (d.bytes ++ drop size b ≡ ended_block size b (lent size b))
      end_6 h =
          let n = (S.end_6 8 size c).0 (ap (λ (x : Reading). R.number x.refusal) (sym g.0) ∙ h) in
          rw (not_lent f.form (sym order ∙ n)) (g.0 ∙ S.end_6_blank 8 size c n, kept d (g.1 ∙ S.end_unaltered 8 size c n))

      module _ (h : R.number r.refusal ≡ 6 → ⊥) where
        read_on : in_order size c ≡ true
        read_on = sure (in_order size c) (λ e. h (ap (λ (x : Reading). R.number x.refusal) g.0 ∙ (S.end_6 8 size c).1 e))

        emptied : d ≡ fresh size
        emptied = g.1 ∙ sym (L.end_fresh 8 size c read_on)

        pub end_order : L.Ordered size d.bytes d.len d.over
        end_order = L.ordered size d.bytes d.len d.over (ap (in_order size) emptied ∙ P.fresh_in_order size)

        pub end_0 : (t : Text) → t ≡ take size (d.bytes ++ drop size b) ++ last_bytes d.len d.over → (r ≡ read_block 8 size (lent size b)) × (t ≡ ended_block size b (lent size b))
        end_0 t e = rw (is_lent f.form (sym order ∙ read_on)) (g.0 ∙ ap (answered 8 size) same, stored d t end_order.full e ∙ ap to_block emptied)
