-- Record and note that are made of what is carried are those of what was found; a list that was read is sound, so that counts add up.
use Rattle.std.specs.Prelude.{if◌then◌else◌, Option, None, Some}
use Prim.Native.Nat.{ℕ, zero, suc, ◌≤◌}
use native.Mathlib.Omega.{arith}
use mathlib.Core.Bool.{Bool, true, false, ◌&&◌, ◌||◌, false≢true}
use mathlib.Core.List.{List, [], ◌∷◌}
use mathlib.Core.Path.{◌≡◌, refl, sym, ap, subst}
use borrow.Author.Tests.{leb-true}
use lib.Dec.{leb}
use lib.IntN.{ℤ, pos}
use lib.ListN.{length, get_or}
use Rattle.meaning.specs.Found.{Clause, stands, filled, values, padded, Found, flat, within, unreadable, lacking, counts, with_attribute}
use Rattle.meaning.specs.Parts.{each}
use Rattle.meaning.specs.Ordinary.{refused, accepted, judged}
use Rattle.meaning.specs.declared.Note.{Note}
use Rattle.meaning.specs.declared.Reading.{Reading}
use Rattle.meaning.specs.declared.Record.{Record}
use Rattle.meaning.specs.declared.Refusal.TheVariants.{Accepted, TooMany}
use Rattle.lists.specs.Laid.{Laid, laid, row}
use Rattle.lists.specs.declared.row.Row.{Row}
use Rattle.lists.proofs.Bounds.{fell_within}
use Rattle.port.specs.Carried.{carried, any, lacks, fell, rows_noted, noted, recorded, lengths_within, answered, Sound}

-- ── the code's tests ──

pub any_none : (n : ℕ) → n ≡ 0 → 0 ≡ any n
any_none n e = rw e

pub any_some : (n : ℕ) → (n ≡ 0 → ⊥) → 1 ≡ any n
any_some zero h = absurd (h refl)
any_some (suc n) h = refl

pub lacks_few : (r : Row) → lacks r ≤ 1
lacks_few r = by r.stood r.len
  where
    by : (b : Bool) (n : ℕ) → (if b then 0 else any n) ≤ 1
    by true n = omega arith
    by false zero = omega arith
    by false (suc n) = omega arith

pub or_false : (b : Bool) → b ≡ b || false
or_false true = refl
or_false false = refl

-- ── what was found is sound ──

pub sound_list : {l : Laid} (c : Clause) → l ≡ laid 8 c → fell l ≤ l.row.len
sound_list c e = subst (λ (m : Laid). fell m ≤ m.row.len) (sym e) (fell_within c)

pub sound_one : {l : Laid} (c : Clause) → l ≡ laid 8 c → length (values c) ≤ 1 → fell l ≤ 1
sound_one {l} c e h = let k = fell_within c in let n : fell l ≡ unreadable c = ap fell e in omega arith

both : (a b : Bool) → a && b ≡ true → (a ≡ true) × (b ≡ true)
both true b e = (refl, e)
both false b e = absurd (false≢true e)

-- within the capacity sums can't wrap
pub few : {a b t m w z : Laid} → Sound a b t m w z
    → leb a.row.len 8 && leb b.row.len 8 && leb t.row.len 8 && leb m.row.len 8 && leb w.row.len 8 ≡ true
    → (fell a ≤ 8) × (fell b ≤ 8) × (fell m ≤ 8) × (fell w ≤ 8) × (fell z ≤ 8)
few {a} {b} {t} {m} {w} {z} g e =
    let x = leb a.row.len 8 in let y = leb b.row.len 8 in let u = leb t.row.len 8 in let v = leb m.row.len 8 in
    let s4 = both (x && y && u && v) (leb w.row.len 8) e in let s3 = both (x && y && u) v s4.0 in let s2 = both (x && y) u s3.0 in let s1 = both x y s2.0 in
    let h1 = leb-true a.row.len 8 s1.0 in let h2 = leb-true b.row.len 8 s1.1 in
    let h4 = leb-true m.row.len 8 s3.1 in let h5 = leb-true w.row.len 8 s4.1 in
    (omega (arith, g.shape), omega (arith, g.strides), omega (arith, g.map), omega (arith, g.traversal), omega (arith, g.sparse))

-- ── the answer ──

-- the attribute, where a mark was found
abbrev pub marked : Bool → Found → Found
marked b t = if b then with_attribute t else t

first : (zs : List ℤ) → get_or (padded 8 zs) 0 (pos 0) ≡ get_or zs 0 (pos 0)
first [] = refl
first (z ∷ zs) = refl

lacks_is : (c : Clause) → lacks (row c) ≡ lacking c
lacks_is (stands es) = refl
lacks_is (filled []) = refl
lacks_is (filled (z ∷ zs)) = refl

module _ (t : Found) where
  recorded_is : (b : Bool) → recorded b (carried 8 t) ≡ flat 8 (marked b t)
  unfolding recorded flat with_attribute
  recorded_is true = rw (first (values t.sparse))
  recorded_is false = rw (first (values t.sparse))

  noted_is : (b : Bool) → noted (carried 8 t) ≡ counts (marked b t)
  unfolding rows_noted counts with_attribute
  noted_is true = rw (lacks_is t.strides, lacks_is t.map, lacks_is t.traversal, lacks_is t.sparse)
  noted_is false = rw (lacks_is t.strides, lacks_is t.map, lacks_is t.traversal, lacks_is t.sparse)

  within_is : (b : Bool) → lengths_within 8 (carried 8 t) ≡ within 8 (marked b t)
  unfolding lengths_within within with_attribute
  within_is true = refl
  within_is false = refl

abbrev answer : Bool → Record → Note → Reading
answer b v n = if b then record { refusal = Accepted; place = 0; value = v; note = n } else refused 8 TooMany 0

pub answered_is : (b : Bool) (o : Option Found) → answered b (each (carried 8) o) ≡ judged 8 (each (marked b) o)
unfolding accepted
answered_is b None = refl
answered_is b (Some t) = λ i. answer (within_is t b i) (recorded_is t b i) (noted_is t b i)
