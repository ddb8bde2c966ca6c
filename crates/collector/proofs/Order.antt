-- Laws of a collector's parts: what the order test has to look at, and where a piece is laid. Over any limit.
use Rattle.std.specs.Prelude.{if◌then◌else◌}
use Prim.Native.Nat.{ℕ, zero, suc, ◌+◌, ◌-◌, ◌≤◌, ◌<◌}
use native.Mathlib.Nat.{sub-zero}
use native.Mathlib.Omega.{arith}
use mathlib.Core.Bool.{Bool, true, false, ◌&&◌, and_self, and-true, and-false, and_assoc, not, false≢true}
use mathlib.Core.List.{[], ◌∷◌, ◌++◌, append_assoc}
use mathlib.Core.Path.{◌≡◌, refl, sym, ap, ◌∙◌}
use borrow.Rule.Slice.PartMut.{put_mid, Post-is}
use borrow.Author.Tests.{leb-true, eqb-true, le-leb, lt-leb, eq-eqb, ne_eqb}
use lib.Dec.{eqb, leb}
use lib.ListN.{length, take, drop, get_or, replicate, length-append, length-drop, drop_of_length-le}
use lib.Seq.{length-take-le, drop-drop}
use Rattle.lexis.specs.Text.{Text}
use Rattle.lexis.proofs.Lists.{view}
use Rattle.collector.specs.declared.Collector.{Collector}
use Rattle.meaning.specs.Ordinary.{refused}
use Rattle.meaning.specs.declared.Reading.{Reading}
use Rattle.meaning.specs.declared.Refusal.TheVariants.{NotNormal}
use Rattle.std.specs.Prelude.{Ok, Err}
use Rattle.collector.specs.declared.Refused.TheVariants.{NotInOrder}
use Rattle.collector.specs.Collecting.{zeros, in_order, held, laid, fresh, joined, told, fed, answer, answered, ended}
use Rattle.collector.specs.Parts.{of_parts}

-- ── only zeros ──

-- one byte more has been looked at
pub looked : (s : Text) (i : ℕ) (z : Bool) → i < length s → zeros s ≡ z && zeros (drop i s) → zeros s ≡ (z && eqb (get_or s i 0) 0) && zeros (drop (i + 1) s)
looked s i z h e = e ∙ rw (view s i h) (sym (and_assoc z (eqb (get_or s i 0) 0) (zeros (drop (i + 1) s))))

pub all_looked : (s : Text) (i : ℕ) (z : Bool) → length s ≤ i → zeros s ≡ z && zeros (drop i s) → z ≡ zeros s
all_looked s i z h e = sym (e ∙ rw (drop_of_length-le s h) (and-true z))

first : (a b : Bool) → a && b ≡ true → a ≡ true
first true b e = refl
first false b e = e

second : (a b : Bool) → a && b ≡ true → b ≡ true
second true b e = e
second false b e = absurd (false≢true e)

-- zeros are so many times 0
pub blank : (s : Text) → zeros s ≡ true → s ≡ replicate (length s) 0
blank [] e = refl
blank (b ∷ s) e = λ i. eqb-true b 0 (first (eqb b 0) (zeros s) e) i ∷ blank s (second (eqb b 0) (zeros s) e) i

pub zeros_blank : (n : ℕ) → zeros (replicate n 0) ≡ true
zeros_blank zero = refl
zeros_blank (suc n) = zeros_blank n

zeros_drop : (n : ℕ) (s : Text) → zeros s ≡ true → zeros (drop n s) ≡ true
zeros_drop zero s e = e
zeros_drop (suc n) [] e = refl
zeros_drop (suc n) (b ∷ s) e = zeros_drop n s (second (eqb b 0) (zeros s) e)

-- ── what the code leaves of the bytes ──

-- zeros everywhere
pub cleared : (size : ℕ) (b : Text) {t : Text} → length b ≡ size → t ≡ replicate (length b) 0 → t ≡ replicate size 0
cleared size b l e = e ∙ ap (λ (n : ℕ). replicate n 0) l

-- a piece, put in the place of as many bytes
pub placed : (b p q : Text) (n : ℕ) → q ≡ p → put_mid n (n + length p - n) b q ≡ take n b ++ p ++ drop (n + length p) b
placed b p q n e =
    (λ i. take n b ++ (e i ++ Post-is n (n + length p) b (omega arith) i))
    ∙ sym (append_assoc (take n b) p (drop (n + length p) b))

-- ── in order ──

module _ (size : ℕ) (b : Text) (n : ℕ) (o : Bool) where
  abbrev c : Collector
  c = of_parts b n o

  -- there is no room of this size
  pub no_room : (length b ≡ size → ⊥) → false ≡ in_order size c
  unfolding in_order
  no_room h = rw (ne_eqb (length b) size h)

  pub too_many : size < n → false ≡ in_order size c
  unfolding in_order
  too_many h = rw (lt-leb n size h, and-false (eqb (length b) size))

  -- an over-full one has number 0
  pub with_number : o && not (eqb n 0) ≡ true → false ≡ in_order size c
  unfolding in_order
  with_number e = by o (eqb n 0) (eqb (length b) size && leb n size && zeros (drop n b)) e
    where
      by : (o d r : Bool) → o && not d ≡ true → false ≡ r && (if o then d && zeros b else true)
      by true false r e = sym (and-false r)
      by true true r e = absurd (false≢true e)
      by false d r e = absurd (false≢true e)

  -- else the room past the number decides
  pub by_room : length b ≡ size → n ≤ size → o && not (eqb n 0) ≡ false → zeros (drop n b) ≡ in_order size c
  unfolding in_order
  by_room l h e = rw (eq-eqb (length b) size l, le-leb n size h) (by o n e)
    where
      by : (o : Bool) (n : ℕ) → o && not (eqb n 0) ≡ false → zeros (drop n b) ≡ zeros (drop n b) && (if o then eqb n 0 && zeros b else true)
      by false n e = sym (and-true (zeros (drop n b)))
      by true zero e = sym (and_self (zeros b))
      by true (suc n) e = let k : eqb (suc n) 0 ≡ false = ne_eqb (suc n) 0 (λ h. omega arith) in absurd (false≢true (sym (rw k at e)))

  pub record Ordered : Type 0 where
    pub full : length b ≡ size
    pub bound : n ≤ size
    pub room : zeros (drop n b) ≡ true
    pub none : o ≡ true → n ≡ 0
    pub only : o ≡ true → zeros b ≡ true

  pub ordered : in_order size c ≡ true → Ordered
  unfolding in_order
  ordered e =
      let z = zeros (drop n b) in
      let l = leb n size in
      let w : Bool = if o then eqb n 0 && zeros b else true in
      let f = first (eqb (length b) size && l && z) w e in
      let g = second (eqb (length b) size && l && z) w e in
      let h = first (eqb (length b) size && l) z f in
      record {
        full = eqb-true (length b) size (first (eqb (length b) size) l h);
        bound = leb-true n size (second (eqb (length b) size) l h);
        room = second (eqb (length b) size && l) z f;
        none = λ k. eqb-true n 0 (first (eqb n 0) (zeros b) (ap (λ (t : Bool). if t then eqb n 0 && zeros b else true) (sym k) ∙ g));
        only = λ k. second (eqb n 0) (zeros b) (ap (λ (t : Bool). if t then eqb n 0 && zeros b else true) (sym k) ∙ g);
      }

  -- ── a piece joins ──

  module _ (p : Text) (y : in_order size c ≡ true) where
    full : length b ≡ size
    full = (ordered y).full

    -- over-full it stays, as it was
    pub stays : o ≡ true → c ≡ laid size (joined size (held c) p)
    unfolding held
    stays h = rw h (λ i. of_parts ((blank b ((ordered y).only h) ∙ ap (λ (m : ℕ). replicate m 0) full) i) ((ordered y).none h i) true)

    long : length (take n b ++ p) ≡ n + length p
    long = length-append (take n b) p ∙ ap (λ (m : ℕ). m + length p) (length-take-le n b (let k = (ordered y).bound in let f = full in omega arith))

    -- past the limit only zeros are left
    pub passes : (t : Text) → o ≡ false → size - n < length p → t ≡ replicate size 0 → of_parts t 0 true ≡ laid size (joined size (held c) p)
    unfolding held
    passes t h k e = let g : leb (length (take n b ++ p)) size ≡ false = lt-leb _ size (let l = long in let m = (ordered y).bound in omega arith) in rw (h, g, e)

    -- what stands behind the piece is as many zeros as there is room
    behind : (m : ℕ) → m ≡ n + length p → drop (n + length p) b ≡ replicate (size - m) 0
    behind m e =
        sym (drop-drop (length p) n b) ∙ blank (drop (length p) (drop n b)) (zeros_drop (length p) (drop n b) (ordered y).room)
        ∙ ap (λ (k : ℕ). replicate k 0) (ap length (drop-drop (length p) n b) ∙ length-drop (n + length p) b ∙ (λ i. full i - sym e i))

    -- within it the piece stands behind what was held
    pub joins : (t : Text) → o ≡ false → length p ≤ size - n → t ≡ take n b ++ p ++ drop (n + length p) b → of_parts t (n + length p) o ≡ laid size (joined size (held c) p)
    unfolding held
    joins t h k e =
        let g : leb (length (take n b ++ p)) size ≡ true = le-leb _ size (let l = long in let m = (ordered y).bound in omega arith) in
        rw (h, g) (λ i. of_parts ((e ∙ ap (λ (l : Text). take n b ++ p ++ l) (behind (length (take n b ++ p)) long)) i) (sym long i) false)

pub emptied : (size : ℕ) {b : Text} → b ≡ replicate size 0 → of_parts b 0 false ≡ fresh size
unfolding fresh
emptied size e = ap (λ (l : Text). of_parts l 0 false) e ∙ ap (λ (n : ℕ). of_parts (replicate n 0) 0 false) (sym (sub-zero size))

-- ── the answers, by the order test ──

module _ (cap size : ℕ) (c : Collector) where
  pub feed_refused : (p : Text) → in_order size c ≡ false → (Err NotInOrder ≡ told size c) × (c ≡ fed size c p)
  unfolding told fed
  feed_refused p n = rw n (refl, refl)

  pub feed_taken : (p : Text) {d : Collector} → in_order size c ≡ true → d ≡ laid size (joined size (held c) p) → (Ok tt ≡ told size c) × (d ≡ fed size c p)
  unfolding told fed
  feed_taken p y e = rw y (refl, e)

  pub end_kept : in_order size c ≡ false → c ≡ ended size c
  unfolding ended
  end_kept n = rw n

  pub end_refused : {r : Reading} → in_order size c ≡ false → r ≡ refused cap NotNormal 0 → (r ≡ answered cap size c) × (c ≡ ended size c)
  unfolding answered
  end_refused n e = (rw n e, end_kept n)

  pub end_fresh : in_order size c ≡ true → fresh size ≡ ended size c
  unfolding ended
  end_fresh y = rw y

  pub end_reads : {r : Reading} → in_order size c ≡ true → r ≡ answer cap size (held c) → r ≡ answered cap size c
  unfolding answered
  end_reads y e = rw y e

  pub end_answered : {r : Reading} {d : Collector} → in_order size c ≡ true → r ≡ answer cap size (held c) → d ≡ fresh size → (r ≡ answered cap size c) × (d ≡ ended size c)
  end_answered y e f = (end_reads y e, f ∙ end_fresh y)
