-- Laws of a part that is walked once: white bytes, a sign, digits up to a byte that passes a test p, which none of these passes.
-- What is passed is left out of the part's length, of its trimmed text and of its number.
use Rattle.std.specs.Prelude.{if◌then◌else◌, Option, None, Some, option_map, IfSome}
use mathlib.Core.Path.{◌≡◌, refl, sym, ap, subst, ◌∙◌}
use mathlib.Core.Bool.{Bool, true, false, ◌&&◌, ◌||◌, not, false≢true}
use mathlib.Core.List.{[], ◌∷◌}
use Prim.Native.Nat.{ℕ, ◌+◌, ◌-◌, ◌*◌, ◌^◌, ◌≤◌, ◌<◌}
use native.Mathlib.Omega.{arith}
use borrow.Author.Tests.{eqb-true, eqb-false, ltb-true, leb-true, leb-false, ne_eqb, le-leb, lt-leb}
use lib.Dec.{eqb, leb, ltb}
use lib.IntN.{pos}
use lib.ListN.{length, take, drop, get_or, drop_of_length-le, get_or-eq_default}
use Rattle.lexis.specs.Text.{Text, ink, until, less_trailing, unless_last, white, trim}
use Rattle.numerals.specs.Numeral.{digit, number_from, number, at_most, minus, numeral}
use Rattle.numerals.specs.Parts.{apart, odd, Said}
use Rattle.numerals.proofs.Numbers.{absent}
use Rattle.lexis.proofs.Lists.{view}
use Rattle.lexis.proofs.Seeking.{never, until_step, until_stop, until_here, until_take}

-- ── a byte that isn't white stays where a text is trimmed ──

kept : (b : ℕ) (u : Text) → white b ≡ false → unless_last white b u ≡ b ∷ u
kept b [] e = rw e
kept b (c ∷ u) e = refl

black : (b : ℕ) → 32 < b → white b ≡ false
black b h = rw (le-leb 9 b (omega arith), lt-leb b 13 (omega arith), ne_eqb b 32 (λ e. omega arith))

-- a byte that is neither white nor a digit
odd_byte : (b : ℕ) → odd b ≡ true → (white b ≡ false) × (digit b ≡ false)
odd_byte b e = by (white b) (ltb b 48) (ltb 57 b) (ltb-true b 48) (ltb-true 57 b) e
  where
    by : (c d g : Bool) → (d ≡ true → b < 48) → (g ≡ true → 57 < b) → not c && (d || g) ≡ true → (c ≡ false) × (digit b ≡ false)
    by true d g p q e = absurd (false≢true e)
    by false true g p q e = (refl, rw (lt-leb 48 b (p refl)))
    by false false true p q e = (refl, ap (λ (z : Bool). leb 48 b && z) (lt-leb b 57 (q refl)) ∙ never (leb 48 b))
    by false false false p q e = absurd (false≢true e)

no_number : (u : Text) → number_from 0 u ≡ None → number u ≡ None
no_number [] e = refl
no_number (b ∷ u) e = e

-- ── what is passed over ──

-- no white byte, no digit and no minus passes
pub record Quiet (p : ℕ → Bool) : Type 0 where
  pub on_white : (b : ℕ) → white b ≡ true → p b ≡ false
  pub on_digit : (b : ℕ) → 48 ≤ b → b ≤ 57 → p b ≡ false
  pub on_minus : p 45 ≡ false

pub white_low : (b : ℕ) → white b ≡ true → b ≤ 32
white_low b e = by (leb 9 b) (leb b 13) (eqb b 32) (leb-true b 13) (eqb-true b 32) e
  where
    by : (c d g : Bool) → (d ≡ true → b ≤ 13) → (g ≡ true → b ≡ 32) → (c && d) || g ≡ true → b ≤ 32
    by true true g p q e = let h = p refl in omega arith
    by true false true p q e = let h = q refl in omega arith
    by true false false p q e = absurd (false≢true e)
    by false d true p q e = let h = q refl in omega arith
    by false d false p q e = absurd (false≢true e)

-- such is a separator that is a comma or past the digits
pub quiet : (x : ℕ) → apart x ≡ true → Quiet (eqb x)
quiet x f =
    record {
      on_white = λ b e. far b (λ k. omega (arith, white_low b e)) (omega (arith, white_low b e));
      on_digit = λ b l u. far b (λ k. omega arith) (omega arith);
      on_minus = far 45 (λ k. omega arith) (omega arith);
    }
  where
    far : (b : ℕ) → (b ≡ 44 → ⊥) → b < 58 → eqb x b ≡ false
    far b n h = by (eqb x 44) (leb 58 x) (eqb-true x 44) (leb-true 58 x) f
      where
        by : (c d : Bool) → (c ≡ true → x ≡ 44) → (d ≡ true → 58 ≤ x) → c || d ≡ true → eqb x b ≡ false
        by true d p q e = ne_eqb x b (λ k. n (sym k ∙ p refl))
        by false true p q e = ne_eqb x b (λ k. let g = q refl in omega arith)
        by false false p q e = absurd (false≢true e)

-- digits have been passed from the place k of s up to i, and wrote n: left out of what stands before the next byte that passes p
pub record Running (p : ℕ → Bool) (s : Text) (k i n : ℕ) : Type 0 where
  pub onward : k ≤ i
  pub len : k + length (until p (drop k s)) ≡ i + length (until p (drop i s))
  pub same : number_from 0 (until p (drop k s)) ≡ number_from n (until p (drop i s))
  pub trimmed : number_from 0 (less_trailing white (until p (drop k s))) ≡ number_from n (less_trailing white (until p (drop i s)))
  pub lead : (i ≡ k → ⊥) → 48 ≤ get_or s k 0

pub begun : (p : ℕ → Bool) (s : Text) (k : ℕ) → Running p s k k 0
begun p s k = record { onward = omega arith; len = refl; same = refl; trimmed = refl; lead = λ n. absurd (n refl) }

module _ {p : ℕ → Bool} (q : Quiet p) where
  -- ── white bytes ──

  abbrev first : Text → ℕ
  first t = length (until ink t)

  len_behind : (t : Text) → length (until p t) ≡ first t + length (until p (drop (first t) t))
  len_behind [] = refl
  len_behind (b ∷ t) = by (white b) (q.on_white b) (len_behind t)
    where
      n : Bool → ℕ
      n c = length (if not c then [] else b ∷ until ink t)

      by : (c : Bool) → (c ≡ true → p b ≡ false) → length (until p t) ≡ first t + length (until p (drop (first t) t))
          → length (until p (b ∷ t)) ≡ n c + length (until p (drop (n c) (b ∷ t)))
      by true g r = rw (g refl) (omega arith)
      by false g r = omega arith

  trim_behind : (t : Text) → trim (until p t) ≡ trim (until p (drop (first t) t))
  trim_behind [] = refl
  trim_behind (b ∷ t) = by (white b) refl (q.on_white b) (trim_behind t)
    where
      n : Bool → ℕ
      n c = length (if not c then [] else b ∷ until ink t)

      by : (c : Bool) → white b ≡ c → (c ≡ true → p b ≡ false) → trim (until p t) ≡ trim (until p (drop (first t) t))
          → trim (until p (b ∷ t)) ≡ trim (until p (drop (n c) (b ∷ t)))
      by true w g r = rw (g refl, w) r
      by false w g r = refl

  -- ── one digit more, and the end ──

  module _ {s : Text} {k i n : ℕ} (g : Running p s k i n) where
    led : {b : ℕ} → b ≡ get_or s i 0 → 48 ≤ b → 48 ≤ get_or s k 0
    led {b} m l = by (eqb i k) refl
      where
        by : (c : Bool) → eqb i k ≡ c → 48 ≤ get_or s k 0
        by true e = subst (λ (j : ℕ). 48 ≤ get_or s j 0) (eqb-true i k e) (omega arith)
        by false e = g.lead (eqb-false i k e)

    pub step : {b : ℕ} → b ≡ get_or s i 0 → i < length s → 48 ≤ b → b ≤ 57 → Running p s k (i + 1) (n * 10 + (b - 48))
    step {b} m h l u =
        let e : until p (drop i s) ≡ b ∷ until p (drop (i + 1) s) = rw (view s i h, sym m, q.on_digit b l u) in
        record {
          onward = omega (arith, g.onward);
          len = g.len ∙ ap (λ (v : Text). i + length v) e ∙ omega arith;
          same = g.same ∙ ap (number_from n) e ∙ rw (le-leb 48 b l, le-leb b 57 u);
          trimmed =
              g.trimmed ∙ ap (λ (v : Text). number_from n (less_trailing white v)) e
              ∙ ap (number_from n) (kept b (less_trailing white (until p (drop (i + 1) s))) (black b (omega arith)))
              ∙ rw (le-leb 48 b l, le-leb b 57 u);
          lead = λ z. led m l;
        }

    ended : until p (drop i s) ≡ [] → (i ≡ k → ⊥)
        → (i ≡ k + length (until p (drop k s))) × (number (until p (drop k s)) ≡ Some n)
    ended e m =
        let l : k + length (until p (drop k s)) ≡ i + 0 = g.len ∙ ap (λ (v : Text). i + length v) e in
        (omega arith, by (until p (drop k s)) (omega (arith, g.onward)) (g.same ∙ ap (number_from n) e))
      where
        by : (u : Text) → 0 < length u → number_from 0 u ≡ Some n → number u ≡ Some n
        by [] h e = let f : ⊥ = omega arith in absurd f
        by (b ∷ u) h e = e

    pub at_end : length s ≤ i → (i ≡ k → ⊥) → (i ≡ k + length (until p (drop k s))) × (number (until p (drop k s)) ≡ Some n)
    at_end h = ended (rw (drop_of_length-le s h))

    pub at_next : p (get_or s i 0) ≡ true → (i ≡ k → ⊥) → (i ≡ k + length (until p (drop k s))) × (number (until p (drop k s)) ≡ Some n)
    at_next e = ended (until_here p s i e)

    -- an odd byte next: the part is no number, trimmed
    pub at_odd : i < length s → p (get_or s i 0) ≡ false → odd (get_or s i 0) ≡ true → (i ≡ k → ⊥) → {e : ℕ} → e ≡ i + length (until p (drop i s))
        → (e ≡ k + length (until p (drop k s))) × (number (less_trailing white (until p (drop k s))) ≡ None) × (48 ≤ get_or (drop k s) 0 0)
    at_odd h d o m v =
        let b = get_or s i 0 in
        let e : until p (drop i s) ≡ b ∷ until p (drop (i + 1) s) = rw (view s i h, d) in
        let c = odd_byte b o in (
          v ∙ sym g.len,
          no_number (less_trailing white (until p (drop k s)))
              (g.trimmed ∙ ap (λ (v : Text). number_from n (less_trailing white v)) e
              ∙ ap (number_from n) (kept b (less_trailing white (until p (drop (i + 1) s))) c.0) ∙ rw c.1),
          rw (view s k (omega (arith, g.onward))) (g.lead m),
        )

  -- one digit more, by what is left of the text
  pub passes : {s : Text} {k n : ℕ} {r t : Text} {b d : ℕ} → Running p s k (length s - length r) n → n < 2 ^ 63 → r ≡ drop (length s - length r) s → length r ≤ length s
      → r ≡ b ∷ t → n ≤ 922337203685477579 → 48 ≤ b → b ≤ 57 → d ≡ b - 48
      → Running p s k (length s - length t) (n * 10 + d) × (n * 10 + d < 2 ^ 63) × (t ≡ drop (length s - length t) s) × (length t ≤ length s)
  passes {s} {k} {n} {r} {t} {b} {d} g small here inside e h l u v =
      let i = length s - length r in
      let j = length s - length t in
      let m : length r ≡ length t + 1 = ap length e ∙ omega arith in
      let o : j ≡ i + 1 = omega arith in
      let w : i < length s = omega arith in
      let f : b ∷ t ≡ get_or s i 0 ∷ drop (i + 1) s = sym e ∙ here ∙ view s i w in (
        subst (λ (x : ℕ). Running p s k x (n * 10 + d)) (sym o) (subst (λ (y : ℕ). Running p s k (i + 1) (n * 10 + y)) (sym v) (step g (ap (λ (z : Text). get_or z 0 0) f) w l u)),
        omega arith,
        ap (drop 1) f ∙ ap (λ (x : ℕ). drop x s) (sym o),
        omega arith,
      )

-- ── what the trimmed part is ──

record Digit (b : ℕ) : Type 0 where
  low : 48 ≤ b
  high : b ≤ 57

is_digit : (b : ℕ) → digit b ≡ true → Digit b
is_digit b e = by (leb 48 b) (leb b 57) (leb-true 48 b) (leb-true b 57) e
  where
    by : (c d : Bool) → (c ≡ true → 48 ≤ b) → (d ≡ true → b ≤ 57) → c && d ≡ true → Digit b
    by true d p q e = record { low = p refl; high = q e }
    by false d p q e = absurd (false≢true e)

-- digits have nothing to trim
tight : (m : ℕ) (u : Text) {n : ℕ} → number_from m u ≡ Some n → less_trailing white u ≡ u
tight m [] e = refl
tight m (b ∷ u) {n} e = by (digit b) (is_digit b) (tight (m * 10 + (b - 48)) u) e
  where
    by : (d : Bool) → (d ≡ true → Digit b) → (number_from (m * 10 + (b - 48)) u ≡ Some n → less_trailing white u ≡ u)
        → if d then number_from (m * 10 + (b - 48)) u else None ≡ Some n → less_trailing white (b ∷ u) ≡ b ∷ u
    by true g r e = ap (unless_last white b) (r e) ∙ kept b u (black b (let h = (g refl).low in omega arith))
    by false g r e = absurd (absent e)

-- a byte that isn't 0 stands inside
pub seen : (s : Text) (i : ℕ) {b : ℕ} → get_or s i 0 ≡ b → 0 < b → i < length s
seen s i e h = by (leb (length s) i) (leb-true (length s) i) (leb-false (length s) i)
  where
    by : (c : Bool) → (c ≡ true → length s ≤ i) → (c ≡ false → i < length s) → i < length s
    by true f g = let z = get_or-eq_default s 0 (f refl) in let o : ⊥ = omega arith in absurd o
    by false f g = g refl

-- a byte that doesn't pass
pub behind : (p : ℕ → Bool) (s : Text) (i : ℕ) {b : ℕ} → get_or s i 0 ≡ b → 0 < b → p b ≡ false → until p (drop i s) ≡ b ∷ until p (drop (i + 1) s)
behind p s i e h f = rw (view s i (seen s i e h), e, f)

-- ── what it says as a numeral ──

module _ (w : ℕ) where
  plain : (u : Text) {n : ℕ} → number u ≡ Some n → n ≤ 2 ^ (w - 1) - 1 → numeral w (trim u) ≡ Some (pos n)
  plain [] e h = absurd (absent e)
  plain (b ∷ u) {n} e h = by (digit b) (is_digit b) (tight 0 (b ∷ u) e) e
    where
      by : (d : Bool) → (d ≡ true → Digit b) → less_trailing white (b ∷ u) ≡ b ∷ u
          → if d then number_from (0 * 10 + (b - 48)) u else None ≡ Some n → numeral w (trim (b ∷ u)) ≡ Some (pos n)
      by true g r q =
          let k = (g refl).low in
          rw (black b (omega arith), r, ne_eqb b 45 (λ m. omega arith), ne_eqb b 43 (λ m. omega arith), e, le-leb n (2 ^ (w - 1) - 1) h)
      by false g r q = absurd (absent q)

  signed : (u : Text) {n : ℕ} → number u ≡ Some n → n ≤ 2 ^ (w - 1) → numeral w (trim (45 ∷ u)) ≡ Some (minus n)
  signed [] e h = absurd (absent e)
  signed (b ∷ u) {n} e h = rw (tight 0 (b ∷ u) e, e, le-leb n (2 ^ (w - 1)) h)

  -- by the trimmed part: where its first byte isn't below the digits, and behind a minus
  bare : (p : ℕ → Bool) (t : Text) → 48 ≤ get_or t 0 0 → numeral w (trim (until p t)) ≡ at_most (2 ^ (w - 1) - 1) pos (number (less_trailing white (until p t)))
  bare p [] h = refl
  bare p (b ∷ t) h = by (p b)
    where
      by : (d : Bool) → numeral w (trim (if d then [] else b ∷ until p t)) ≡ at_most (2 ^ (w - 1) - 1) pos (number (less_trailing white (if d then [] else b ∷ until p t)))
      by true = refl
      by false =
          let k = kept b (less_trailing white (until p t)) (black b (omega arith)) in
          rw (black b (omega arith), k, ne_eqb b 45 (λ m. omega arith), ne_eqb b 43 (λ m. omega arith))

  behind_minus : (u : Text) → numeral w (trim (45 ∷ u)) ≡ at_most (2 ^ (w - 1)) minus (number (less_trailing white u))
  behind_minus u = rw (kept 45 (less_trailing white u) refl)

  strange : (p : ℕ → Bool) (b : ℕ) (t : Text) → 57 < b → numeral w (trim (until p (b ∷ t))) ≡ None
  strange p b t h = by (p b)
    where
      by : (d : Bool) → numeral w (trim (if d then [] else b ∷ until p t)) ≡ None
      by true = refl
      by false =
          let k = kept b (less_trailing white (until p t)) (black b (omega arith)) in
          rw (black b (omega arith), k, ne_eqb b 45 (λ m. omega arith), ne_eqb b 43 (λ m. omega arith), le-leb 48 b (omega arith), lt-leb b 57 h)

-- ── the whole part, where white bytes stand before i ──

module _ {p : ℕ → Bool} (q : Quiet p) (s : Text) {i : ℕ} (a : i ≡ length (until ink s)) where
  white_len : length (until p s) ≡ i + length (until p (drop i s))
  white_len = len_behind q s ∙ ap (λ (n : ℕ). n + length (until p (drop n s))) (sym a)

  pub plus_len : {e : ℕ} → e ≡ i + length (until p (drop i s)) → e ≡ length (until p s)
  plus_len v = v ∙ sym white_len

  pub minus_len : get_or s i 0 ≡ 45 → {e : ℕ} → e ≡ (i + 1) + length (until p (drop (i + 1) s)) → e ≡ length (until p s)
  minus_len k {e} v = let l = ap length (behind p s i k (omega arith) q.on_minus) in plus_len (let o : e ≡ i + length (until p (drop i s)) = omega arith in o)

  -- the numeral of the whole part
  module _ (w : ℕ) where
    whole : numeral w (trim (until p s)) ≡ numeral w (trim (until p (drop i s)))
    whole = ap (numeral w) (trim_behind q s ∙ ap (λ (n : ℕ). trim (until p (drop n s))) (sym a))

    signed_whole : get_or s i 0 ≡ 45 → numeral w (trim (until p s)) ≡ numeral w (trim (45 ∷ until p (drop (i + 1) s)))
    signed_whole k = whole ∙ ap (λ (t : Text). numeral w (trim t)) (behind p s i k (omega arith) q.on_minus)

    pub no_numeral : i < length s → 57 < get_or s i 0 → None ≡ numeral w (trim (until p s))
    no_numeral h k =
        sym (whole ∙ ap (λ (t : Text). numeral w (trim (until p t))) (view s i h) ∙ strange w p (get_or s i 0) (drop (i + 1) s) k)

    pub plus_part : {n : ℕ} → number (until p (drop i s)) ≡ Some n → n ≤ 2 ^ (w - 1) - 1 → Some (pos n) ≡ numeral w (trim (until p s))
    plus_part e h = sym (whole ∙ plain w (until p (drop i s)) e h)

    pub minus_part : {n : ℕ} → get_or s i 0 ≡ 45 → number (until p (drop (i + 1) s)) ≡ Some n → n ≤ 2 ^ (w - 1) → Some (minus n) ≡ numeral w (trim (until p s))
    minus_part k e h = sym (signed_whole k ∙ signed w (until p (drop (i + 1) s)) e h)

    pub plus_odd : number (less_trailing white (until p (drop i s))) ≡ None → 48 ≤ get_or (drop i s) 0 0 → None ≡ numeral w (trim (until p s))
    plus_odd e h = sym (whole ∙ bare w p (drop i s) h ∙ ap (at_most (2 ^ (w - 1) - 1) pos) e)

    pub minus_odd : get_or s i 0 ≡ 45 → number (less_trailing white (until p (drop (i + 1) s))) ≡ None → None ≡ numeral w (trim (until p s))
    minus_odd k e = sym (signed_whole k ∙ behind_minus w (until p (drop (i + 1) s)) ∙ ap (at_most (2 ^ (w - 1)) minus) e)

-- ── what `run` says of the whole part ──

module _ (x : ℕ) (q : Quiet (eqb x)) (s : Text) {i : ℕ} (a : i ≡ length (until ink s)) (w most : ℕ) (range : most + 1 ≡ 2 ^ (w - 1)) where
  pub plus_said : (v : Option ℕ) → Said x (drop i s) most v → option_map pos v ≡ numeral w (trim (until (eqb x) s))
  plus_said None (e, h) = plus_odd q s a w e h
  plus_said (Some n) (e, h) = plus_part q s a w e (omega arith)

  pub minus_said : get_or s i 0 ≡ 45 → (v : Option ℕ) → Said x (drop (i + 1) s) most v → option_map minus v ≡ numeral w (trim (until (eqb x) s))
  minus_said k None (e, h) = minus_odd q s a w k e
  minus_said k (Some n) (e, h) = minus_part q s a w k e (omega arith)

pub said_most : (x : ℕ) (t : Text) (most : ℕ) (v : Option ℕ) → Said x t most v → IfSome v (λ n. n ≤ most)
said_most x t most None s = tt
said_most x t most (Some n) s = s.1

-- ── a part that is sought first: its k bytes ──

module _ (p : ℕ → Bool) (t : Text) {k : ℕ} (u : k ≡ length (until p t)) where
  taken : take k t ≡ until p t
  taken = rw (u, until_take p t)

  pub until_part : k ≡ length (take k t)
  until_part = u ∙ ap length (sym taken)

  pub sought_part : (w : ℕ) {s : Text} → s ≡ trim (take k t) → numeral w s ≡ numeral w (trim (until p t))
  sought_part w e = ap (numeral w) (e ∙ ap trim taken)

-- ── how many white bytes stand in front ──

module _ (s : Text) (h : 2 ≤ length s) where
  pub none_white : white (get_or s 0 0) ≡ false → 0 ≡ length (until ink s)
  none_white e = sym (ap length (ap (until ink) (view s 0 (omega arith))) ∙ rw e)

  module _ (e : white (get_or s 0 0) ≡ true) where
    one_more : length (until ink s) ≡ 1 + length (until ink (drop 1 s))
    one_more = ap length (ap (until ink) (view s 0 (omega arith))) ∙ rw e (omega arith)

    pub one_white : white (get_or s 1 0) ≡ false → 1 ≡ length (until ink s)
    one_white k = sym (one_more ∙ until_stop ink s 1 (omega arith) (ap not k))

    pub two_white : white (get_or s 1 0) ≡ true → 2 + length (until ink (drop 2 s)) ≡ length (until ink s)
    two_white k = sym (one_more ∙ until_step ink s 1 (omega arith) (ap not k))
