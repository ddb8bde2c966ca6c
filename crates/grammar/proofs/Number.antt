-- The piece that reads a numeral in a range: digits are taken as long as the value stays below the limit.
use Rattle.std.specs.Prelude.{ℕ, zero, suc, ◌+◌, ◌-◌, ◌*◌, ◌/◌, ◌%◌, ◌≤◌, ◌<◌, Bool, true, false, ◌&&◌, ◌||◌, not, List, [], ◌∷◌, ◌++◌, ◌⊎◌, ◌≡◌, refl, T, eqb, leb, ltb, ℤ, pos, negsuc}
use Rattle.std.proofs.Common.{arith, mod-lt, zero-lt-suc, le_refl, append_assoc, append-nil, inl, inr, subst, sym, ap, ◌∙◌, eqb→eq, T_not, leb→le, ltb→lt, lt→ltb, nltb→le}
use Rattle.std.proofs.Math.Nat.{div-add-mod}
use Rattle.std.proofs.Math.Dec.{eqb_refl, not_T}
use Rattle.lexis.specs.Text.{bytes}
use Rattle.meaning.specs.Decimal.{digits, decimal}
use Rattle.numerals.specs.Numeral.{digit}
use Rattle.grammar.specs.Tests.{and_left, and_right, every, and_in, is_true, TNotEq, every-++}
use Rattle.grammar.specs.Digits.{small, value, fuel, step, grows, canonical, digit_ok}
use Rattle.grammar.specs.Piece.{member, stops, heads, Answer, got, stuck, Alike, Good, Some, Piece}
use Rattle.grammar.specs.Join.{map, bind, either, restate}
use Rattle.grammar.specs.Table.{table, ◌↝◌}
use Rattle.grammar.specs.Number.{nine, ten, grow, magnitude, Count, ranged, minus, zero_words, digits_after, Decimal}

digits_append : (f n : ℕ) (ds es : List ℕ) → digits f n ds ++ es ≡ digits f n (ds ++ es)
digits_append zero n ds es = refl
digits_append (suc f) n ds es = go (ltb n 10) (digits_append f (n / 10) ((48 + n % 10) ∷ ds) es)
  where
    go : (k : Bool) → digits f (n / 10) ((48 + n % 10) ∷ ds) ++ es ≡ digits f (n / 10) ((48 + n % 10) ∷ (ds ++ es)) →
        ◌≡◌ {A = List ℕ} (elim k as (λ _. List ℕ) [ true ↦ (48 + n) ∷ ds | false ↦ digits f (n / 10) ((48 + n % 10) ∷ ds) ] ++ es)
        (elim k [ true ↦ (48 + n) ∷ (ds ++ es) | false ↦ digits f (n / 10) ((48 + n % 10) ∷ (ds ++ es)) ])
    go true e = refl
    go false e = e

-- ── classes ──
pub member_every : (f : ℕ → Bool) (X : List ℕ) (c : ℕ) → T (every f X) → T (member c X) → T (f c)
member_every f [] c h m = absurd m
member_every f (x ∷ X) c h m = by (eqb c x) (eqb→eq c x) (member_every f X c (and_right (f x) (every f X) h)) m
  where
    by : (k : Bool) → (T k → c ≡ x) → (T (member c X) → T (f c)) → T (k || member c X) → T (f c)
    by true e g m = subst (λ (z : ℕ). T (f z)) (sym (e tt)) (and_left (f x) (every f X) h)
    by false e g m = g m

abbrev up : ℕ → ℕ → List ℕ
up k zero = []
up k (suc n) = k ∷ up (suc k) n

member_up : (n k c : ℕ) → k ≤ c → c < k + n → T (member c (up k n))
member_up zero k c h g = let f : ⊥ = omega arith in absurd f
member_up (suc n) k c h g = by (eqb c k) (λ q. eqb_refl' c k q) (λ p. member_up n (suc k) c p (omega arith))
  where
    eqb_refl' : (c k : ℕ) → c ≡ k → T (eqb c k)
    eqb_refl' c k e = rw e (eqb_refl k)

    by : (b : Bool) → (c ≡ k → T b) → (suc k ≤ c → T (member c (up (suc k) n))) → T (b || member c (up (suc k) n))
    by true f r = tt
    by false f r = r (let z : c ≡ k → ⊥ = λ e. f e in omega arith)

pub nine_in : (c : ℕ) → T (member c nine) → T (leb 49 c && leb c 57)
nine_in c h = member_every (λ x. leb 49 x && leb x 57) nine c tt h

pub in_nine : (c : ℕ) → 49 ≤ c → c ≤ 57 → T (member c nine)
in_nine c h g = member_up 9 49 c h (omega arith)

pub in_ten : (c : ℕ) → T (digit c) → T (member c ten)
in_ten c h = let p = leb→le 48 c (and_left (leb 48 c) (leb c 57) h) in let q = leb→le c 57 (and_right (leb 48 c) (leb c 57) h) in member_up 10 48 c p (omega arith)

-- one digit more
snoc : (v c : ℕ) → 1 ≤ v → T (digit c) → digits (v * 10 + (c - 48)) (v * 10 + (c - 48)) [] ≡ digits v v [] ++ (c ∷ [])
snoc v c h d =
    fuel (v * 10 + (c - 48)) (suc (v * 10 + (c - 48))) (v * 10 + (c - 48)) [] (omega arith) (omega arith)
    ∙ step (v * 10 + (c - 48)) v c [] h d
    ∙ fuel (v * 10 + (c - 48)) v v (c ∷ []) (omega arith) (le_refl v)
    ∙ sym (digits_append v v [] (c ∷ []))

module _ (lim : ℕ) where
  pub record Grown (v : ℕ) (t : List ℕ) (n : ℕ) (r : List ℕ) : Type 0 where
    pub text : List ℕ
    pub split : text ++ r ≡ t
    pub spelt : digits n n [] ≡ digits v v [] ++ text
    pub some : 1 ≤ n
    pub below : n < lim
    pub local : (x : List ℕ) → Alike r x → grow lim v (text ++ x) ≡ got n x

  abbrev GrownTo : ℕ → List ℕ → Answer ℕ → Type 0
  GrownTo v t (got n r) = Grown v t n r
  GrownTo v t (stuck r) = ⊥

  abbrev goes : ℕ → ℕ → List ℕ → Bool → Answer ℕ
  goes v c t k = elim k [ true ↦ grow lim (v * 10 + (c - 48)) t | false ↦ got v (c ∷ t) ]

  grown : (t : List ℕ) (v : ℕ) → 1 ≤ v → v < lim → GrownTo v t (grow lim v t)
  grown [] v h k = record { text = []; split = refl; spelt = sym (append-nil (digits v v [])); some = h; below = k; local = λ x al. absurd al }
  grown (c ∷ t) v h k = by (digit c && ltb (v * 10 + (c - 48)) lim) refl (λ p. grown t (v * 10 + (c - 48)) (omega arith) p)
    where
      on : (d : T (digit c)) → (digit c && ltb (v * 10 + (c - 48)) lim ≡ true) → (p : Answer ℕ) → GrownTo (v * 10 + (c - 48)) t p → GrownTo v (c ∷ t) p
      on d e (got n r) g = record {
        text = c ∷ g.text;
        split = ap (λ (z : List ℕ). c ∷ z) g.split;
        spelt = g.spelt ∙ ap (λ (z : List ℕ). z ++ g.text) (snoc v c h d) ∙ append_assoc (digits v v []) (c ∷ []) g.text;
        some = g.some;
        below = g.below;
        local = λ x al. ap (goes v c (g.text ++ x)) e ∙ g.local x al;
      }
      on d e (stuck r) g = g

      off : (digit c && ltb (v * 10 + (c - 48)) lim ≡ false) → (x : List ℕ) → Alike (c ∷ t) x → grow lim v x ≡ got v x
      off e [] al = absurd al
      off e (d ∷ x) al = ap (λ (z : ℕ). goes v d x (digit z && ltb (v * 10 + (z - 48)) lim)) (sym al) ∙ ap (goes v d x) e

      by : (b : Bool) → (digit c && ltb (v * 10 + (c - 48)) lim ≡ b) → (v * 10 + (c - 48) < lim → GrownTo (v * 10 + (c - 48)) t (grow lim (v * 10 + (c - 48)) t)) →
          GrownTo v (c ∷ t) (goes v c t b)
      by true e ih = let p : T (digit c && ltb (v * 10 + (c - 48)) lim) = subst T (sym e) tt in
          on (and_left (digit c) (ltb (v * 10 + (c - 48)) lim) p) e (grow lim (v * 10 + (c - 48)) t)
          (ih (ltb→lt (v * 10 + (c - 48)) lim (and_right (digit c) (ltb (v * 10 + (c - 48)) lim) p)))
      by false e ih = record { text = []; split = refl; spelt = sym (append-nil (digits v v [])); some = h; below = k; local = off e }

  -- ── the piece ──
  abbrev begins : ℕ → List ℕ → Bool → Answer ℕ
  begins c t k = elim k [ true ↦ grow lim (c - 48) t | false ↦ stuck (c ∷ t) ]

  start : (c : ℕ) → T (member c nine) → digits (c - 48) (c - 48) [] ≡ c ∷ []
  start c m = let h = nine_in c m in let lo = leb→le 49 c (and_left (leb 49 c) (leb c 57) h) in let hi = leb→le c 57 (and_right (leb 49 c) (leb c 57) h) in
      canonical (c - 48) [] (omega arith) (omega arith) tt ∙ ap (λ (z : ℕ). z ∷ []) (omega arith)

  module _ (wide : T (ltb 9 lim)) where
    first_small : (c : ℕ) → T (member c nine) → c - 48 < lim
    first_small c m = let h = nine_in c m in let hi = leb→le c 57 (and_right (leb 49 c) (leb c 57) h) in let w = ltb→lt 9 lim wide in omega arith

    first_some : (c : ℕ) → T (member c nine) → 1 ≤ c - 48
    first_some c m = let h = nine_in c m in let lo = leb→le 49 c (and_left (leb 49 c) (leb c 57) h) in omega arith

    abbrev pub one : Some (Count lim)
    one = record { value = 1; text = 49 ∷ []; is = record { some = le_refl 1; below = (let w = ltb→lt 9 lim wide in omega arith); text = refl } }

    pub mag_good : (t : List ℕ) → Good (Count lim) (magnitude lim) t (magnitude lim t)
    mag_good [] = record { text = []; split = refl; value = 1; more = 49 ∷ []; is = one.is; local = λ x al. absurd al }
    mag_good (c ∷ t) = by (member c nine) refl
      where
        on : (m : T (member c nine)) → member c nine ≡ true → (p : Answer ℕ) → GrownTo (c - 48) t p → Good (Count lim) (magnitude lim) (c ∷ t) p
        on m e (got n r) g = record {
          text = c ∷ g.text;
          split = ap (λ (z : List ℕ). c ∷ z) g.split;
          is = record { some = g.some; below = g.below; text = g.spelt ∙ ap (λ (z : List ℕ). z ++ g.text) (start c m) };
          local = λ x al. ap (begins c (g.text ++ x)) e ∙ g.local x al;
        }
        on m e (stuck r) g = absurd g

        off : (member c nine ≡ false) → (x : List ℕ) → Alike (c ∷ t) x → magnitude lim x ≡ stuck x
        off e [] al = absurd al
        off e (d ∷ x) al = ap (λ (z : ℕ). begins d x (member z nine)) (sym al) ∙ ap (begins d x) e

        by : (b : Bool) → member c nine ≡ b → Good (Count lim) (magnitude lim) (c ∷ t) (begins c t b)
        by true e = let m : T (member c nine) = subst T (sym e) tt in on m e (grow lim (c - 48) t) (grown t (c - 48) (first_some c m) (first_small c m))
        by false e = record { text = []; split = refl; value = 1; more = 49 ∷ []; is = one.is; local = off e }

    -- the digits of a number
    pub record Figures (n : ℕ) (w ds : List ℕ) : Type 0 where
      pub lead : ℕ
      pub tail : List ℕ
      pub low : 1 ≤ lead
      pub high : lead < 10
      pub each : T (every digit tail)
      pub sum : value lead tail ≡ n
      pub text : w ≡ (48 + lead) ∷ (tail ++ ds)

    value_snoc : (v c : ℕ) (s : List ℕ) → value v (s ++ (c ∷ [])) ≡ value v s * 10 + (c - 48)
    value_snoc v c [] = refl
    value_snoc v c (x ∷ s) = value_snoc (v * 10 + (x - 48)) c s

    figures : (f n : ℕ) (ds : List ℕ) → n ≤ f → 1 ≤ n → Figures n (digits f n ds) ds
    figures zero n ds h k = let f : ⊥ = omega arith in absurd f
    figures (suc f) n ds h k = go (ltb n 10) (ltb→lt n 10) (nltb→le n 10)
        (λ q. figures f (n / 10) ((48 + n % 10) ∷ ds) (small n f h q) (let e = div-add-mod n 10 in let m = mod-lt n (zero-lt-suc 9) in omega arith))
      where
        go : (b : Bool) → (T b → n < 10) → (T (not b) → 10 ≤ n) → (10 ≤ n → Figures (n / 10) (digits f (n / 10) ((48 + n % 10) ∷ ds)) ((48 + n % 10) ∷ ds)) →
            Figures n (elim b [ true ↦ (48 + n) ∷ ds | false ↦ digits f (n / 10) ((48 + n % 10) ∷ ds) ]) ds
        go true p q r = record { lead = n; tail = []; low = k; high = p tt; each = tt; sum = refl; text = refl }
        go false p q r = let g = r (q tt) in record {
          lead = g.lead;
          tail = g.tail ++ ((48 + n % 10) ∷ []);
          low = g.low;
          high = g.high;
          each = every-++ digit g.tail ((48 + n % 10) ∷ []) g.each (and_in (digit (48 + n % 10)) true (digit_ok (n % 10) (mod-lt n (zero-lt-suc 9))) tt);
          sum = value_snoc g.lead (48 + n % 10) g.tail ∙ (let s = g.sum in let e = div-add-mod n 10 in omega arith);
          text = g.text ∙ ap (λ (z : List ℕ). (48 + g.lead) ∷ z) (sym (append_assoc g.tail ((48 + n % 10) ∷ []) ds));
        }

    taken : (s r : List ℕ) (v : ℕ) → T (every digit s) → value v s < lim → T (stops ten r) → grow lim v (s ++ r) ≡ got (value v s) r
    taken [] [] v e h p = refl
    taken [] (c ∷ r) v e h p = ap (goes v c r) (TNotEq (digit c && ltb (v * 10 + (c - 48)) lim)
        (not_T (digit c && ltb (v * 10 + (c - 48)) lim) (λ k. T_not (member c ten) p (in_ten c (and_left (digit c) (ltb (v * 10 + (c - 48)) lim) k)))))
    taken (c ∷ s) r v e h p = ap (goes v c (s ++ r)) (is_true (digit c && ltb (v * 10 + (c - 48)) lim)
        (and_in (digit c) (ltb (v * 10 + (c - 48)) lim) (and_left (digit c) (every digit s) e) (lt→ltb (v * 10 + (c - 48)) lim (let g = grows s (v * 10 + (c - 48)) in omega arith))))
        ∙ taken s r (v * 10 + (c - 48)) (and_right (digit c) (every digit s) e) h p

    pub mag_complete : (n : ℕ) (u r : List ℕ) → Count lim n u → T (stops ten r) → magnitude lim (u ++ r) ≡ got n r
    mag_complete n u r i p =
        let g = figures n n [] (le_refl n) i.some in
        ap (λ (z : List ℕ). magnitude lim (z ++ r)) (sym i.text ∙ g.text ∙ ap (λ (z : List ℕ). (48 + g.lead) ∷ z) (append-nil g.tail))
        ∙ ap (begins (48 + g.lead) (g.tail ++ r)) (is_true (member (48 + g.lead) nine) (in_nine (48 + g.lead) (let l = g.low in omega arith) (let l = g.high in omega arith)))
        ∙ ap (λ (z : ℕ). grow lim z (g.tail ++ r)) (omega arith)
        ∙ taken g.tail r g.lead g.each (subst (λ (z : ℕ). z < lim) (sym g.sum) i.below) p
        ∙ ap (λ (z : ℕ). got z r) g.sum

    pub mag_leads : (n : ℕ) (u : List ℕ) → Count lim n u → T (heads false nine u)
    mag_leads n u i =
        let g = figures n n [] (le_refl n) i.some in
        subst (λ (z : List ℕ). T (heads false nine z)) (sym g.text ∙ i.text) (in_nine (48 + g.lead) (let l = g.low in omega arith) (let l = g.high in omega arith))

    abbrev pub mag : Piece false nine ℕ (λ n. ten)
    mag = record { In = Count lim; read = magnitude lim; good = mag_good; complete = mag_complete; leads = mag_leads; some = one }

-- ── whole numbers ──
module _ (p q : ℕ) (wide : T (ltb 9 p)) (wide' : T (ltb 9 (suc q))) where
  abbrev pub positive : Piece false nine ℤ digits_after
  positive = map pos digits_after (mag p wide) (λ n. tt)

  abbrev pub negative : Piece false (bytes "-") ℤ digits_after
  negative = bind (table {A = Unit {0}} (λ a. []) (bytes "-") ((bytes "-" ↝ tt) ∷ []) tt) (λ a. false) (λ a. nine) (λ a. map minus digits_after (mag (suc q) wide') (λ n. tt)) (λ a. tt) (λ a b. absurd)

  abbrev pub null : Piece false (bytes "0") ℤ digits_after
  null = table digits_after (bytes "0") zero_words tt

  abbrev pub signed : Piece false (bytes "-" ++ (bytes "0" ++ nine)) ℤ digits_after
  signed = either negative (either null positive tt) tt

  pub signed_to : (z : ℤ) (t : List ℕ) → signed.In z t → Decimal p q z t
  signed_to z t (inl i) = by i.next.value i.next.says i.next.is i.is
    where
      by : (n : ℕ) → minus n ≡ z → Count (suc q) n i.back → ((bytes "-" ≡ i.front) × (tt {0} ≡ i.value)) ⊎ ⊥ → Decimal p q z t
      by zero e c (inl f) = let s = c.some in let z : ⊥ = omega arith in absurd z
      by (suc n) e c (inl f) = record {
        fine = subst (λ (z : ℤ). T (ranged p q z)) e (lt→ltb n q (let b = c.below in omega arith));
        text = ap decimal (sym e) ∙ ap (λ (w : List ℕ). 45 ∷ w) c.text ∙ ap (λ (w : List ℕ). w ++ i.back) f.0 ∙ i.split;
      }
      by n e c (inr f) = absurd f
  signed_to z t (inr (inl (inl i))) = record { fine = subst (λ (z : ℤ). T (ranged p q z)) i.1 (lt→ltb 0 p (let w = ltb→lt 9 p wide in omega arith)); text = ap decimal (sym i.1) ∙ i.0 }
  signed_to z t (inr (inl (inr i))) = absurd i
  signed_to z t (inr (inr i)) = record { fine = subst (λ (z : ℤ). T (ranged p q z)) i.says (lt→ltb i.value p i.is.below); text = ap decimal (sym i.says) ∙ i.is.text }

  pub signed_from : (z : ℤ) (t : List ℕ) → Decimal p q z t → signed.In z t
  signed_from (pos zero) t d = inr (inl (inl (d.text, refl)))
  signed_from (pos (suc n)) t d = inr (inr (record { value = suc n; is = record { some = omega arith; below = ltb→lt (suc n) p d.fine; text = d.text }; says = refl }))
  signed_from (negsuc n) t d = inl (record {
    value = tt;
    front = 45 ∷ [];
    back = digits (suc n) (suc n) [];
    is = inl (refl, refl);
    next = record { value = suc n; is = record { some = omega arith; below = (let h = ltb→lt n q d.fine in omega arith); text = refl }; says = refl };
    split = d.text;
  })

  abbrev pub number : Piece false (bytes "-" ++ (bytes "0" ++ nine)) ℤ digits_after
  number = restate signed (Decimal p q) signed_to signed_from
