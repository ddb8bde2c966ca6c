-- Digits with no leading zero are the decimal of their value: a decimal is built one digit at a time, and its fuel is enough.
use Rattle.std.specs.Prelude.{ℕ, zero, suc, ◌+◌, ◌-◌, ◌*◌, ◌/◌, ◌%◌, ◌≤◌, ◌<◌, Bool, true, false, not, List, [], ◌∷◌, ◌++◌, ◌≡◌, refl, T, leb, ltb, ℤ, pos, negsuc}
use Rattle.std.proofs.Common.{arith, mod-lt, zero-lt-suc, le_refl, append-nil, ap, ◌∙◌, le→leb, leb→le, ltb→lt, lt→ltb, nltb→le}
use Rattle.std.proofs.Math.Nat.{div-add-mod}
use Rattle.numerals.specs.Numeral.{digit}
use Rattle.meaning.specs.Decimal.{digits, decimal}
use Rattle.grammar.specs.Tests.{every, and_left, and_right, and_in, every_mono}

pub small : (n f : ℕ) → n ≤ suc f → 10 ≤ n → n / 10 ≤ f
small n f h k = let e = div-add-mod n 10 in omega arith

abbrev pub value : ℕ → List ℕ → ℕ
value v [] = v
value v (c ∷ s) = value (v * 10 + (c - 48)) s

-- enough fuel is enough
pub fuel : (f g n : ℕ) (ds : List ℕ) → n ≤ f → n ≤ g → digits f n ds ≡ digits g n ds
fuel zero zero n ds p q = refl
fuel zero (suc g) n ds p q = let e : n ≡ 0 = omega arith in rw e
fuel (suc f) zero n ds p q = let e : n ≡ 0 = omega arith in rw e
fuel (suc f) (suc g) n ds p q = go (ltb n 10) (nltb→le n 10) (λ h. fuel f g (n / 10) ((48 + n % 10) ∷ ds) (small n f p h) (small n g q h))
  where
    go : (k : Bool) → (T (not k) → 10 ≤ n) → (10 ≤ n → digits f (n / 10) ((48 + n % 10) ∷ ds) ≡ digits g (n / 10) ((48 + n % 10) ∷ ds)) →
        ◌≡◌ {A = List ℕ} (elim k [ true ↦ (48 + n) ∷ ds | false ↦ digits f (n / 10) ((48 + n % 10) ∷ ds) ]) (elim k [ true ↦ (48 + n) ∷ ds | false ↦ digits g (n / 10) ((48 + n % 10) ∷ ds) ])
    go true h r = refl
    go false h r = r (h tt)

-- one digit more
pub step : (f v c : ℕ) (ds : List ℕ) → 1 ≤ v → T (digit c) → digits (suc f) (v * 10 + (c - 48)) ds ≡ digits f v (c ∷ ds)
step f v c ds h d =
    let lo = leb→le 48 c (and_left (leb 48 c) (leb c 57) d) in
    let hi = leb→le c 57 (and_right (leb 48 c) (leb c 57) d) in
    let n = v * 10 + (c - 48) in
    let e = div-add-mod (v * 10 + (c - 48)) 10 in
    let m = mod-lt (v * 10 + (c - 48)) (zero-lt-suc 9) in
    let q : (v * 10 + (c - 48)) / 10 ≡ v = omega arith in
    let r : 48 + (v * 10 + (c - 48)) % 10 ≡ c = omega arith in
    ap (λ (k : Bool). elim k as (λ _. List ℕ) [ true ↦ (48 + n) ∷ ds | false ↦ digits f (n / 10) ((48 + n % 10) ∷ ds) ])
    (big (ltb (v * 10 + (c - 48)) 10) (λ t. let z = ltb→lt (v * 10 + (c - 48)) 10 t in omega arith))
    ∙ (λ i. digits f (q i) (r i ∷ ds))
  where
    big : (k : Bool) → (T k → ⊥) → k ≡ false
    big true g = absurd (g tt)
    big false g = refl

pub grows : (s : List ℕ) (v : ℕ) → v ≤ value v s
grows [] v = le_refl v
grows (c ∷ s) v = let h = grows s (v * 10 + (c - 48)) in omega arith

pub more : (s ds : List ℕ) (v f g : ℕ) → 1 ≤ v → T (every digit s) → v ≤ f → value v s ≤ g → digits g (value v s) ds ≡ digits f v (s ++ ds)
more [] ds v f g h d p q = fuel g f v ds q p
more (c ∷ s) ds v f g h d p q =
    let n = v * 10 + (c - 48) in
    more s ds (v * 10 + (c - 48)) (v * 10 + (c - 48)) g (omega arith) (and_right (digit c) (every digit s) d) (le_refl (v * 10 + (c - 48))) q
    ∙ fuel (v * 10 + (c - 48)) (suc (v * 10 + (c - 48))) (v * 10 + (c - 48)) (s ++ ds) (omega arith) (omega arith)
    ∙ step (v * 10 + (c - 48)) v c (s ++ ds) h (and_left (digit c) (every digit s) d)
    ∙ fuel (v * 10 + (c - 48)) f v (c ∷ (s ++ ds)) (omega arith) p

-- a first digit that is not 0, then digits: the text is the decimal of its value
pub canonical : (d : ℕ) (s : List ℕ) → 1 ≤ d → d < 10 → T (every digit s) → digits (value d s) (value d s) [] ≡ (48 + d) ∷ s
canonical d s h k t = more s [] d (suc d) (value d s) h t (omega arith) (le_refl (value d s)) ∙ one (ltb d 10) (lt→ltb d 10 k) ∙ ap (λ (l : List ℕ). (48 + d) ∷ l) (append-nil s)
  where
    one : (b : Bool) → T b → ◌≡◌ {A = List ℕ} (elim b [ true ↦ (48 + d) ∷ (s ++ []) | false ↦ digits d (d / 10) ((48 + d % 10) ∷ (s ++ [])) ]) ((48 + d) ∷ (s ++ []))
    one true t = refl
    one false t = absurd t

-- ── its bytes ──
pub digit_ok : (d : ℕ) → d < 10 → T (digit (48 + d))
digit_ok d h = and_in (leb 48 (48 + d)) (leb (48 + d) 57) (le→leb 48 (48 + d) (omega arith)) (le→leb (48 + d) 57 (omega arith))

pub digits_digit : (f n : ℕ) (ds : List ℕ) → T (every digit ds) → T (every digit (digits f n ds))
digits_digit zero n ds h = and_in (digit (48 + n % 10)) (every digit ds) (digit_ok (n % 10) (mod-lt n (zero-lt-suc 9))) h
digits_digit (suc f) n ds h = go (ltb n 10) (ltb→lt n 10) (digits_digit f (n / 10) ((48 + n % 10) ∷ ds)
    (and_in (digit (48 + n % 10)) (every digit ds) (digit_ok (n % 10) (mod-lt n (zero-lt-suc 9))) h))
  where
    go : (k : Bool) → (T k → n < 10) → T (every digit (digits f (n / 10) ((48 + n % 10) ∷ ds))) →
        T (every digit (elim k [ true ↦ (48 + n) ∷ ds | false ↦ digits f (n / 10) ((48 + n % 10) ∷ ds) ]))
    go true q r = and_in (digit (48 + n)) (every digit ds) (digit_ok n (q tt)) h
    go false q r = r

-- a class with the digits and `-`
pub decimal_over : (D : ℕ → Bool) → ((c : ℕ) → T (digit c) → T (D c)) → T (D 45) → (z : ℤ) → T (every D (decimal z))
decimal_over D f m (pos n) = every_mono digit D f (digits n n []) (digits_digit n n [] tt)
decimal_over D f m (negsuc n) =
    and_in (D 45) (every D (digits (suc n) (suc n) [])) m (every_mono digit D f (digits (suc n) (suc n) []) (digits_digit (suc n) (suc n) [] tt))
