-- Lists of entries: what is written is split and read back, entry by entry, and nothing falls back.
use Rattle.std.specs.Prelude.{if◌then◌else◌}
use Prim.Native.Nat.{ℕ, suc, ◌-◌, ◌^◌}
use native.Mathlib.Omega.{arith}
use mathlib.Core.Bool.{Bool, true, false, ◌&&◌, not}
use mathlib.Core.List.{List, [], ◌∷◌, ◌++◌, map, append_assoc, append-nil}
use mathlib.Core.Path.{◌≡◌, refl, sym, ap, ◌∙◌}
use lib.Dec.{T, eqb, ltb→lt, le→leb, eqb_refl}
use lib.IntN.{ℤ, pos, negsuc}
use Rattle.lexis.specs.Text.{bytes, same, split, onto_first, found, occurs, Cut}
use Rattle.lexis.proofs.Seeking.{turned}
use Rattle.numerals.specs.Numeral.{digit, numeral}
use Rattle.meaning.specs.Decimal.{decimal, Dim, dynamic, known, dim, size, in64, in32}
use Rattle.meaning.specs.Strict.{may, comma, Next, Commas, rest, commas, values, dims, xrest, Entries, by_x, by_comma, entries, entries_of}
use Rattle.meaning.specs.Meant.{each_of}
use Rattle.meaning.specs.Parts.{last, front}
use Rattle.meaning.specs.Found.{Entry, as_read}
use Rattle.meaning.specs.Tile.{DYNAMIC, read_or, dimension}
use Rattle.meaning.specs.Views.{small, tile_entries}
use Rattle.grammar.specs.Tests.{every, and_left, and_right, and_in, is_true, TNotEq, every_mono, every-++}
use Rattle.grammar.specs.Digits.{decimal_over}
use Rattle.accord.proofs.Shape.{all, absent, first}
use Rattle.accord.proofs.Bracket.{lacks}
use Rattle.accord.proofs.Num.{figure, decimal_figure, non, decimal_tight, numeral_decimal, ranged}

-- ── splitting ──
module _ (x : ℕ) where
  pub split_none : (t : List ℕ) → T (every (non (eqb x)) t) → split x t ≡ t ∷ []
  split_none [] h = refl
  split_none (c ∷ t) h =
      ap (λ (k : Bool). if k then [] ∷ split x t else onto_first c (split x t)) (TNotEq (eqb x c) (and_left (non (eqb x) c) (every (non (eqb x)) t) h))
      ∙ ap (onto_first c) (split_none t (and_right (non (eqb x) c) (every (non (eqb x)) t) h))

  pub split_at : (t s : List ℕ) → T (every (non (eqb x)) t) → split x (t ++ (x ∷ s)) ≡ t ∷ split x s
  split_at [] s h = ap (λ (k : Bool). if k then [] ∷ split x s else onto_first x (split x s)) (is_true (eqb x x) (eqb_refl x))
  split_at (c ∷ t) s h =
      ap (λ (k : Bool). if k then [] ∷ split x (t ++ (x ∷ s)) else onto_first c (split x (t ++ (x ∷ s)))) (TNotEq (eqb x c) (and_left (non (eqb x) c) (every (non (eqb x)) t) h))
      ∙ ap (onto_first c) (split_at t s (and_right (non (eqb x) c) (every (non (eqb x)) t) h))

-- ── entries ──
abbrev pub exact : List ℤ → List Entry
exact l = map as_read l

pub dim_figure : (d : Dim) → T (every figure (dim d))
dim_figure dynamic = tt
dim_figure (known z) = decimal_figure z

-- x is no figure
pub figures : (x : ℕ) → T (not (figure x)) → (t : List ℕ) → T (every figure t) → T (every (non (eqb x)) t)
figures x n t h = every_mono figure (non (eqb x)) (lacks figure x n) t h

same_lacks : (x : ℕ) (t : List ℕ) → T (every (non (eqb x)) t) → same t (x ∷ []) ≡ false
same_lacks x [] h = refl
same_lacks x (c ∷ t) h = ap (λ (k : Bool). k && same t []) (turned c x ∙ TNotEq (eqb x c) (and_left (non (eqb x) c) (every (non (eqb x)) t) h))

in64_ranged : (z : ℤ) → T (in64 (known z)) → T (ranged 64 z)
in64_ranged (pos n) h = le→leb n (2 ^ 63 - 1) (let q = ltb→lt n (2 ^ 63) h in omega arith)
in64_ranged (negsuc n) h = le→leb (suc n) (2 ^ 63) (let q = ltb→lt n (2 ^ 63 - 1) h in omega arith)

in32_ranged : (z : ℤ) → T (in32 z) → T (ranged 32 z)
in32_ranged (pos n) h = le→leb n (2 ^ 31 - 1) (let q = ltb→lt n (2 ^ 31) h in omega arith)
in32_ranged (negsuc n) h = le→leb (suc n) (2 ^ 31) (let q = ltb→lt n (2 ^ 31) h in omega arith)

dimension_dim : (d : Dim) → T (in64 d) → dimension (dim d) ≡ as_read (size d)
unfolding dimension DYNAMIC
dimension_dim dynamic h = refl
dimension_dim (known z) h =
    ap (λ (t : List ℕ). if same t (bytes "?") then as_read DYNAMIC else read_or DYNAMIC (numeral 64 t)) (decimal_tight z)
    ∙ ap (λ (k : Bool). if k then as_read DYNAMIC else read_or DYNAMIC (numeral 64 (decimal z))) (same_lacks 63 (decimal z) (decimal_over (non (eqb 63)) (lacks digit 63 tt) tt z))
    ∙ ap (read_or DYNAMIC) (numeral_decimal 64 z (in64_ranged z h))

pub small_decimal : (d z : ℤ) → T (in32 z) → small d (decimal z) ≡ as_read z
unfolding small
small_decimal d z h =
    ap (λ (t : List ℕ). read_or d (numeral 32 t)) (decimal_tight z) ∙ ap (read_or d) (numeral_decimal 32 z (in32_ranged z h))

dimension_gap : (s : Bool) (d : Dim) → T (in64 d) → dimension (may s (bytes " ") ++ dim d) ≡ as_read (size d)
unfolding dimension
dimension_gap true d h = dimension_dim d h
dimension_gap false d h = dimension_dim d h

small_gap : (d : ℤ) (s : Bool) (z : ℤ) → T (in32 z) → small d (may s (bytes " ") ++ decimal z) ≡ as_read z
unfolding small
small_gap d true z h = small_decimal d z h
small_gap d false z h = small_decimal d z h

module _ {A : Type 0} (r : List ℕ → Entry) (t : A → List ℕ) (g : A → ℤ) (k : A → Bool) where
  pub settled : ((a : A) → T (k a) → r (t a) ≡ as_read (g a)) → (xs : List A) → T (each_of k xs) → map r (map t xs) ≡ exact (map g xs)
  settled f [] h = refl
  settled f (a ∷ xs) h = λ i. f a (and_left (k a) (each_of k xs) h) i ∷ settled f xs (and_right (k a) (each_of k xs) h) i

-- an entry holds no comma, nor does the space before it
gap_class : (s : Bool) (t : List ℕ) → T (every figure t) → T (every (non (eqb 44)) (may s (bytes " ") ++ t))
gap_class true t h = figures 44 tt t h
gap_class false t h = figures 44 tt t h

module _ {A : Type 0} (r : List ℕ → Entry) (f : A → List ℕ) (g : A → ℤ) (k : A → Bool) (cl : (a : A) → T (every figure (f a)))
    (rd : (s : Bool) (a : A) → T (k a) → r (may s (bytes " ") ++ f a) ≡ as_read (g a)) where
  rest_read : (ns : List (Next A)) (u : List ℕ) (v : ℤ) → T (every (non (eqb 44)) u) → r u ≡ as_read v → T (each_of k (map (λ n. n.entry) ns)) →
      map r (split 44 (u ++ rest f ns)) ≡ exact (v ∷ map g (map (λ n. n.entry) ns))
  rest_read [] u v h e o =
      ap (λ (t : List ℕ). map r (split 44 t)) (append-nil u) ∙ ap (map r) (split_none 44 u h) ∙ ap (λ (o : Entry). o ∷ []) e
  rest_read (n ∷ ns) u v h e o =
      let w = may n.space (bytes " ") ++ f n.entry in
      let ih = rest_read ns w (g n.entry) (gap_class n.space (f n.entry) (cl n.entry))
      (rd n.space n.entry (and_left (k n.entry) _ o)) (and_right (k n.entry) _ o) in
      ap (map r) (split_at 44 u (may n.space (bytes " ") ++ (f n.entry ++ rest f ns)) h)
      ∙ ap (λ (o : Entry). o ∷ map r (split 44 (may n.space (bytes " ") ++ (f n.entry ++ rest f ns)))) e
      ∙ ap (λ (t : List ℕ). as_read v ∷ map r (split 44 t)) (sym (append_assoc (may n.space (bytes " ")) (f n.entry) (rest f ns)))
      ∙ ap (λ (l : List Entry). as_read v ∷ l) ih

  commas_read : (c : Commas A) → T (each_of k (values c)) → map r (split 44 (commas f c)) ≡ exact (map g (values c))
  commas_read c o = rest_read c.tail (f c.head) (g c.head) (gap_class false (f c.head) (cl c.head))
      (rd false c.head (and_left (k c.head) _ o)) (and_right (k c.head) _ o)

-- ── dimensions, each followed by `x`, and a last part ──
pub dims_split : (ds : List Dim) (w : List ℕ) → T (every (non (eqb 120)) w) → split 120 (dims ds ++ w) ≡ map dim ds ++ (w ∷ [])
dims_split [] w h = split_none 120 w h
dims_split (d ∷ ds) w h =
    ap (split 120) (append_assoc (dim d) (120 ∷ dims ds) w) ∙ split_at 120 (dim d) (dims ds ++ w) (figures 120 tt (dim d) (dim_figure d))
    ∙ ap (λ (l : List (List ℕ)). dim d ∷ l) (dims_split ds w h)

pub last_snoc : (ls : List (List ℕ)) (w : List ℕ) → last (ls ++ (w ∷ [])) ≡ w
last_snoc [] w = refl
last_snoc (l ∷ []) w = refl
last_snoc (l ∷ m ∷ ls) w = last_snoc (m ∷ ls) w

pub front_snoc : (ls : List (List ℕ)) (w : List ℕ) → front (ls ++ (w ∷ [])) ≡ ls
front_snoc [] w = refl
front_snoc (l ∷ []) w = refl
front_snoc (l ∷ m ∷ ls) w = ap (λ (k : List (List ℕ)). l ∷ k) (front_snoc (m ∷ ls) w)

pub sizes_dims : (ds : List Dim) → T (each_of in64 ds) → map dimension (map dim ds) ≡ exact (map size ds)
sizes_dims ds h = settled dimension dim size in64 dimension_dim ds h

-- ── the bytes of lists: a class with the figures, and the separators ──
module _ (D : ℕ → Bool) (into : (c : ℕ) → T (figure c) → T (D c)) where
  over : (t s : List ℕ) → T (every figure t) → T (every D s) → T (every D (t ++ s))
  over t s h k = every-++ D t s (every_mono figure D into t h) k

  pub dims_over : T (D 120) → (ds : List Dim) → T (every D (dims ds))
  dims_over x [] = tt
  dims_over x (d ∷ ds) = over (dim d) (120 ∷ dims ds) (dim_figure d) (and_in (D 120) (every D (dims ds)) x (dims_over x ds))

  xrest_over : T (D 120) → (zs : List ℤ) → T (every D (xrest zs))
  xrest_over x [] = tt
  xrest_over x (z ∷ zs) = and_in (D 120) (every D (decimal z ++ xrest zs)) x (over (decimal z) (xrest zs) (decimal_figure z) (xrest_over x zs))

  module _ (k : T (D 44)) (g : T (D 32)) {A : Type 0} (f : A → List ℕ) (cl : (a : A) → T (every figure (f a))) where
    comma_over : (s : Bool) (t : List ℕ) → T (every D t) → T (every D (comma s ++ t))
    comma_over true t h = and_in (D 44) (every D (32 ∷ t)) k (and_in (D 32) (every D t) g h)
    comma_over false t h = and_in (D 44) (every D t) k h

    rest_over : (ns : List (Next A)) → T (every D (rest f ns))
    rest_over [] = tt
    rest_over (n ∷ ns) = comma_over n.space (f n.entry ++ rest f ns) (over (f n.entry) (rest f ns) (cl n.entry) (rest_over ns))

    pub commas_over : (c : Commas A) → T (every D (commas f c))
    commas_over c = over (f c.head) (rest f c.tail) (cl c.head) (rest_over c.tail)

  pub entries_over : T (D 120) → T (D 44) → T (D 32) → (e : Entries) → T (every D (entries e))
  entries_over x k g (by_x z zs) = over (decimal z) (xrest zs) (decimal_figure z) (xrest_over x zs)
  entries_over x k g (by_comma c) = commas_over k g decimal decimal_figure c

-- ── a tile's entries ──
xrest_split : (zs : List ℤ) (z : ℤ) → split 120 (decimal z ++ xrest zs) ≡ map decimal (z ∷ zs)
xrest_split [] z = ap (split 120) (append-nil (decimal z)) ∙ split_none 120 (decimal z) (figures 120 tt (decimal z) (decimal_figure z))
xrest_split (y ∷ ys) z = split_at 120 (decimal z) (decimal y ++ xrest ys) (figures 120 tt (decimal z) (decimal_figure z)) ∙ ap (λ (l : List (List ℕ)). decimal z ∷ l) (xrest_split ys y)

map-id {ℓ} : {A : Type ℓ} (l : List A) → map (λ (z : A). z) l ≡ l
map-id [] = refl
map-id (x ∷ l) = ap (λ k. x ∷ k) (map-id l)

abbrev parter : List ℕ → ℕ
parter t = if occurs (bytes "x") t then 120 else 44

x_none : (t : List ℕ) → T (every (non (eqb 120)) t) → parter t ≡ 44
x_none t h = ap (λ (k : Cut). if found k then 120 else 44) (absent (bytes "x") (all {C = non (eqb 120)} {t = t} h) tt)

x_there : (t s : List ℕ) → T (every (non (eqb 120)) t) → parter (t ++ (120 ∷ s)) ≡ 120
x_there t s h = ap (λ (k : Cut). if found k then 120 else 44) (first (bytes "x") (all {C = non (eqb 120)} {t = t} h) tt s)

parted : (t : List ℕ) (x : ℕ) → parter t ≡ x → tile_entries t ≡ map (small (pos 1)) (split x t)
unfolding tile_entries
parted t x e = ap (λ (x : ℕ). map (small (pos 1)) (split x t)) e

pub entries_parts : (e : Entries) → T (each_of in32 (entries_of e)) → tile_entries (entries e) ≡ exact (entries_of e)
entries_parts (by_x z []) h =
    ap tile_entries (append-nil (decimal z)) ∙ parted (decimal z) 44 (x_none (decimal z) (figures 120 tt (decimal z) (decimal_figure z)))
    ∙ ap (map (small (pos 1))) (split_none 44 (decimal z) (figures 44 tt (decimal z) (decimal_figure z)))
    ∙ settled (small (pos 1)) decimal (λ z. z) in32 (small_decimal (pos 1)) (z ∷ []) h
entries_parts (by_x z (y ∷ ys)) h =
    parted (decimal z ++ xrest (y ∷ ys)) 120 (x_there (decimal z) (decimal y ++ xrest ys) (figures 120 tt (decimal z) (decimal_figure z)))
    ∙ ap (map (small (pos 1))) (xrest_split (y ∷ ys) z)
    ∙ settled (small (pos 1)) decimal (λ z. z) in32 (small_decimal (pos 1)) (z ∷ y ∷ ys) h ∙ ap exact (map-id (z ∷ y ∷ ys))
entries_parts (by_comma c) h =
    parted (commas decimal c) 44 (x_none (commas decimal c) (commas_over (non (eqb 120)) (lacks figure 120 tt) tt tt decimal decimal_figure c))
    ∙ commas_read (small (pos 1)) decimal (λ z. z) in32 decimal_figure (small_gap (pos 1)) c h ∙ ap exact (map-id (values c))

pub list_read : (c : Commas ℤ) → T (each_of in32 (values c)) → map (small (pos 0)) (split 44 (commas decimal c)) ≡ exact (values c)
list_read c h = commas_read (small (pos 0)) decimal (λ z. z) in32 decimal_figure (small_gap (pos 0)) c h ∙ ap exact (map-id (values c))

pub strides_read : (c : Commas Dim) → T (each_of in64 (values c)) → map dimension (split 44 (commas dim c)) ≡ exact (map size (values c))
strides_read c h = commas_read dimension dim size in64 dim_figure dimension_gap c h
