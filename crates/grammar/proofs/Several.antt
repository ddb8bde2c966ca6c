-- Lists: dimensions each followed by `x`, lists parted by commas, lists parted by `x`; each with what ends it.
use Rattle.std.specs.Prelude.{ℕ, ◌-◌, ◌^◌, Bool, true, false, ◌&&◌, ◌||◌, List, [], ◌∷◌, ◌++◌, ◌⊎◌, ◌≡◌, refl, T, eqb, ℤ, pos, negsuc}
use Rattle.std.proofs.Common.{append_assoc, inl, inr, subst, sym, ap, ◌∙◌}
use mathlib.Core.List as L
use Rattle.std.proofs.Math.Dec.{eqb_refl}
use Rattle.lexis.specs.Text.{bytes}
use Rattle.meaning.specs.Decimal.{decimal, Dim, dynamic, known, dim, size, in32, in64}
use Rattle.meaning.specs.Strict.{◌⊕◌, Next, Commas, comma, commas, values, rest, dims, xrest, Entries, by_x, by_comma, entries, entries_of}
use Rattle.meaning.specs.Meant.{each_of}
use Rattle.grammar.specs.Tests.{and_left, and_right, and_in, or_left}
use Rattle.grammar.specs.Piece.{member, apart, within, Piece}
use Rattle.grammar.specs.Join.{map, bind, either, restate}
use Rattle.grammar.specs.Until.{until, Row, Ended, first}
use Rattle.grammar.specs.Table.{table, ◌↝◌}
use Rattle.grammar.specs.Number.{Decimal, digits_after, ten}
use Rattle.grammar.proofs.Number.{number}
use Rattle.grammar.specs.Several.{figs, figs?, Both, same}
use Rattle.grammar.specs.Spelt.{Spelt, listed, listed_to, listed_from, two, in_two, quiet, ending, texts, rows_to, rows_from}

-- ── entries ──
pub num_to : (z : ℤ) (t : List ℕ) → Decimal (2 ^ 31) (2 ^ 31) z t → Spelt in32 decimal (λ (z : ℤ). z) z t
num_to (pos n) t d = record { form = pos n; fine = d.fine; spells = d.text; says = refl }
num_to (negsuc n) t d = record { form = negsuc n; fine = d.fine; spells = d.text; says = refl }

pub num_from : (z : ℤ) (t : List ℕ) → Spelt in32 decimal (λ (z : ℤ). z) z t → Decimal (2 ^ 31) (2 ^ 31) z t
num_from z t s = by s.form s.fine s.spells s.says
  where
    by : (y : ℤ) → T (in32 y) → decimal y ≡ t → y ≡ z → Decimal (2 ^ 31) (2 ^ 31) z t
    by (pos n) h e q = subst (λ (z : ℤ). Decimal (2 ^ 31) (2 ^ 31) z t) q (record { fine = h; text = e })
    by (negsuc n) h e q = subst (λ (z : ℤ). Decimal (2 ^ 31) (2 ^ 31) z t) q (record { fine = h; text = e })

abbrev pub num32 : Piece false figs ℤ digits_after
num32 = restate (number (2 ^ 31) (2 ^ 31) tt tt) (Spelt in32 decimal (λ (z : ℤ). z)) num_to num_from

abbrev pub any64 : Piece false figs? ℤ digits_after
any64 = either (table digits_after (bytes "?") ((bytes "?" ↝ size dynamic) ∷ []) tt) (number (2 ^ 63) (2 ^ 63 - 1) tt tt) tt

pub dim_to : (z : ℤ) (t : List ℕ) → any64.In z t → Spelt in64 dim size z t
dim_to z t (inl (inl p)) = record { form = dynamic; fine = tt; spells = p.0; says = p.1 }
dim_to z t (inl (inr p)) = absurd p
dim_to (pos n) t (inr d) = record { form = known (pos n); fine = d.fine; spells = d.text; says = refl }
dim_to (negsuc n) t (inr d) = record { form = known (negsuc n); fine = d.fine; spells = d.text; says = refl }

pub dim_from : (z : ℤ) (t : List ℕ) → Spelt in64 dim size z t → any64.In z t
dim_from z t s = by s.form s.fine s.spells s.says
  where
    by : (y : Dim) → T (in64 y) → dim y ≡ t → size y ≡ z → any64.In z t
    by dynamic h e q = inl (inl (e, q))
    by (known (pos n)) h e q = inr (subst (λ (z : ℤ). Decimal (2 ^ 63) (2 ^ 63 - 1) z t) q (record { fine = h; text = e }))
    by (known (negsuc n)) h e q = inr (subst (λ (z : ℤ). Decimal (2 ^ 63) (2 ^ 63 - 1) z t) q (record { fine = h; text = e }))

abbrev pub dim64 : Piece false figs? ℤ digits_after
dim64 = restate any64 (Spelt in64 dim size) dim_to dim_from

pub nothing : (X : List ℕ) → T (apart X [])
nothing [] = tt
nothing (x ∷ X) = nothing X

pub self : (X : List ℕ) → T (within X X)
self X = all X X (λ c m. m)
  where
    all : (Y Z : List ℕ) → ((c : ℕ) → T (member c Y) → T (member c Z)) → T (within Y Z)
    all [] Z f = tt
    all (y ∷ Y) Z f = and_in (member y Z) (within Y Z) (f y (or_left (eqb y y) (member y Y) (eqb_refl y))) (all Y Z (λ c m. f c (or_right (eqb c y) (member c Y) m)))
      where
        or_right : (a b : Bool) → T b → T (a || b)
        or_right true b h = tt
        or_right false b h = h

-- ── dimensions, then Q ──
pub dims_texts : (ds : List Dim) (s : List ℕ) → texts (λ d. dim d ⊕ bytes "x") ds s ≡ dims ds ⊕ s
dims_texts [] s = refl
dims_texts (d ∷ ds) s = ap (λ (z : List ℕ). (dim d ⊕ bytes "x") ++ z) (dims_texts ds s) ∙ append_assoc (dim d) (bytes "x") (dims ds ⊕ s) ∙ sym (append_assoc (dim d) (bytes "x" ⊕ dims ds) s)

abbrev pub dimx : Piece false figs? ℤ quiet
dimx = ending dim64 120 [] (λ a. tt) in64 dim size (λ a t i. i) (λ a t i. i)

module _ {G : List ℕ} {B : Type 0} {E : B → List ℕ} (Q : Piece false G B E) (sep : T (apart G figs?))
    {S : Type 0} (ok : S → Bool) (text : S → List ℕ) (mean : S → B)
    (to : (b : B) (t : List ℕ) → Q.In b t → Spelt ok text mean b t) (from : (b : B) (t : List ℕ) → Spelt ok text mean b t → Q.In b t) where
  abbrev pub dims_plain : Piece false (figs? ++ G) (Ended ℤ B) (λ e. E e.last)
  dims_plain = until dimx Q sep (λ a. nothing G)

  abbrev pub dims_ok : Both (List Dim) S → Bool
  dims_ok p = each_of in64 p.left && ok p.right

  abbrev pub dims_text : Both (List Dim) S → List ℕ
  dims_text p = dims p.left ⊕ text p.right

  abbrev pub dims_mean : Both (List Dim) S → Ended ℤ B
  dims_mean p = record { items = L.map size p.left; last = mean p.right }

  pub dims_to : (e : Ended ℤ B) (t : List ℕ) → Row (Spelt in64 (λ d. dim d ⊕ bytes "x") size) Q.In e.items e.last t → Spelt dims_ok dims_text dims_mean e t
  dims_to e t i =
      let r = rows_to in64 (λ d. dim d ⊕ bytes "x") size (Spelt in64 (λ d. dim d ⊕ bytes "x") size) Q.In (λ a t i. i) e.items e.last t i in
      let q = to e.last r.rest r.end in
      record {
        form = record { left = r.forms; right = q.form };
        fine = and_in (each_of in64 r.forms) (ok q.form) r.fine q.fine;
        spells = ap (λ (z : List ℕ). dims r.forms ⊕ z) q.spells ∙ sym (dims_texts r.forms r.rest) ∙ r.split;
        says = λ j. record { items = r.says j; last = q.says j };
      }

  pub dims_from : (e : Ended ℤ B) (t : List ℕ) → Spelt dims_ok dims_text dims_mean e t → Row (Spelt in64 (λ d. dim d ⊕ bytes "x") size) Q.In e.items e.last t
  dims_from e t s =
      let p = s.form in
      let h = s.fine in
      subst (λ (z : Ended ℤ B). Row (Spelt in64 (λ d. dim d ⊕ bytes "x") size) Q.In z.items z.last t) s.says
      (subst (λ (z : List ℕ). Row (Spelt in64 (λ d. dim d ⊕ bytes "x") size) Q.In (L.map size p.left) (mean p.right) z) (dims_texts p.left (text p.right) ∙ s.spells)
      (rows_from in64 (λ d. dim d ⊕ bytes "x") size (Spelt in64 (λ d. dim d ⊕ bytes "x") size) Q.In (λ a t i. i) p.left (mean p.right) (text p.right)
      (and_left (each_of in64 p.left) (ok p.right) h)
      (from (mean p.right) (text p.right) (record { form = p.right; fine = and_right (each_of in64 p.left) (ok p.right) h; spells = refl; says = refl }))))

  abbrev pub dims_then : Piece false (figs? ++ G) (Ended ℤ B) (λ e. E e.last)
  dims_then = restate dims_plain (Spelt dims_ok dims_text dims_mean) dims_to dims_from

-- ── a list parted by commas, then Q ──
pub each_map : {X Y : Type 0} (f : Y → Bool) (g : X → Y) (xs : List X) → each_of f (L.map g xs) ≡ each_of (λ x. f (g x)) xs
each_map f g [] = refl
each_map f g (x ∷ xs) = ap (λ (z : Bool). f (g x) && z) (each_map f g xs)

pub map_map : {X Y Z : Type 0} (f : Y → Z) (g : X → Y) (xs : List X) → L.map f (L.map g xs) ≡ L.map (λ x. f (g x)) xs
map_map f g [] = refl
map_map {X} {Y} {Z} f g (x ∷ xs) = ap {B = List Z} (λ z. f (g x) ∷ z) (map_map f g xs)

abbrev pub comma_piece : Piece false (bytes ",") (Unit {0}) (λ u. bytes " ")
comma_piece = table (λ u. bytes " ") (bytes ",") (listed comma (λ s. tt) two) tt

abbrev pub x_piece : Piece false (bytes "x") (Unit {0}) quiet
x_piece = table quiet (bytes "x") ((bytes "x" ↝ tt) ∷ []) tt

module _ {F : List ℕ} {A : Type 0} {E : A → List ℕ} (P : Piece false F A E) (dense : T (apart F (bytes " ")))
    {S : Type 0} (ok : S → Bool) (text : S → List ℕ) (mean : S → A)
    (to : (a : A) (t : List ℕ) → P.In a t → Spelt ok text mean a t) (from : (a : A) (t : List ℕ) → Spelt ok text mean a t → P.In a t) where
  abbrev pub item_plain : Piece false (bytes ",") A E
  item_plain = bind comma_piece (λ u. false) (λ u. F) (λ u. P) (λ u. dense) (λ u b. absurd)

  abbrev pub item_ok : Next S → Bool
  item_ok n = ok n.entry

  abbrev pub item_text : Next S → List ℕ
  item_text n = comma n.space ⊕ text n.entry

  abbrev pub item_mean : Next S → A
  item_mean n = mean n.entry

  pub item_to : (a : A) (t : List ℕ) → item_plain.In a t → Spelt item_ok item_text item_mean a t
  item_to a t i =
      let c = listed_to comma (λ s. tt) two i.value i.front i.is in
      let s = to a i.back i.next in
      record { form = record { space = c.form; entry = s.form }; fine = s.fine; spells = (λ j. (c.spells j) ++ (s.spells j)) ∙ i.split; says = s.says }

  pub item_from : (a : A) (t : List ℕ) → Spelt item_ok item_text item_mean a t → item_plain.In a t
  item_from a t s = record {
    value = tt;
    front = comma s.form.space;
    back = text s.form.entry;
    is = listed_from comma (λ s. tt) two s.form.space (in_two s.form.space) tt (comma s.form.space) refl refl;
    next = from a (text s.form.entry) (record { form = s.form.entry; fine = s.fine; spells = refl; says = s.says });
    split = s.spells;
  }

  abbrev pub item : Piece false (bytes ",") A E
  item = restate item_plain (Spelt item_ok item_text item_mean) item_to item_from

  abbrev pub xitem_plain : Piece false (bytes "x") A E
  xitem_plain = bind x_piece (λ u. false) (λ u. F) (λ u. P) (λ u. nothing F) (λ u b. absurd)

  abbrev pub xitem_text : S → List ℕ
  xitem_text s = bytes "x" ⊕ text s

  pub xitem_to : (a : A) (t : List ℕ) → xitem_plain.In a t → Spelt ok xitem_text mean a t
  xitem_to a t i = by i.is
    where
      s : Spelt ok text mean a i.back
      s = to a i.back i.next

      by : ((bytes "x" ≡ i.front) × (tt {0} ≡ i.value)) ⊎ ⊥ → Spelt ok xitem_text mean a t
      by (inl p) = record { form = s.form; fine = s.fine; spells = (λ j. (p.0 j) ++ (s.spells j)) ∙ i.split; says = s.says }
      by (inr p) = absurd p

  pub xitem_from : (a : A) (t : List ℕ) → Spelt ok xitem_text mean a t → xitem_plain.In a t
  xitem_from a t s = record {
    value = tt;
    front = bytes "x";
    back = text s.form;
    is = inl (refl, refl);
    next = from a (text s.form) (record { form = s.form; fine = s.fine; spells = refl; says = s.says });
    split = s.spells;
  }

  abbrev pub xitem : Piece false (bytes "x") A E
  xitem = restate xitem_plain (Spelt ok xitem_text mean) xitem_to xitem_from

  pub rest_texts : (ns : List (Next S)) (s : List ℕ) → texts item_text ns s ≡ rest text ns ⊕ s
  rest_texts [] s = refl
  rest_texts (n ∷ ns) s = ap (λ (z : List ℕ). (comma n.space ⊕ text n.entry) ++ z) (rest_texts ns s)
      ∙ append_assoc (comma n.space) (text n.entry) (rest text ns ⊕ s)
      ∙ ap (λ (z : List ℕ). comma n.space ⊕ z) (sym (append_assoc (text n.entry) (rest text ns) s))
      ∙ sym (append_assoc (comma n.space) (text n.entry ⊕ rest text ns) s)

  module _ {G : List ℕ} {B : Type 0} {E' : B → List ℕ} (Q : Piece false G B E') (sep : T (apart G (bytes ","))) (fol : (a : A) → T (apart (bytes "," ++ G) (E a)))
      {S' : Type 0} (ok' : S' → Bool) (text' : S' → List ℕ) (mean' : S' → B)
      (to' : (b : B) (t : List ℕ) → Q.In b t → Spelt ok' text' mean' b t) (from' : (b : B) (t : List ℕ) → Spelt ok' text' mean' b t → Q.In b t) where
    -- what follows the first entry
    abbrev pub tail_plain : Piece false (bytes "," ++ G) (Ended A B) (λ e. E' e.last)
    tail_plain = until item Q sep fol

    abbrev pub tail_ok : Both (List (Next S)) S' → Bool
    tail_ok p = each_of item_ok p.left && ok' p.right

    abbrev pub tail_text : Both (List (Next S)) S' → List ℕ
    tail_text p = rest text p.left ⊕ text' p.right

    abbrev pub tail_mean : Both (List (Next S)) S' → Ended A B
    tail_mean p = record { items = L.map item_mean p.left; last = mean' p.right }

    pub tail_to : (e : Ended A B) (t : List ℕ) → tail_plain.In e t → Spelt tail_ok tail_text tail_mean e t
    tail_to e t i =
        let r = rows_to item_ok item_text item_mean (Spelt item_ok item_text item_mean) Q.In (λ a t i. i) e.items e.last t i in
        let q = to' e.last r.rest r.end in
        record {
          form = record { left = r.forms; right = q.form };
          fine = and_in (each_of item_ok r.forms) (ok' q.form) r.fine q.fine;
          spells = ap (λ (z : List ℕ). rest text r.forms ⊕ z) q.spells ∙ sym (rest_texts r.forms r.rest) ∙ r.split;
          says = λ j. record { items = r.says j; last = q.says j };
        }

    pub tail_from : (e : Ended A B) (t : List ℕ) → Spelt tail_ok tail_text tail_mean e t → tail_plain.In e t
    tail_from e t s =
        let p = s.form in
        let h = s.fine in
        subst (λ (z : Ended A B). tail_plain.In z t) s.says
        (subst (λ (z : List ℕ). tail_plain.In (tail_mean p) z) (rest_texts p.left (text' p.right) ∙ s.spells)
        (rows_from item_ok item_text item_mean (Spelt item_ok item_text item_mean) Q.In (λ a t i. i) p.left (mean' p.right) (text' p.right)
        (and_left (each_of item_ok p.left) (ok' p.right) h)
        (from' (mean' p.right) (text' p.right) (record { form = p.right; fine = and_right (each_of item_ok p.left) (ok' p.right) h; spells = refl; says = refl }))))

    abbrev pub tail_then : Piece false (bytes "," ++ G) (Ended A B) (λ e. E' e.last)
    tail_then = restate tail_plain (Spelt tail_ok tail_text tail_mean) tail_to tail_from

    -- the whole list
    abbrev pub list_plain : Piece false F (Ended A B) (λ e. E' e.last)
    list_plain = bind P (λ a. false) (λ a. bytes "," ++ G) (λ a. map (first a) (λ e. E' e.last) tail_then (λ e. self (E' e.last))) fol (λ a b. absurd)

    abbrev pub list_ok : Both (Commas S) S' → Bool
    list_ok p = each_of ok (values p.left) && ok' p.right

    abbrev pub list_text : Both (Commas S) S' → List ℕ
    list_text p = commas text p.left ⊕ text' p.right

    abbrev pub list_mean : Both (Commas S) S' → Ended A B
    list_mean p = record { items = L.map mean (values p.left); last = mean' p.right }

    pub list_to : (e : Ended A B) (t : List ℕ) → list_plain.In e t → Spelt list_ok list_text list_mean e t
    list_to e t i =
        let s = to i.value i.front i.is in
        let q = i.next.is in
        let r = q.form.right in
        let ns = q.form.left in
        record {
          form = record { left = record { head = s.form; tail = ns }; right = r };
          fine = and_in (ok s.form && each_of ok (L.map (λ (n : Next S). n.entry) ns)) (ok' r)
              (and_in (ok s.form) (each_of ok (L.map (λ (n : Next S). n.entry) ns)) s.fine
              (subst T (sym (each_map ok (λ (n : Next S). n.entry) ns)) (and_left (each_of item_ok ns) (ok' r) q.fine)))
              (and_right (each_of item_ok ns) (ok' r) q.fine);
          spells = append_assoc (text s.form) (rest text ns) (text' r) ∙ (λ j. (s.spells j) ++ (q.spells j)) ∙ i.split;
          says = (λ j. record { items = s.says j ∷ map_map mean (λ (n : Next S). n.entry) ns j; last = mean' r }) ∙ ap (first i.value) q.says ∙ i.next.says;
        }

    pub list_from : (e : Ended A B) (t : List ℕ) → Spelt list_ok list_text list_mean e t → list_plain.In e t
    list_from e t s =
        let c = s.form.left in
        let r = s.form.right in
        let ns = c.tail in
        let h = and_left (ok c.head && each_of ok (L.map (λ (n : Next S). n.entry) ns)) (ok' r) s.fine in
        record {
          value = mean c.head;
          front = text c.head;
          back = rest text ns ⊕ text' r;
          is = from (mean c.head) (text c.head) (record { form = c.head; fine = and_left (ok c.head) (each_of ok (L.map (λ (n : Next S). n.entry) ns)) h; spells = refl; says = refl });
          next = record {
            value = tail_mean (record { left = ns; right = r });
            is = record {
              form = record { left = ns; right = r };
              fine = and_in (each_of item_ok ns) (ok' r) (subst T (each_map ok (λ (n : Next S). n.entry) ns) (and_right (ok c.head) (each_of ok (L.map (λ (n : Next S). n.entry) ns)) h))
                  (and_right (ok c.head && each_of ok (L.map (λ (n : Next S). n.entry) ns)) (ok' r) s.fine);
              spells = refl;
              says = refl;
            };
            says = (λ j. record { items = mean c.head ∷ sym (map_map mean (λ (n : Next S). n.entry) ns) j; last = mean' r }) ∙ s.says;
          };
          split = sym (append_assoc (text c.head) (rest text ns) (text' r)) ∙ s.spells;
        }

    abbrev pub list_then : Piece false F (Ended A B) (λ e. E' e.last)
    list_then = restate list_plain (Spelt list_ok list_text list_mean) list_to list_from

-- ── the tile's entries, by x throughout or by commas throughout, then Q ──
pub xrest_texts : (zs : List ℤ) (s : List ℕ) → texts (λ z. bytes "x" ⊕ decimal z) zs s ≡ xrest zs ⊕ s
xrest_texts [] s = refl
xrest_texts (z ∷ zs) s = ap (λ (w : List ℕ). (bytes "x" ⊕ decimal z) ++ w) (xrest_texts zs s)
    ∙ ap (λ (w : List ℕ). 120 ∷ w) (sym (append_assoc (decimal z) (xrest zs) s))

pub map_same : (zs : List ℤ) → L.map same zs ≡ zs
map_same [] = refl
map_same (z ∷ zs) = ap (λ (w : List ℤ). z ∷ w) (map_same zs)

abbrev pub x32 : Piece false (bytes "x") ℤ digits_after
x32 = xitem num32 tt in32 decimal same (λ a t i. i) (λ a t i. i)

module _ {G : List ℕ} {B : Type 0} {E : B → List ℕ} (Q : Piece false G B E) (sepx : T (apart G (bytes "x"))) (sepc : T (apart G (bytes ","))) (sept : T (apart G ten))
    {S : Type 0} (ok : S → Bool) (text : S → List ℕ) (mean : S → B)
    (to : (b : B) (t : List ℕ) → Q.In b t → Spelt ok text mean b t) (from : (b : B) (t : List ℕ) → Spelt ok text mean b t → Q.In b t) where
  abbrev pub xs_then : Piece false (bytes "x" ++ G) (Ended ℤ B) (λ e. E e.last)
  xs_then = until x32 Q sepx (λ a. sept)

  -- one entry after an x, at least
  abbrev pub xs_some : Piece false (bytes "x") (Ended ℤ B) (λ e. E e.last)
  xs_some = bind x32 (λ a. false) (λ a. bytes "x" ++ G) (λ a. map (first a) (λ e. E e.last) xs_then (λ e. self (E e.last))) (λ a. sept) (λ a b. absurd)

  abbrev pub cs_then : Piece false (bytes "," ++ G) (Ended ℤ B) (λ e. E e.last)
  cs_then = tail_then num32 tt in32 decimal same (λ a t i. i) (λ a t i. i) Q sepc (λ a. sept) ok text mean to from

  abbrev pub either_list : Piece false (bytes "x" ++ (bytes "," ++ G)) (Ended ℤ B) (λ e. E e.last)
  either_list = either xs_some cs_then sepx

  abbrev pub entries_plain : Piece false figs (Ended ℤ B) (λ e. E e.last)
  entries_plain = bind num32 (λ a. false) (λ a. bytes "x" ++ (bytes "," ++ G)) (λ a. map (first a) (λ e. E e.last) either_list (λ e. self (E e.last))) (λ a. sept) (λ a b. absurd)

  abbrev pub entries_ok : Both Entries S → Bool
  entries_ok p = each_of in32 (entries_of p.left) && ok p.right

  abbrev pub entries_text : Both Entries S → List ℕ
  entries_text p = entries p.left ⊕ text p.right

  abbrev pub entries_mean : Both Entries S → Ended ℤ B
  entries_mean p = record { items = entries_of p.left; last = mean p.right }

  abbrev x_in : ℤ → List ℕ → Type 0
  x_in = Spelt in32 (λ z. bytes "x" ⊕ decimal z) same

  x_joined : (y z : ℤ) (e e' : Ended ℤ B) (f b t : List ℕ) → T (in32 y) → decimal y ≡ f → y ≡ z → first z e' ≡ e → f ++ b ≡ t → xs_some.In e' b → Spelt entries_ok entries_text entries_mean e t
  x_joined y z e e' f b t h p q says split x =
      let s = x.is in
      let r = rows_to in32 (λ z. bytes "x" ⊕ decimal z) same x_in Q.In (λ a t i. i) x.next.value.items x.next.value.last x.back x.next.is in
      let k = to x.next.value.last r.rest r.end in
      record {
        form = record { left = by_x y (s.form ∷ r.forms); right = k.form };
        fine = and_in (in32 y && (in32 s.form && each_of in32 r.forms)) (ok k.form)
            (and_in (in32 y) (in32 s.form && each_of in32 r.forms) h (and_in (in32 s.form) (each_of in32 r.forms) s.fine r.fine)) k.fine;
        spells = append_assoc (decimal y) (xrest (s.form ∷ r.forms)) (text k.form)
            ∙ ap (λ (w : List ℕ). decimal y ++ (120 ∷ w)) (append_assoc (decimal s.form) (xrest r.forms) (text k.form) ∙ ap (λ (w : List ℕ). decimal s.form ++ w)
            (ap (λ (w : List ℕ). xrest r.forms ++ w) k.spells ∙ sym (xrest_texts r.forms r.rest) ∙ r.split))
            ∙ (λ j. (p j) ++ ((s.spells j) ++ x.back)) ∙ ap (λ (w : List ℕ). f ++ w) x.split ∙ split;
        says = (λ j. record { items = y ∷ s.form ∷ sym (map_same r.forms) j; last = k.says j })
            ∙ (λ j. record { items = q j ∷ s.says j ∷ r.says j; last = x.next.value.last }) ∙ ap (first z) x.next.says ∙ says;
      }

  by_c : (y z : ℤ) (e e' : Ended ℤ B) (f b t : List ℕ) → T (in32 y) → decimal y ≡ f → y ≡ z → first z e' ≡ e → f ++ b ≡ t → cs_then.In e' b → Spelt entries_ok entries_text entries_mean e t
  by_c y z e e' f b t h p q says split x =
      let ns = x.form.left in
      let r = x.form.right in
      record {
        form = record { left = by_comma (record { head = y; tail = ns }); right = r };
        fine = and_in (in32 y && each_of in32 (L.map (λ (n : Next ℤ). n.entry) ns)) (ok r)
            (and_in (in32 y) (each_of in32 (L.map (λ (n : Next ℤ). n.entry) ns)) h
            (subst T (sym (each_map in32 (λ (n : Next ℤ). n.entry) ns)) (and_left (each_of (λ (n : Next ℤ). in32 n.entry) ns) (ok r) x.fine)))
            (and_right (each_of (λ (n : Next ℤ). in32 n.entry) ns) (ok r) x.fine);
        spells = append_assoc (decimal y) (rest decimal ns) (text r) ∙ (λ j. (p j) ++ (x.spells j)) ∙ split;
        says = ap (λ (w : ℤ). record { items = w ∷ L.map (λ (n : Next ℤ). n.entry) ns; last = mean r }) q ∙ ap (first z) x.says ∙ says;
      }

  pub entries_to : (e : Ended ℤ B) (t : List ℕ) → entries_plain.In e t → Spelt entries_ok entries_text entries_mean e t
  entries_to e t i = by i.next.is
    where
      s : Spelt in32 decimal same i.value i.front
      s = i.is

      by : xs_some.In i.next.value i.back ⊎ cs_then.In i.next.value i.back → Spelt entries_ok entries_text entries_mean e t
      by (inl x) = x_joined s.form i.value e i.next.value i.front i.back t s.fine s.spells s.says i.next.says i.split x
      by (inr x) = by_c s.form i.value e i.next.value i.front i.back t s.fine s.spells s.says i.next.says i.split x

  at_last : (r : S) → T (ok r) → Q.In (mean r) (text r)
  at_last r h = from (mean r) (text r) (record { form = r; fine = h; spells = refl; says = refl })

  number_is : (z : ℤ) → T (in32 z) → num32.In z (decimal z)
  number_is z h = record { form = z; fine = h; spells = refl; says = refl }

  from_c : (z : ℤ) (ns : List (Next ℤ)) (r : S) → T (in32 z) → T (each_of (λ (n : Next ℤ). in32 n.entry) ns) → T (ok r) →
      entries_plain.In (record { items = z ∷ L.map (λ (n : Next ℤ). n.entry) ns; last = mean r }) ((decimal z ⊕ rest decimal ns) ⊕ text r)
  from_c z ns r h k l = record {
    value = z;
    front = decimal z;
    back = rest decimal ns ⊕ text r;
    is = number_is z h;
    next = record {
      value = record { items = L.map (λ (n : Next ℤ). n.entry) ns; last = mean r };
      is = inr (record { form = record { left = ns; right = r }; fine = and_in (each_of (λ (n : Next ℤ). in32 n.entry) ns) (ok r) k l; spells = refl; says = refl });
      says = refl;
    };
    split = sym (append_assoc (decimal z) (rest decimal ns) (text r));
  }

  from_x : (z y : ℤ) (zs : List ℤ) (r : S) → T (in32 z) → T (in32 y) → T (each_of in32 zs) → T (ok r) →
      entries_plain.In (record { items = z ∷ y ∷ zs; last = mean r }) ((decimal z ⊕ xrest (y ∷ zs)) ⊕ text r)
  from_x z y zs r h g k l = record {
    value = z;
    front = decimal z;
    back = xrest (y ∷ zs) ⊕ text r;
    is = number_is z h;
    next = record {
      value = record { items = y ∷ zs; last = mean r };
      is = inl (record {
        value = y;
        front = bytes "x" ⊕ decimal y;
        back = xrest zs ⊕ text r;
        is = record { form = y; fine = g; spells = refl; says = refl };
        next = record {
          value = record { items = zs; last = mean r };
          is = subst (λ (w : List ℤ). Row x_in Q.In w (mean r) (xrest zs ⊕ text r)) (map_same zs)
              (subst (λ (w : List ℕ). Row x_in Q.In (L.map same zs) (mean r) w) (xrest_texts zs (text r))
              (rows_from in32 (λ z. bytes "x" ⊕ decimal z) same x_in Q.In (λ a t i. i) zs (mean r) (text r) k (at_last r l)));
          says = refl;
        };
        split = ap (λ (w : List ℕ). 120 ∷ w) (sym (append_assoc (decimal y) (xrest zs) (text r)));
      });
      says = refl;
    };
    split = sym (append_assoc (decimal z) (xrest (y ∷ zs)) (text r));
  }

  pub entries_from : (e : Ended ℤ B) (t : List ℕ) → Spelt entries_ok entries_text entries_mean e t → entries_plain.In e t
  entries_from e t s = subst (λ (w : Ended ℤ B). entries_plain.In w t) s.says
      (subst (λ (w : List ℕ). entries_plain.In (entries_mean s.form) w) s.spells (by s.form.left s.form.right s.fine))
    where
      by : (f : Entries) (r : S) → T (entries_ok (record { left = f; right = r })) → entries_plain.In (entries_mean (record { left = f; right = r })) (entries_text (record { left = f; right = r }))
      by (by_x z []) r h = from_c z [] r (and_left (in32 z) true (and_left (in32 z && true) (ok r) h)) tt (and_right (in32 z && true) (ok r) h)
      by (by_x z (y ∷ zs)) r h =
          let a = and_left (in32 z && (in32 y && each_of in32 zs)) (ok r) h in
          let b = and_right (in32 z) (in32 y && each_of in32 zs) a in
          from_x z y zs r (and_left (in32 z) (in32 y && each_of in32 zs) a) (and_left (in32 y) (each_of in32 zs) b) (and_right (in32 y) (each_of in32 zs) b)
          (and_right (in32 z && (in32 y && each_of in32 zs)) (ok r) h)
      by (by_comma c) r h =
          let a = and_left (in32 c.head && each_of in32 (L.map (λ (n : Next ℤ). n.entry) c.tail)) (ok r) h in
          from_c c.head c.tail r (and_left (in32 c.head) (each_of in32 (L.map (λ (n : Next ℤ). n.entry) c.tail)) a)
          (subst T (each_map in32 (λ (n : Next ℤ). n.entry) c.tail) (and_right (in32 c.head) (each_of in32 (L.map (λ (n : Next ℤ). n.entry) c.tail)) a))
          (and_right (in32 c.head && each_of in32 (L.map (λ (n : Next ℤ). n.entry) c.tail)) (ok r) h)

  abbrev pub entries_then : Piece false figs (Ended ℤ B) (λ e. E e.last)
  entries_then = restate entries_plain (Spelt entries_ok entries_text entries_mean) entries_to entries_from
