-- Lists put entry after entry: the room is enough for the next entry; and strides by whether there are any.
use Rattle.std.proofs.Common.{◌≡◌, ℕ, ◌+◌, ◌<◌, ◌≤◌, true, false, List, [], ◌∷◌, ◌++◌, ℤ, length, get_or, drop, eqb, refl, ap, arith, length-append, append_assoc}
use Rattle.std.proofs.lemmas.List.{drop_more}
use Rattle.std.specs.List.{flat_map}
use Prim.Native.Char.{code}
use borrow.Author.Tests.{eqb-true, eqb-false}
use Rattle.lexis.specs.Text.{Text, bytes}
use Rattle.writer.specs.Flat.{clause, entry, strides_text}

-- with s put, entry i of l and those behind it are what is left of t ++ x
pub next_fits : {A : Type 0} (f : A → Text) (l : List A) (i : ℕ) (d : A) → i < length l → (s t x : Text) (n : ℕ) →
    s ++ flat_map f (drop i l) ≡ t ++ x → length t + length x ≤ n → length s + length (f (get_or l i d)) ≤ n
next_fits f l i d h s t x n q r =
    let e = rw (drop_more l i d h) at (ap length q) in
    omega (arith, simp length-append at e)

pub next_put : {A : Type 0} (f : A → Text) (l : List A) (i : ℕ) (d : A) → i < length l → (s y : Text) →
    s ++ flat_map f (drop i l) ≡ y → (s ++ f (get_or l i d)) ++ flat_map f (drop (i + 1) l) ≡ y
next_put f l i d h s y q = rw append_assoc (rw (drop_more l i d h) at q)

pub no_strides : (l : List ℤ) → eqb (length l) 0 ≡ true → strides_text l ≡ []
unfolding strides_text
no_strides [] e = refl
no_strides (x ∷ l) e = absurd (let n = eqb-true (length (x ∷ l)) 0 e in omega arith)

pub some_strides : (l : List ℤ) → eqb (length l) 0 ≡ false → strides_text l ≡ clause entry (bytes ", strides=[") (code ",") l (bytes "]")
unfolding strides_text
some_strides [] e = absurd (eqb-false 0 0 e refl)
some_strides (x ∷ l) e = refl
