-- Names of another length are not the text: what it names stands among the names of its own length.
use Rattle.std.specs.Prelude.{if◌then◌else◌, Some, None}
use mathlib.Core.Path.{◌≡◌, refl, sym, ap, ◌∙◌}
use mathlib.Core.Bool.{Bool, true, false, ◌||◌, false≢true}
use mathlib.Core.List.{List, [], ◌∷◌, map}
use Prim.Native.Nat.{ℕ}
use lib.Dec.{eqb}
use lib.ListN.{length}
use borrow.Author.Tests.{eqb-false, ne_eqb}
use Rattle.lexis.specs.Text.{Text, bytes, same}
use Rattle.lexis.proofs.Seeking.{unlike}
use Rattle.scalars.specs.Names.{Name, names, named_in}

-- the names of k bytes
abbrev pub of_length : ℕ → List Name → List Name
of_length k [] = []
of_length k (n ∷ ns) = if eqb (length (bytes n.spelling)) k then n ∷ of_length k ns else of_length k ns

own_length : (ns : List Name) (s : Text) → named_in (of_length (length s) ns) s ≡ named_in ns s
own_length [] s = refl
own_length (n ∷ ns) s =
    by
    (eqb (length (bytes n.spelling)) (length s))
    (λ e. unlike (bytes n.spelling) s (eqb-false (length (bytes n.spelling)) (length s) e))
    (own_length ns s)
  where
    by : (b : Bool) → (b ≡ false → same (bytes n.spelling) s ≡ false)
        → named_in (of_length (length s) ns) s ≡ named_in ns s
        → named_in (if b then n ∷ of_length (length s) ns else of_length (length s) ns) s ≡ if same (bytes n.spelling) s then Some n.scalar else named_in ns s
    by true f e = rw e
    by false f e = rw (f refl) e

-- where the names' lengths pass a test that the text's does not
none_such : (p : ℕ → Bool) (ns : List Name) (s : Text) → map (λ (n : Name). p (length (bytes n.spelling))) ns ≡ map (λ (n : Name). true) ns
    → p (length s) ≡ false → None ≡ named_in ns s
none_such p [] s e h = refl
none_such p (n ∷ ns) s e h =
    let a : p (length (bytes n.spelling)) ≡ true = cc in
    let b : map (λ (n : Name). p (length (bytes n.spelling))) ns ≡ map (λ (n : Name). true) ns = cc in
    rw (unlike (bytes n.spelling) s (λ k. false≢true (sym h ∙ ap p (sym k) ∙ a))) (none_such p ns s b h)

-- a text of a length that no name has
pub no_length : (s : Text) → (length s ≡ 2 → ⊥) → (length s ≡ 3 → ⊥) → (length s ≡ 4 → ⊥) → (length s ≡ 6 → ⊥) → (length s ≡ 8 → ⊥) → (length s ≡ 9 → ⊥) → None ≡ named_in names s
no_length s a b c d e f =
    none_such
    (λ (l : ℕ). eqb l 2 || eqb l 3 || eqb l 4 || eqb l 6 || eqb l 8 || eqb l 9)
    names
    s
    refl
    (rw (ne_eqb (length s) 2 a, ne_eqb (length s) 3 b, ne_eqb (length s) 4 c, ne_eqb (length s) 6 d, ne_eqb (length s) 8 e, ne_eqb (length s) 9 f))
