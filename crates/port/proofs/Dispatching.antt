-- Laws of the dispatch: the forms that were passed over, the form that applies and decides, a bare name at last; and both
-- spellings of a form read as one, `!cuda_tile.` taken off.
use Rattle.std.specs.Prelude.{if◌then◌else◌, Option, None, Some}
use mathlib.Core.Bool.{Bool, true, false, ◌&&◌, ◌||◌, false≢true}
use mathlib.Core.List.{List, [], ◌∷◌, ◌++◌}
use mathlib.Core.Path.{◌≡◌, refl, subst, sym, ap, ◌∙◌}
use lib.Dec.{eqb}
use borrow.Author.Tests.{eqb-true}
use lib.ListN.{length, drop}
use Rattle.lexis.specs.Text.{Text, bytes, same, begins}
use Rattle.scalars.specs.Names.{scalar_name}
use Rattle.scalars.specs.declared.scalar.Scalar.{Scalar}
use Rattle.scalars.specs.declared.scalar.Scalar.TheVariants.{I1}
use Rattle.meaning.specs.Found.{Found, plain, token}
use Rattle.meaning.specs.Parts.{each, bracketed}
use Rattle.meaning.specs.Ordinary.{Form, by_forms, forms, unmarked}
use Rattle.meaning.specs.declared.Kind.{Kind}
use Rattle.meaning.specs.declared.Kind.TheVariants as K
use Rattle.meaning.specs.declared.Reading.{Reading}
use Rattle.port.specs.Carried.{carried, answered, Told}
use Rattle.port.specs.Forms.{shorthand, unprefixed, bare, first_of}
use Rattle.port.specs.declared.brackets.Content.{Content}
use Rattle.port.specs.Keys.{Placed}
use Rattle.lexis.proofs.Seeking.{turned}

-- ── a name ──

module _ (b : Bool) {x : Reading} {o : Option Scalar} (s : Text) (g : scalar_name s ≡ o) where
  pub told : (k : Kind) → x ≡ answered b (each (carried 8) (each (plain k) o)) → x ≡ answered b (each (carried 8) (each (plain k) (scalar_name s)))
  told k e = e ∙ ap (λ (o : Option Scalar). answered b (each (carried 8) (each (plain k) o))) (sym g)

-- ── the forms in order ──

-- the places in the content of the form that applies
pub placed : {p s : Text} {r : Option Content} {c : Content} → Told p s r → r ≡ Some c → Placed c.inner.now c.places
placed e h = (rw h at e.is).1

-- no form before fs applies
pub record Tried (all : List Form) (d : Option Found) (t : Text) (fs : List Form) : Type 0 where
  pub same : first_of all t d ≡ first_of fs t d

pub untried : (all : List Form) (d : Option Found) (t : Text) → Tried all d t all
untried all d t = record { same = refl }

module _ {all : List Form} {d : Option Found} {t : Text} {f : Form} {fs : List Form} (g : Tried all d t (f ∷ fs)) where
  next : (o : Option Text) → bracketed (bytes f.opens) t ≡ o → first_of all t d ≡ elim o [ Some u ↦ f.content u | None ↦ first_of fs t d ]
  next o e = g.same ∙ ap (λ (o : Option Text). elim o [ Some u ↦ f.content u | None ↦ first_of fs t d ]) e

  module _ {r : Option Content} (e : Told (bytes f.opens) t r) where
    pub past : r ≡ None → Tried all d t fs
    past h = record { same = next None (rw h at e.is) }

    pub decides : (b : Bool) {x : Reading} {c : Content} → r ≡ Some c → x ≡ answered b (each (carried 8) (f.content c.inner.now))
        → x ≡ answered b (each (carried 8) (first_of all t d))
    decides b {c = c} h q = q ∙ sym (ap (λ (o : Option Found). answered b (each (carried 8) o)) (next (Some c.inner.now) (rw h at e.is).0))

module _ {all fs : List Form} {d : Option Found} {t : Text} {x : Reading} (b : Bool) where
  pub at_last : Tried all d t fs → x ≡ answered b (each (carried 8) (first_of fs t d)) → x ≡ answered b (each (carried 8) (first_of all t d))
  at_last g q = q ∙ sym (ap (λ (o : Option Found). answered b (each (carried 8) o)) g.same)

-- ── both spellings ──

-- what is read of t, which is s without the prefix
abbrev named : Text → Text → Option Found
named s t = if same t (bytes "token") then Some token else first_of shorthand t (bare s)

-- the prefix is there: each prefixed form says of s what its shorthand says of the rest, and no shorthand form applies
long : (t : Text) → unmarked (bytes "!cuda_tile." ++ t) ≡ named (bytes "!cuda_tile." ++ t) t
unfolding unmarked forms shorthand
long t = by (same t (bytes "token"))
  where
    s : Text
    s = bytes "!cuda_tile." ++ t

    by : (d : Bool) → (if d || false then Some token else by_forms forms s) ≡ (if d then Some token else first_of shorthand t (bare s))
    by true = refl
    by false = refl

unlike : (p q s : Text) → begins p s ≡ false → begins (p ++ q) s ≡ false
unlike [] q s e = absurd (false≢true (sym e))
unlike (c ∷ p) q [] e = refl
unlike (c ∷ p) q (b ∷ s) e = by (eqb c b) (unlike p q s) e
  where
    by : (d : Bool) → (begins p s ≡ false → begins (p ++ q) s ≡ false) → d && begins p s ≡ false → d && begins (p ++ q) s ≡ false
    by true f e = f e
    by false f e = refl

different : (p q s : Text) → begins p s ≡ false → same s (p ++ q) ≡ false
different [] q s e = absurd (false≢true (sym e))
different (c ∷ p) q [] e = refl
different (c ∷ p) q (b ∷ s) e = ap (λ (d : Bool). d && same s (p ++ q)) (turned b c) ∙ by (eqb c b) (different p q s) e
  where
    by : (d : Bool) → (begins p s ≡ false → same s (p ++ q) ≡ false) → d && begins p s ≡ false → d && same s (p ++ q) ≡ false
    by true f e = f e
    by false f e = refl

short : (s : Text) → begins (bytes "!cuda_tile.") s ≡ false → unmarked s ≡ named s s
unfolding unmarked forms shorthand
short s e = rw (
  different (bytes "!cuda_tile.") (bytes "token") s e,
  unlike (bytes "!cuda_tile.") (bytes "tile<") s e,
  unlike (bytes "!cuda_tile.") (bytes "tensor_view<") s e,
  unlike (bytes "!cuda_tile.") (bytes "partition_view<") s e,
  unlike (bytes "!cuda_tile.") (bytes "gather_scatter_view<") s e,
  unlike (bytes "!cuda_tile.") (bytes "strided_view<") s e,
  unlike (bytes "!cuda_tile.") (bytes "ptr<") s e,
)

fronted : (p s : Text) → begins p s ≡ true → p ++ drop (length p) s ≡ s
fronted [] s e = refl
fronted (c ∷ p) [] e = absurd (false≢true e)
fronted (c ∷ p) (b ∷ s) e = by (eqb c b) refl (fronted p s) e
  where
    by : (d : Bool) → eqb c b ≡ d → (begins p s ≡ true → p ++ drop (length p) s ≡ s) → d && begins p s ≡ true → c ∷ p ++ drop (length p) s ≡ b ∷ s
    by true h f e = let g = f e in let k = eqb-true c b h in λ i. k i ∷ g i
    by false h f e = absurd (false≢true e)

spelled : (s : Text) → unmarked s ≡ named s (unprefixed s)
spelled s = by (begins (bytes "!cuda_tile.") s) refl
  where
    by : (d : Bool) → begins (bytes "!cuda_tile.") s ≡ d → unmarked s ≡ named s (if d then drop 11 s else s)
    by true e = subst (λ (z : Text). unmarked z ≡ named z (drop 11 s)) (fronted (bytes "!cuda_tile.") s e) (long (drop 11 s))
    by false e = short s e

module _ (s : Text) where
  pub is_token : same (unprefixed s) (bytes "token") ≡ true → Some (carried 8 (plain K.Token I1)) ≡ each (carried 8) (unmarked s)
  unfolding token
  is_token e = sym (ap (each (carried 8)) (spelled s ∙ ap (λ (d : Bool). if d then Some token else first_of shorthand (unprefixed s) (bare s)) e))

  pub no_token : same (unprefixed s) (bytes "token") ≡ false → first_of shorthand (unprefixed s) (bare s) ≡ unmarked s
  no_token e = sym (spelled s ∙ ap (λ (d : Bool). if d then Some token else first_of shorthand (unprefixed s) (bare s)) e)
