-- Where the strict reading accepts, the ordinary reading answers the same: the same record, every count zero. So it does where the
-- strict reading refuses a strict form for too long a list.
use Rattle.std.specs.Prelude.{if◌then◌else◌, Option, None, Some}
use Prim.Native.Nat.{ℕ, ◌≤◌}
use mathlib.Core.Bool.{Bool, true, false, not}
use mathlib.Core.Path.{◌≡◌, refl, sym, ap, ◌∙◌}
use lib.Dec.{T, leb, le→leb}
use lib.ListN.{length}
use Rattle.lexis.specs.Text.{Text}
use Rattle.meaning.specs.declared.Reading.{Reading}
use Rattle.meaning.specs.declared.Refusal.TheVariants.{Accepted, TooLong, TooMany}
use Rattle.meaning.specs.Found.{Found, flat, within}
use Rattle.meaning.specs.Ordinary.{high_from, parse, refused, accepted, judged, read_ascii, ordinary}
use Rattle.meaning.specs.Meant.{Any, Strict, fits, flat_any, taken}
use Rattle.meaning.specs.Parts.{each}
use Rattle.grammar.specs.Tests.{is_true}
use Rattle.accord.proofs.Agrees.{Shown, shown, sure, agrees}
use Rattle.grammar.proofs.Printed.{strict_low}

-- a strict text is found to be its meaning, with every count zero
pub strict_found : (s : Text) (a : Any) → Strict s a → each shown (parse s) ≡ Some (sure a)
strict_found s a h = ap (λ (t : Text). each shown (parse t)) h.text ∙ agrees h.form h.fine ∙ ap (λ (b : Any). Some (sure b)) (sym h.says)

-- the answer on what is found, in terms of what is shown of it
abbrev answer : ℕ → Shown → Reading
answer cap x = if fits cap x.type then record { refusal = Accepted; place = 0; value = flat_any cap x.type; note = x.note } else refused cap TooMany 0

answered : (cap : ℕ) (t : Found) → judged cap (Some t) ≡ answer cap (shown t)
unfolding shown fits flat_any within accepted flat
answered cap t = refl

sure_answer : (cap : ℕ) (a : Any) → T (fits cap a) → answer cap (sure a) ≡ taken cap a
unfolding taken
sure_answer cap a h = ap (λ (b : Bool). if b then taken cap a else refused cap TooMany 0) (is_true (fits cap a) h)

settled : (cap : ℕ) (a : Any) (o : Option Found) → each shown o ≡ Some (sure a) → judged cap o ≡ answer cap (sure a)
settled cap a None e = cc
settled cap a (Some t) e = answered cap t ∙ ap (answer cap) (cc e)

module _ (cap size : ℕ) (s : Text) (a : Any) (h : Strict s a) (k : length s ≤ size) where
  whole : ordinary cap size s ≡ answer cap (sure a)
  unfolding ordinary
  whole =
      ap (λ (b : Bool). if b then read_ascii cap s (high_from 0 s) else refused cap TooLong 0) (is_true (leb (length s) size) (le→leb (length s) size k))
      ∙ ap (read_ascii cap s) (strict_low s a h)
      ∙ settled cap a (parse s) (strict_found s a h)

  pub accord : T (fits cap a) → ordinary cap size s ≡ taken cap a
  accord f = whole ∙ sure_answer cap a f

  -- a strict form with too long a list is refused alike
  pub accord_many : T (not (fits cap a)) → ordinary cap size s ≡ refused cap TooMany 0
  accord_many f = whole ∙ by (fits cap a) f
    where
      by : (b : Bool) → T (not b) → (if b then record { refusal = Accepted; place = 0; value = flat_any cap a; note = (sure a).note } else refused cap TooMany 0) ≡ refused cap TooMany 0
      by true f = absurd f
      by false f = refl
