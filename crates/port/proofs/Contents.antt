-- The content by the scan: up to the match, or up to a final `>`.
use Prim.Native.Nat.{ℕ, ◌-◌, ◌≤◌, ◌<◌}
use native.Mathlib.Omega.{arith}
use mathlib.Core.Bool.{true, false}
use Rattle.std.specs.Prelude.{Option, None, Some}
use mathlib.Core.Path.{◌≡◌, sym, ap, subst, ◌∙◌}
use lib.ListN.{length, take, drop, get_or}
use Rattle.lexis.specs.Text.{Text, begins}
use Rattle.meaning.specs.Parts.{each, less_final, content, bracketed}
use Rattle.port.specs.Keys.{Placed, AtMost, before, Scanned, Contained}
use Rattle.port.specs.Carried.{Told}
use Rattle.port.specs.declared.brackets.Content.{Content}
use Rattle.port.specs.declared.keys.Places.{Places}
use Rattle.port.specs.declared.survey.Scanning.{Scanning}
use Rattle.port.proofs.Placing as U
use Rattle.port.proofs.Bracketing.{final_none, final_some, final_other, matched, unmatched, foreign, opening, content_is, bracketed_none}

-- ── by the scan ──

module _ {s : Text} {r : Scanning} (g : Scanned s r) where
  pub by_match : {n : ℕ} → r.end ≡ Some n → Contained s r
  by_match {n} h = record { end = h ∙ sym (matched s n (sym g.end ∙ h)); inside = g.inside; places = g.places }

  module _ (h : r.end ≡ None) where
    open_ended : each length (content s) ≡ each length (less_final s)
    open_ended = unmatched s (sym g.end ∙ h)

    nowhere_to : each length (less_final s) ≡ None → Contained s r
    nowhere_to e = record { end = h ∙ sym (open_ended ∙ e); inside = g.inside; places = g.places }

    pub by_nothing : length s ≡ 0 → Contained s r
    by_nothing z = nowhere_to (final_none s z)

    pub by_other : 0 < length s → (get_or s (length s - 1) 0 ≡ 62 → ⊥) → Contained s r
    by_other z f = nowhere_to (final_other s z f)

    pub by_final : 0 < length s → get_or s (length s - 1) 0 ≡ 62 → Contained s (record { end = Some (length s - 1); places = r.places })
    by_final z e = record {
      end = sym (open_ended ∙ final_some s z e);
      inside = omega arith;
      places = U.dropped (subst (λ (o : Option ℕ). Placed (before s o) r.places) h g.places) z e;
    }

-- ── a form that opens with p ──

module _ (p s : Text) where
  pub foreign_form : begins p s ≡ false → Told p s None
  foreign_form e = record { is = bracketed_none p s (foreign p s e) }

  abbrev behind : Text
  behind = take (length s - length p) (drop (length p) s)

  module _ (e : begins p s ≡ true) {r : Scanning} (g : Contained behind r) where
    long : r.end ≡ each length (bracketed p s)
    long = g.end ∙ sym (opening p s e)

    pub scanned_form : {c : Content} {n : ℕ} → r.end ≡ Some n → c.inner.now ≡ take n behind → c.places ≡ r.places → Told p s (Some c)
    scanned_form {c} {n} h i k =
        let w : Placed (take n behind) r.places = subst (λ (o : Option ℕ). Placed (before behind o) r.places) h g.places in
        let v : Placed (take n behind) c.places = subst (λ (q : Places). Placed (take n behind) q) (sym k) w in
        record { is = (content_is p s n (sym long ∙ h) ∙ ap Some (sym i), subst (λ (t : Text). Placed t c.places) (sym i) v) }

    pub scanned_within : {n : ℕ} → r.end ≡ Some n → n ≤ length behind
    scanned_within h = subst (AtMost (length behind)) h g.inside

    pub unscanned_form : r.end ≡ None → {f : Option Content} → f ≡ None → Told p s f
    unscanned_form h f = rw f (record { is = bracketed_none p s (sym long ∙ h) })
