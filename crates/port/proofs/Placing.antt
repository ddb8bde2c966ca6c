-- What the sighted places say of a content c, for callers; and of a content that ends at a final `>`, one byte before the text.
use Rattle.std.specs.Prelude.{if◌then◌else◌, None, Some}
use Prim.Native.Nat.{ℕ, zero, suc, ◌+◌, ◌-◌, ◌≤◌, ◌<◌}
use native.Mathlib.Omega.{arith}
use mathlib.Core.Bool.{Bool, true, false}
use mathlib.Core.List.{[], ◌∷◌}
use mathlib.Core.Path.{◌≡◌, refl, sym, ap, subst, ◌∙◌}
use lib.Dec.{eqb}
use lib.ListN.{length, take, drop, get_or, length-take, length-drop, drop_of_length-le}
use lib.Seq.{get_or-drop, drop-drop, length-take-le}
use Rattle.lexis.specs.Text.{Text, bytes, begins, after, Cut, nowhere, at, later, cut, place, some_of}
use Rattle.lexis.proofs.Seeking.{cut_at, cut_nowhere, cut_within}
use Rattle.meaning.specs.Views.{opened}
use Rattle.port.specs.Seen.{seen}
use Rattle.port.specs.Keys.{Spot, Later, Placed}
use Rattle.port.specs.declared.keys.Places.{Places}
use Rattle.port.proofs.Seeing as S
use Rattle.port.proofs.Sighting as L
use Rattle.port.proofs.Behinding.{split, take_drop}

-- ── a number that is a place, and one that is none ──

module _ {p c : Text} {n : ℕ} (g : Spot p c n) where
  pub placed_at : n < length c → place (cut p c) ≡ Some n
  placed_at h = sym g.is ∙ L.told_some (length c) n h

  pub placed : n < length c → cut p c ≡ at (take n c) (drop (n + length p) c)
  placed h = cut_at p c n (placed_at h)

  pub fits : n < length c → n + length p ≤ length c
  fits h = cut_within p c n (placed_at h)

  pub unplaced_at : length c ≤ n → place (cut p c) ≡ None
  unplaced_at h = sym g.is ∙ L.told_none (length c) n h

  pub unplaced : length c ≤ n → cut p c ≡ nowhere
  unplaced h = cut_nowhere p c (unplaced_at h)

-- ── a later start ──

-- what is first, and stands no earlier than y, is first from y on
pub later_start : (p u : Text) (y x : ℕ) → place (cut p u) ≡ Some x → y ≤ x → place (cut p (drop y u)) ≡ Some (x - y)
later_start p u zero x e h = e ∙ ap Some (omega arith)
later_start p [] (suc y) x e h = by (begins p []) e
  where
    by : (d : Bool) → place (if d then at [] [] else nowhere) ≡ Some x → place (if d then at [] [] else nowhere) ≡ Some (x - suc y)
    by true e = let k : 0 ≡ x = cc in let f : ⊥ = omega arith in absurd f
    by false e = let z : ◌≡◌ {A = ℕ} 0 1 = cc in let f : ⊥ = omega arith in absurd f
later_start p (b ∷ u) (suc y) x e h = by (begins p (b ∷ u)) e (later_start p u y (x - 1))
  where
    inner : (c : Cut) → place (later b c) ≡ Some x → place c ≡ Some (x - 1)
    inner nowhere e = let z : ◌≡◌ {A = ℕ} 0 1 = cc in let f : ⊥ = omega arith in absurd f
    inner (at v t) e = let n : suc (length v) ≡ x = cc in ap Some (omega arith)

    by : (d : Bool) → place (if d then at [] (after p (b ∷ u)) else later b (cut p u)) ≡ Some x
        → (place (cut p u) ≡ Some (x - 1) → y ≤ x - 1 → place (cut p (drop y u)) ≡ Some (x - 1 - y)) → place (cut p (drop y u)) ≡ Some (x - suc y)
    by true e f = let k : 0 ≡ x = cc in let f : ⊥ = omega arith in absurd f
    by false e f = f (inner (cut p u) e) (omega arith) ∙ ap Some (omega arith)

-- what is nowhere is nowhere from y on
pub never_later : (p u : Text) (y : ℕ) → place (cut p u) ≡ None → place (cut p (drop y u)) ≡ None
never_later p u zero e = e
never_later p [] (suc y) e = e
never_later p (b ∷ u) (suc y) e = by (begins p (b ∷ u)) e (never_later p u y)
  where
    inner : (c : Cut) → place (later b c) ≡ None → place c ≡ None
    inner nowhere e = refl
    inner (at v t) e = let z : ◌≡◌ {A = ℕ} 0 1 = cc in let f : ⊥ = omega arith in absurd f

    by : (d : Bool) → place (if d then at [] (after p (b ∷ u)) else later b (cut p u)) ≡ None → (place (cut p u) ≡ None → place (cut p (drop y u)) ≡ None) → place (cut p (drop y u)) ≡ None
    by true e f = let z : ◌≡◌ {A = ℕ} 0 1 = cc in let f : ⊥ = omega arith in absurd f
    by false e f = f (inner (cut p u) e)

-- ── `tensor_view<` behind the tile: t is the place of `tile=(`, y any place behind it, as that behind its `)` ──

abbrev view : Text
view = bytes "tensor_view<"

module _ {c : Text} {t n : ℕ} (g : Later c t n) (h : t < length c) (y : ℕ) (k : t + 6 ≤ y) where
  from_y : place (cut view (drop y c)) ≡ place (cut view (drop (y - (t + 6)) (drop (t + 6) c)))
  from_y = let z : t + 6 + (y - (t + 6)) ≡ y = omega arith in
      sym (ap (λ (u : Text). place (cut view u)) (drop-drop (y - (t + 6)) (t + 6) c ∙ ap (λ (j : ℕ). drop j c) z))

  pub none_behind : length c - (t + 6) ≤ n → place (cut view (drop y c)) ≡ None
  none_behind f = let l = length-drop (t + 6) c in
      from_y ∙ never_later view (drop (t + 6) c) (y - (t + 6)) (unplaced_at (g.past h) (omega arith))

  pub first_behind : n < length c - (t + 6) → y ≤ t + 6 + n → place (cut view (drop y c)) ≡ Some (t + 6 + n - y)
  first_behind f m = let l = length-drop (t + 6) c in
      from_y ∙ later_start view (drop (t + 6) c) (y - (t + 6)) n (placed_at (g.past h) (omega arith)) (omega arith) ∙ ap Some (omega arith)

-- ── where the inner tensor view opens ──

module _ {c : Text} {r : Places} (g : Placed c r) (b : Text) where
  pub opened_named : r.named < length c → opened c b ≡ Some (drop (r.named + 35) c)
  unfolding opened
  opened_named h = rw (placed g.named h)

  module _ (n : length c ≤ r.named) where
    pub opened_prefixed : r.prefixed < length c → opened c b ≡ Some (drop (r.prefixed + 23) c)
    unfolding opened
    opened_prefixed h = rw (unplaced g.named n, placed g.prefixed h)

    module _ (m : length c ≤ r.prefixed) where
      pub opened_plain : (k : ℕ) → place (cut view b) ≡ Some k → opened c b ≡ Some (drop (k + 12) b)
      unfolding opened
      opened_plain k f = rw (unplaced g.named n, unplaced g.prefixed m, cut_at view b k f)

      pub opened_none : place (cut view b) ≡ None → opened c b ≡ None
      unfolding opened
      opened_none f = rw (unplaced g.named n, unplaced g.prefixed m, cut_nowhere view b f)

pub fits_behind : (p c : Text) (y n : ℕ) → y ≤ length c → place (cut p (drop y c)) ≡ Some n → y + n + length p ≤ length c
fits_behind p c y n h f = let a = cut_within p (drop y c) n f in let d = length-drop y c in omega arith

-- n bytes behind y, and its prefix
pub both : (c : Text) (y n : ℕ) → drop (n + 12) (drop y c) ≡ drop (y + n + 12) c
both c y n = drop-drop (n + 12) y c ∙ ap (λ (k : ℕ). drop k c) {x = y + (n + 12)} {y = y + n + 12} (omega arith)

-- ── a content that ends at a final `>`, with no match ──

less_one : {p s : Text} {n : ℕ} → Spot p s n → 0 < length p → some_of (eqb 62) p ≡ false → 0 < length s → get_or s (length s - 1) 0 ≡ 62 → Spot p (take (length s - 1) s) n
less_one {p} {s} {n} g l f h e =
    let z : length s ≡ length s - 1 + 1 = omega arith in
    record {
      is = L.narrow (length s) n p (take (length s - 1) s)
          (g.is ∙ sym (S.whole p s (length s) (omega arith)) ∙ ap (λ (k : ℕ). seen p k s) z ∙ S.fenced 62 p s (length s - 1) 1 f e (omega arith))
          l (let t = length-take (length s - 1) s in omega arith);
    }

later_one : {s : Text} {t n : ℕ} → Later s t n → 0 < length s → get_or s (length s - 1) 0 ≡ 62 → Later (take (length s - 1) s) t n
later_one {s} {t} {n} g h e = record {
  past = λ k.
      let l = length-take-le (length s - 1) s (omega arith) in let d = length-drop (t + 6) s in
      split (t + 6) (length s)
      (λ f.
      let z : t + 6 + (length (drop (t + 6) s) - 1) ≡ length s - 1 = omega arith in
      let y : length (drop (t + 6) s) - 1 ≡ length s - 1 - (t + 6) = omega arith in
      subst (λ (u : Text). Spot view u n) (ap (λ (j : ℕ). take j (drop (t + 6) s)) y ∙ take_drop s (t + 6) (length s - 1))
      (less_one (g.past (omega arith)) (omega arith) refl (omega arith)
      (get_or-drop (t + 6) s (length (drop (t + 6) s) - 1) 0 ∙ ap (λ (j : ℕ). get_or s j 0) z ∙ e)))
      (λ f. subst (λ (u : Text). Spot view u n) (drop_of_length-le s f ∙ sym (drop_of_length-le (take (length s - 1) s) {i = t + 6} (omega arith))) (g.past (omega arith)));
}

pub dropped : {s : Text} {r : Places} → Placed s r → 0 < length s → get_or s (length s - 1) 0 ≡ 62 → Placed (take (length s - 1) s) r
dropped g h e = record {
  ptr = less_one g.ptr (omega arith) refl h e;
  spaced = less_one g.spaced (omega arith) refl h e;
  bare = less_one g.bare (omega arith) refl h e;
  tile = less_one g.tile (omega arith) refl h e;
  map = less_one g.map (omega arith) refl h e;
  traversal = less_one g.traversal (omega arith) refl h e;
  sparse = less_one g.sparse (omega arith) refl h e;
  named = less_one g.named (omega arith) refl h e;
  prefixed = less_one g.prefixed (omega arith) refl h e;
  padding = less_one g.padding (omega arith) refl h e;
  plain = later_one g.plain h e;
}
