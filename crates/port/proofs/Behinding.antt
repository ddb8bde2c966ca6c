-- Laws of the keyword that is sought behind another: `tensor_view<` in what follows `tile=(`.
use Prim.Native.Nat.{ℕ, zero, suc, ◌+◌, ◌-◌, ◌≤◌, ◌<◌}
use native.Mathlib.Omega.{arith}
use mathlib.Core.Bool.{Bool, true, false}
use mathlib.Core.List.{[], ◌∷◌}
use Rattle.std.specs.Prelude.{Some}
use mathlib.Core.Path.{◌≡◌, refl, sym, ap, subst, ◌∙◌}
use borrow.Author.Tests.{ltb-true, ltb-false, eqb-false}
use lib.Dec.{ltb, eqb}
use lib.ListN.{length, take, drop, get_or, length-drop}
use lib.Seq.{get_or-drop, length-take-le}
use Rattle.lexis.specs.Text.{Text, bytes, cut, place}
use Rattle.lexis.proofs.Lists.{rest}
use Rattle.port.specs.Seen.{seen, Sight}
use Rattle.port.specs.Keys.{Behind, Later}
use Rattle.port.proofs.Seeing as S
use Rattle.port.proofs.Sighting as L

-- below or not
pub split : {A : Type 0} (a b : ℕ) → (a < b → A) → (b ≤ a → A) → A
split {A} a b f g = by (ltb a b) refl
  where
    by : (d : Bool) → ltb a b ≡ d → A
    by true e = f (ltb-true a b e)
    by false e = g (ltb-false a b e)

pub unlike : {b x y : ℕ} → b ≡ x → eqb x y ≡ false → b ≡ y → ⊥
unlike {b} {x} {y} e f g = eqb-false x y f (sym e ∙ g)

-- a number that is no place in s is none in what follows
none_in : (s : Text) (b i n : ℕ) → length s ≤ n → i ≤ b → Sight (bytes "tensor_view<") 0 (drop b s) (i - b) n
none_in s b i n h k =
    let l = length-drop b s in
    let z : 0 ≡ i - b = omega arith in
    record { is = L.told_none (length (drop b s)) n (omega arith) ∙ ap (λ (j : ℕ). seen (bytes "tensor_view<") (j + 0) (drop b s)) z }

pub unopened : (s : Text) → Behind s 0 (length s) (length s)
unopened s = record { past = λ h. let f : ⊥ = omega arith in absurd f; shut = λ h. refl }

module _ {s : Text} {i t n : ℕ} (g : Behind s i t n) where
  pub absent : length s ≤ t → Behind s (i + 1) t n
  absent h = record { past = λ k. let f : ⊥ = omega arith in absurd f; shut = g.shut }

  -- not yet behind
  pub before : i < t + 6 → Behind s (i + 1) t n
  before h =
      let z : i - (t + 6) ≡ i + 1 - (t + 6) = omega arith in
      record { past = λ k. subst (λ (j : ℕ). Sight (bytes "tensor_view<") 0 (drop (t + 6) s) j n) z (g.past k); shut = g.shut }

  -- sighted
  pub handed : t < length s → Sight (bytes "tensor_view<") 0 (take (length s - (t + 6)) (drop (t + 6) s)) (i - (t + 6)) n
  handed h = rw (rest s (t + 6)) (g.past h)

  pub handed_in : i < length s → t + 6 ≤ i → i - (t + 6) < length (take (length s - (t + 6)) (drop (t + 6) s))
  handed_in h k = rw (rest s (t + 6)) (let l = length-drop (t + 6) s in omega arith)

  pub opens : t < length s → t + 6 ≤ i → {q : ℕ} → Sight (bytes "tensor_view<") 0 (take (length s - (t + 6)) (drop (t + 6) s)) (i - (t + 6) + 1) q → Behind s (i + 1) t q
  opens h k {q} e =
      let z : i - (t + 6) + 1 ≡ i + 1 - (t + 6) = omega arith in
      record {
        past = λ k. subst (λ (j : ℕ). Sight (bytes "tensor_view<") 0 (drop (t + 6) s) j q) z (rw (rest s (t + 6)) at e);
        shut = λ k. let f : ⊥ = omega arith in absurd f;
      }

  pub beside : (get_or s i 0 ≡ 60 → ⊥) → Behind s (i + 1) t n
  beside f = split i (t + 6) before (λ h.
      let z : i - (t + 6) + 1 ≡ i + 1 - (t + 6) = omega arith in
      let y : t + 6 + (i - (t + 6)) ≡ i = omega arith in
      record {
        past = λ k. subst (λ (j : ℕ). Sight (bytes "tensor_view<") 0 (drop (t + 6) s) j n) z
            (L.other (g.past k) refl (λ e. f (sym (get_or-drop (t + 6) s (i - (t + 6)) 0 ∙ ap (λ (j : ℕ). get_or s j 0) y) ∙ e)));
        shut = g.shut;
      })

  -- the first `tile=(` is sighted, or none
  pub tiled : {u : ℕ} → Sight (bytes "tile=(") 1 s i t → Sight (bytes "tile=(") 1 s (i + 1) u → (get_or s i 0 ≡ 60 → ⊥) → Behind s (i + 1) u n
  tiled {u} a b f = split t (length s)
      (λ h.
      let e = S.stays (bytes "tile=(") s 4 1 refl i t (sym a.is ∙ L.told_some (length s) t h) in
      let x = L.told_is (length s) u (b.is ∙ e) in
      subst (λ (j : ℕ). Behind s (i + 1) j n) (sym x) (beside f))
      (λ h. record {
        past = λ k.
            let v : seen (bytes "tile=(") (suc (i + 1)) s ≡ Some u = ap (λ (j : ℕ). seen (bytes "tile=(") j s) {x = suc (i + 1)} {y = i + 1 + 1} (omega arith) ∙ sym b.is ∙ L.told_some (length s) u k in
            let w = S.fresh (bytes "tile=(") s (i + 1) u (omega arith) (sym a.is ∙ L.told_none (length s) t h) v in
            let z = g.shut h in
            let y : i + 1 ≤ u + 6 = omega arith in
            none_in s (u + 6) (i + 1) n (omega arith) y;
        shut = λ k. g.shut h;
      })

-- ── in the content ──

take-nil : (n : ℕ) → take {A = ℕ} n [] ≡ []
take-nil zero = refl
take-nil (suc n) = refl

-- a part of the first e bytes
pub take_drop : (s : Text) (b e : ℕ) → take (e - b) (drop b s) ≡ drop b (take e s)
take_drop s zero e = ap (λ (n : ℕ). take n s) {x = e - 0} {y = e} (omega arith)
take_drop [] (suc b) zero = take-nil (0 - suc b)
take_drop [] (suc b) (suc e) = take-nil (suc e - suc b)
take_drop (x ∷ s) (suc b) zero = ap (λ (n : ℕ). take n (drop b s)) {x = 0 - suc b} {y = 0} (omega arith)
take_drop (x ∷ s) (suc b) (suc e) = ap (λ (n : ℕ). take n (drop b s)) {x = suc e - suc b} {y = e - b} (omega arith) ∙ take_drop s b e

pub later : {s : Text} {e t n : ℕ} → Behind s e t n → e ≤ length s → Later (take e s) t n
later {s} {e} {t} {n} g h = record {
  past = λ k.
      let l = length-take-le e s h in let d = length-drop (t + 6) s in let f = length-drop (t + 6) (take e s) in
      record {
        is = L.narrow (length (drop (t + 6) s)) n (bytes "tensor_view<") (drop (t + 6) (take e s))
            ((g.past (omega arith)).is ∙ ap (λ (k : ℕ). seen (bytes "tensor_view<") k (drop (t + 6) s)) {x = e - (t + 6) + 0} {y = e - (t + 6)} (omega arith)
            ∙ ap (λ (u : Text). place (cut (bytes "tensor_view<") u)) (take_drop s (t + 6) e)) (omega arith) (omega arith);
      };
}
