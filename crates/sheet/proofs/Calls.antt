-- Any sequence of calls that keep their contracts: `new`, then `next` until it finds no row, and `row` for each that it found.
-- What they hold is exactly the sheet's rows, in order; of a sheet over the limit, none.
use Prim.Native.Nat.{ℕ}
use Rattle.std.specs.Prelude.{Some, None}
use mathlib.Core.List.{List, [], ◌∷◌}
use mathlib.Core.Path.{◌≡◌, sym, ap, ◌∙◌}
use denote.Ref.{Bor}
use Rattle.lexis.specs.Text.{Text}
use Rattle.sheet.specs.declared.Cut.{Cut}
use Rattle.sheet.specs.declared.walker.Walker.{Walker}
use Rattle.sheet.specs.Sheet.{yielded, bytes_of, Nexts}
use Rattle.sheet.proofs.Cutting.{left, found, ended}
use Rattle.sheet.proofs.Unique.{Begins, Holds}

-- a call of `next` that finds a row, the call of `row` for it, and what comes after
pub record Turn (w : Walker) (text : Text) (Rest : Walker → Type 0) : Type 0 where
  pub at : Cut
  pub onto : Walker
  pub nexts : Nexts 65536 w (Some at) onto
  pub row : Bor (List ℕ)
  pub holds : Holds onto at row
  pub text_is : row.now ≡ text
  pub onward : Rest onto

-- the last call of `next`
pub record Last (w : Walker) : Type 0 where
  pub onto : Walker
  pub nexts : Nexts 65536 w None onto

abbrev pub Yields : Walker → List Text → Type 0
Yields w [] = Last w
Yields w (r ∷ rs) = Turn w r (λ v. Yields v rs)

through : (w : Walker) (rs : List Text) → Yields w rs → rs ≡ left 65536 w.sheet.now w.place
through w [] t = sym (ended 65536 w.sheet.now w.place t.nexts.0)
through w (r ∷ rs) t =
    let s = w.sheet.now in
    let f = found 65536 s w.place t.at t.nexts.0 in
    let p : r ≡ bytes_of t.at s = sym t.text_is ∙ t.holds ∙ ap (λ (x : Bor (List ℕ)). bytes_of t.at x.now) t.nexts.1.0 in
    let q : rs ≡ left 65536 s t.at.next = through t.onto rs t.onward ∙ (λ i. left 65536 (t.nexts.1.0 i).now (t.nexts.1.1 i)) in
    (λ i. p i ∷ q i) ∙ sym f.same

pub whole_walk : (s : Bor (List ℕ)) (w : Walker) (rs : List Text) → Begins s w → Yields w rs → rs ≡ yielded 65536 s.now
whole_walk s w rs b t = through w rs t ∙ (λ i. left 65536 (b.0 i).now (b.1 i))
