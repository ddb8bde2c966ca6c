-- `opens` meets its contract: the longer prefix that was sighted decides, then the shorter, then what stands behind the tile.
use Rattle.std.proofs.Common.{rules, arith, sym, ap, subst, ◌≡◌, ◌∙◌, drop, length}
use Rattle.std.specs.Prelude.{Option, None, Some, ℕ}
use Rattle.lexis.specs.Text.{bytes}
use Rattle.meaning.specs.Views.{opened}
use Rattle.port.specs.Keys.{AtMost, from}
use Rattle.port.proofs.Placing as L
use Rattle.port.proofs.inner.opens.Goals as goal

pub returns-then-named-inner : goal.returns-then-named-inner
returns-then-named-inner c = let a = c.args in (L.opened_named c.requires.0 (drop a.behind a.inner.now) c.if-named-inner.true, L.fits c.requires.0.named c.if-named-inner.true)

pub returns-then-prefixed-inner : goal.returns-then-prefixed-inner
returns-then-prefixed-inner c = let a = c.args in
    (L.opened_prefixed c.requires.0 (drop a.behind a.inner.now) (search rules) c.if-prefixed-inner.true, L.fits c.requires.0.prefixed c.if-prefixed-inner.true)

pub returns-in_err-plain_from : goal.returns-in_err-plain_from
returns-in_err-plain_from c = let a = c.args in let s = a.inner.now in
    subst (λ (r : Option ℕ). (opened s (drop a.behind s) ≡ from s r) × AtMost (length s) r) {x = None} (search rules)
    (L.opened_none c.requires.0 (drop a.behind s) (search rules) (search rules) (sym c.plain_from.ensures ∙ c.in_err-plain_from.was), tt)

pub overflow_add-result-2 : goal.overflow_add-result-2
overflow_add-result-2 c = let a = c.args in omega (arith, L.fits_behind (bytes "tensor_view<") a.inner.now a.behind _ c.requires.3 (sym c.plain_from.ensures ∙ c.in_ok-plain_from.was))

pub overflow_add-result-3 : goal.overflow_add-result-3
overflow_add-result-3 c = let a = c.args in omega (arith, L.fits_behind (bytes "tensor_view<") a.inner.now a.behind _ c.requires.3 (sym c.plain_from.ensures ∙ c.in_ok-plain_from.was))

pub returns : goal.returns
returns c = let a = c.args in (
  L.opened_plain c.requires.0 (drop a.behind a.inner.now) (search rules) (search rules) _ (sym c.plain_from.ensures ∙ c.in_ok-plain_from.was)
      ∙ ap Some (L.both a.inner.now a.behind _),
  L.fits_behind (bytes "tensor_view<") a.inner.now a.behind _ c.requires.3 (sym c.plain_from.ensures ∙ c.in_ok-plain_from.was),
)
