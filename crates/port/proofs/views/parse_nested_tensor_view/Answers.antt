-- `parse_nested_tensor_view` meets its contract: where it opens, what is enclosed is read.
use Rattle.std.proofs.Common.{rules, drop}
use Rattle.port.proofs.Sights as S
use Rattle.port.proofs.views.parse_nested_tensor_view.Goals as goal

pub parse_enclosed-requires : goal.parse_enclosed-requires
parse_enclosed-requires c = S.opened_within c.opens.ensures.1 c.in_ok-opens.was

pub returns-in_err-opens : goal.returns-in_err-opens
returns-in_err-opens c = let a = c.args in
    S.opened_nowhere a.inner.now (drop a.behind a.inner.now) c.opens.ensures.0 c.in_err-opens.was (search rules)

pub returns : goal.returns
returns c = let a = c.args in
    S.opened_at a.inner.now (drop a.behind a.inner.now) c.opens.ensures.0 c.in_ok-opens.was c.parse_enclosed.ensures
