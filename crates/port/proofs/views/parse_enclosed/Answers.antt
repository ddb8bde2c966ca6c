-- `parse_enclosed` meets its contract: the text up to the matching bracket, or the empty text, which is no tensor view.
use Rattle.std.proofs.Common.{rules, sym}
use lib.Seq.{length-take-le}
use Rattle.port.proofs.Sights as S
use Rattle.port.proofs.views.parse_enclosed.Goals as goal

pub slice_bounds-parse_tensor-end : goal.slice_bounds-parse_tensor-end
slice_bounds-parse_tensor-end c = sym (length-take-le _ _ (S.opened_within c.scan-r.ensures.inside c.in_ok-n.was))

pub parse_tensor-requires : goal.parse_tensor-requires
parse_tensor-requires c = S.placed_before c.scan-r.ensures c.in_ok-n.was

pub returns-in_err-n : goal.returns-in_err-n
returns-in_err-n c = let a = c.args in S.enclosed_nowhere a.inner.now a.i c.scan-r.ensures c.in_err-n.was (search rules)

pub returns : goal.returns
returns c = let a = c.args in S.enclosed_at a.inner.now a.i c.scan-r.ensures c.in_ok-n.was c.parse_tensor.ensures
