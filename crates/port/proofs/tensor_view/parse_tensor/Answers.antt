-- `parse_tensor` meets its contract: a cut at the first `, strides=`, else at the first `,strides=`.
use borrow.Author.Rules.{rules}
use Rattle.port.proofs.Cutting as L
use Rattle.port.proofs.Placing as P
use Rattle.port.proofs.tensor_view.parse_tensor.Goals as goal

pub around-requires : goal.around-requires
around-requires c = P.fits c.requires.spaced c.if-i-inner.true

pub returns-then-i-inner : goal.returns-then-i-inner
returns-then-i-inner c = let s = c.args.inner.now in
    L.strides_first s (P.placed c.requires.spaced c.if-i-inner.true) c.around.ensures

pub around-requires-then-j-inner : goal.around-requires-then-j-inner
around-requires-then-j-inner c = P.fits c.requires.bare c.if-j-inner.true

pub returns-then-j-inner : goal.returns-then-j-inner
returns-then-j-inner c = let s = c.args.inner.now in
    L.strides_second s (P.unplaced c.requires.spaced (search rules)) (P.placed c.requires.bare c.if-j-inner.true) c.around-then-j-inner.ensures

pub returns : goal.returns
returns c = let s = c.args.inner.now in
    L.strides_nowhere s (P.unplaced c.requires.spaced (search rules)) (P.unplaced c.requires.bare (search rules)) c.tensor_parts.ensures
