-- The room is enough for what is left, so for the next entry and its `x`.
use Rattle.std.proofs.Common.{◌≡◌, pos, to_z, of_z, w64, length, get_or, ap, arith, rules, length-append, append_assoc}
use Rattle.writer.specs.Flat.{before_x, shaped}
use Rattle.writer.proofs.Entries.{next_fits, next_put}
use Rattle.writer.proofs.put.Draft.put_shape.Goals as goal

pub put-requires : goal.put-requires
unfolding shaped
put-requires c =
    let z : to_z w64 (of_z w64 (get_or c.shape-z-items.result.now c.loop-z.z-index (pos 0))) ≡ get_or c.shape-z-items.result.now c.loop-z.z-index (pos 0) = search rules in
    let n = next_fits before_x _ _ (pos 0) c.loop-z-test.true _ _ _ _ c.loop-z.invariant c.requires in
    rw z (omega (arith, simp length-append at n))

pub put_byte-requires : goal.put_byte-requires
unfolding shaped
put_byte-requires c =
    let z : to_z w64 (of_z w64 (get_or c.shape-z-items.result.now c.loop-z.z-index (pos 0))) ≡ get_or c.shape-z-items.result.now c.loop-z.z-index (pos 0) = search rules in
    let n = next_fits before_x _ _ (pos 0) c.loop-z-test.true _ _ _ _ c.loop-z.invariant c.requires in
    let p = rw z at c.put.ensures in
    omega (arith, simp length-append at n, simp length-append at (ap length p))

pub loop-z-preserved : goal.loop-z-preserved
loop-z-preserved c =
    let z : to_z w64 (of_z w64 (get_or c.shape-z-items.result.now c.loop-z.z-index (pos 0))) ≡ get_or c.shape-z-items.result.now c.loop-z.z-index (pos 0) = search rules in
    let p = rw z at c.put.ensures in
    let n = next_put before_x _ _ (pos 0) c.loop-z-test.true _ _ c.loop-z.invariant in
    rw (c.put_byte.ensures, p) (simp append_assoc (simp append_assoc at n))
