-- The room is enough for what is left, so for the next separator and the next entry.
use Rattle.std.proofs.Common.{[], ◌∷◌, length, ap, arith, length-append}
use Rattle.meaning.specs.Strict.{◌⊕◌}
use Rattle.writer.proofs.Entries.{next_fits}
use Rattle.writer.proofs.put.Draft.put_entries.Goals as goal

pub put_byte-requires : goal.put_byte-requires
put_byte-requires g c =
    omega (arith, next_fits (λ (e : g.row.E.Denot). (c.args.sep ∷ []) ⊕ g.E.Entry.text e) _ _ c.e-item.result c.loop-e-test.true _ _ _ _ c.loop-e.invariant c.requires)

pub put-requires-in-loop-e : goal.put-requires-in-loop-e
put-requires-in-loop-e g c =
    let n = next_fits (λ (e : g.row.E.Denot). (c.args.sep ∷ []) ⊕ g.E.Entry.text e) _ _ c.e-item.result c.loop-e-test.true _ _ _ _ c.loop-e.invariant c.requires in
    let p = simp length-append at (ap length c.put_byte.ensures) in
    omega (arith, rw (← c.e-item.is) at n)
