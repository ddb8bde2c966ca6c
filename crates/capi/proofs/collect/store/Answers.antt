-- `store` meets its contract: three bytes are laid behind the room.
use native.Mathlib.Omega.{arith}
use Prim.Native.Nat.{◌-◌, ◌/◌, ◌%◌}
use mathlib.Core.List.{[], ◌∷◌}
use mathlib.Core.Path.{◌≡◌, ◌∙◌}
use lib.ListN.{length}
use Rattle.numbers.proofs.Numbers.{flag_byte}
use Rattle.capi.specs.Block.{last_bytes}
use Rattle.capi.proofs.Blocks as L
use Rattle.capi.proofs.collect.store.Goals as goal

pub returns : goal.returns
returns c =
    let a = c.args in
    let l = c.requires.0 in
    let m = c.requires.1 in
    let high : a.len / 256 % 256 ≡ a.len / 256 = omega arith in
    L.laid_behind a.block.now c.copy_from_slice.new.self (last_bytes a.len a.over) 1024 (length a.block.now - 1024) (omega arith)
    (c.copy_from_slice.ensures.after ∙ rw c.to_be_bytes.ensures (λ i. high i ∷ (a.len % 256) ∷ flag_byte a.over i ∷ []))
