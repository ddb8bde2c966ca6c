-- What a turn reads stands behind what the turns before it read, and was consumed after that.
use Rattle.std.proofs.Common.{◌≡◌, ℕ, ◌+◌, ◌≤◌, List, ◌++◌, rules, length, take, sym, ap, ◌∙◌, subst, le_refl, drop_at, length-take-le}
use Rattle.std.proofs.lemmas.List.{take-append-le}
use Rattle.std.proofs.lemmas.Slice.{take-put_mid_below}
use Rattle.std.specs.Io.KnownBytes.{Consumes}
use Rattle.std.proofs.KnownBytes.{Consumes-trans}
use borrow.Rule.Slice.PartMut.{put_mid, post_of}
use lib.Seq.{take-add}
use Rattle.terminal.proofs.fill.Goals as goal

take_joined : (a k n : ℕ) (xs ys : List ℕ) → a ≤ length xs → n ≤ length ys → take a xs ++ take n ys ≡ take (a + n) (put_mid a k xs ys)
take_joined a k n xs ys within fits =
    let front = take-put_mid_below a k xs ys a (le_refl a) within in
    let after = post_of a k xs in
    let part = ap (take n) (drop_at (take a xs) (ys ++ after) a (length-take-le a xs within)) ∙ take-append-le n ys after fits in
    (λ i. sym front i ++ sym part i) ∙ sym (take-add a n (put_mid a k xs ys))

pub loop-n-preserved : goal.loop-n-preserved
loop-n-preserved g c =
    let l = c.loop-n in
    let read = c.in-Ok.ensures in
    record {
      long = search rules;
      within = search rules;
      bytes = subst (Consumes _ _) (take_joined l.n _ c.in-Ok.k l.room c.read.new.buf l.invariant.within read.bound.0) (Consumes-trans _ _ _ _ _ l.invariant.bytes read.bytes.0);
    }
