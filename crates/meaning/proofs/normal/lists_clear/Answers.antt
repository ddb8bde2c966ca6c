-- The five answers joined are `lists_clear`: a path in each of its five parts.
use Rattle.std.proofs.Common.{◌≡◌, ◌&&◌, ◌∙◌, ap, map, Bool, ℕ, ℤ, List}
use Rattle.std.proofs.lemmas.List.{map-id}
use Rattle.meaning.specs.Normal.{clear, lists_clear}
use Rattle.meaning.proofs.normal.lists_clear.Goals as goal

-- the machine's numbers are the integers
as_it_is : (used : Bool) (n : ℕ) (l : List ℤ) → clear 8 used n (map (λ z. z) l) ≡ clear 8 used n l
as_it_is used n l = ap (clear 8 used n) (map-id l)

pub returns : goal.returns
unfolding lists_clear
returns c = let u = c.args.u in let r = c.args.r.now in λ i.
    (c.clear.ensures ∙ as_it_is u.shape r.shape_len r.shape) i
    && (c.clear-2.ensures ∙ as_it_is u.strides r.strides_len r.strides) i
    && (c.clear-3.ensures ∙ as_it_is u.tile r.tile_len r.tile) i
    && (c.clear-4.ensures ∙ as_it_is u.map r.map_len r.map) i
    && (c.clear-5.ensures ∙ as_it_is u.traversal r.traversal_len r.traversal) i
