-- The two halves joined are `normal`, at what the kind uses.
use mathlib.Core.Bool.{◌&&◌}
use mathlib.Core.Path.{◌∙◌}
use Rattle.meaning.specs.Normal.{lists_clear, rest_blank, normal}
use Rattle.meaning.proofs.normal.is_normal.Goals as goal

pub returns : goal.returns
unfolding normal
returns c =
    let r = c.args.r in
    let used = c.used_by-u.ensures in
    let lists = c.lists_clear.ensures ∙ (λ i. lists_clear 8 (used i) r) in
    let rest = c.rest_blank.ensures ∙ (λ i. rest_blank (used i) r) in
    λ i. lists i && rest i
