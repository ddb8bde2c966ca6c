-- Any sequence of calls that keep their contracts: `fresh`, `feed` with each piece, `end`. The answer is the ordinary reader's on the
-- joined bytes, and the collector is fresh again, ready for the next text.
use mathlib.Core.List.{List, [], ◌∷◌, flatten, foldl}
use mathlib.Core.Path.{◌≡◌, ap, ◌∙◌}
use Rattle.lexis.specs.Text.{Text}
use Rattle.meaning.specs.Ordinary.{ordinary}
use Rattle.meaning.specs.declared.Reading.{Reading}
use Rattle.collector.specs.declared.Collector.{Collector}
use Rattle.collector.specs.Collecting.{Fed, fresh, fed, answered, ended}
use Rattle.collector.proofs.Pieces as P
use Rattle.collector.proofs.Unique.{Feeds, Ends}

-- a call of `feed`, and what comes after it
pub record Call (c : Collector) (piece : Text) (Rest : Collector → Type 0) : Type 0 where
  pub left : Collector
  pub answer : Fed
  pub feeds : Feeds c piece answer left
  pub onward : Rest left

-- the pieces are fed one after the other: from the first collector to the second
abbrev pub FedThrough : Collector → List Text → Collector → Type 0
FedThrough c [] e = e ≡ c
FedThrough c (p ∷ ps) e = Call c p (λ d. FedThrough d ps e)

through : (c e : Collector) (pieces : List Text) → FedThrough c pieces e → e ≡ foldl (fed 1024) c pieces
through c e [] t = t
through c e (p ∷ ps) t = through t.left e ps t.onward ∙ ap (λ (x : Collector). foldl (fed 1024) x ps) t.feeds.1

-- one text, from a fresh collector to the end
pub one_text : (c d e : Collector) (pieces : List Text) (r : Reading) → c ≡ fresh 1024 → FedThrough c pieces d → Ends d r e →
    (r ≡ ordinary 8 1024 (flatten pieces)) × (e ≡ fresh 1024)
one_text c d e pieces r f t n =
    let k : d ≡ P.after 1024 pieces = through c d pieces t ∙ ap (λ (x : Collector). foldl (fed 1024) x pieces) f in
    (n.0 ∙ ap (answered 8 1024) k ∙ P.ends_as_read 1024 8 pieces, n.1 ∙ ap (ended 1024) k ∙ P.fresh_again 1024 pieces)
