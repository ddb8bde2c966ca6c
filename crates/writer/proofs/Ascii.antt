-- A written text, which is ASCII as every strict one and short enough, is what the strict reading accepts with its record.
use Prim.Native.Nat.{ℕ, ◌+◌, ◌*◌, ◌≤◌}
use native.Mathlib.Omega.{arith}
use mathlib.Core.Bool.{Bool, true, false}
use Rattle.std.specs.Prelude.{Option, None, Some}
use mathlib.Core.Path.{◌≡◌, sym, subst}
use borrow.Author.Tests.{le-leb}
use lib.Dec.{leb}
use lib.ListN.{length}
use Rattle.lexis.specs.Text.{Text}
use Rattle.meaning.specs.declared.Record.{Record}
use Rattle.meaning.specs.declared.Refusal.TheVariants.{TooLong}
use Rattle.meaning.specs.Normal.{normal}
use Rattle.meaning.specs.Ordinary.{high_from, refused}
use Rattle.meaning.specs.Meant.{Strict, Judged, Strictly, ReadAscii}
use Rattle.meaning.specs.Written.{written}
use Rattle.grammar.proofs.Printed.{strict_low}
use Rattle.writer.proofs.Short.{Ranged}
use Rattle.writer.proofs.Answers.{Arrays}
use Rattle.meaning.proofs.Whens.{When}
use Rattle.writer.proofs.Longest.{AtMost, longest}
use Rattle.writer.proofs.Back.{own, answered, strict, back}

module _ (cap size : ℕ) (r : Record) where
  -- by whether the text is within the limit
  abbrev Limited : Bool → Text → Type 0
  Limited b t = elim b [ true ↦ ReadAscii cap t (high_from 0 t) (answered r) | false ↦ answered r ≡ refused cap TooLong 0 ]

  pub read_back : 1 ≤ cap → 78 * cap + 149 ≤ size → Arrays cap r → Ranged r → normal cap r ≡ true →
      When (λ t. Strictly cap size t (answered r)) (written r)
  read_back h k a g n = by (written r) (longest cap r h a g n) (strict cap r g n) (back cap r a g n)
    where
      by : (o : Option Text) → When (AtMost (78 * cap + 149)) o → When (λ t. Strict t (own r)) o → When (λ t. Judged cap t (answered r)) o →
          When (λ t. Strictly cap size t (answered r)) o
      by None l s j = tt
      by (Some t) l s j =
          let short : leb (length t) size ≡ true = le-leb (length t) size (omega arith) in
          let ascii : Limited true t = subst (λ (o : Option ℕ). ReadAscii cap t o (answered r)) (sym (strict_low t (own r) s)) j in
          subst (λ (b : Bool). Limited b t) (sym short) ascii
