-- `read_last` meets its contract: number and mark are read off a block that has the form.
use native.Mathlib.Omega.{arith}
use mathlib.Core.Path.{refl, sym, ◌∙◌}
use Rattle.capi.proofs.Blocks as L
use Rattle.capi.proofs.collect.read_last.Goals as goal

pub returns-then-not-formed : goal.returns-then-not-formed
returns-then-not-formed c = sym c.formed.ensures ∙ c.if-not-formed.true

pub bounds-block-1024 : goal.bounds-block-1024
bounds-block-1024 c = let l = L.long 1024 c.args.block.now (sym c.formed.ensures ∙ c.if-not-formed.false) in omega arith

pub bounds-block : goal.bounds-block
bounds-block c = let l = L.long 1024 c.args.block.now (sym c.formed.ensures ∙ c.if-not-formed.false) in omega arith

pub bounds-block-2 : goal.bounds-block-2
bounds-block-2 c = let l = L.long 1024 c.args.block.now (sym c.formed.ensures ∙ c.if-not-formed.false) in omega arith

pub returns : goal.returns
returns c = record { form = sym c.formed.ensures ∙ c.if-not-formed.false; len = c.two_bytes.ensures; over = refl }
