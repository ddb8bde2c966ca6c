-- What ends a scalar's name, a pointer and a tile, and what they mean. The pieces that read them, and their laws, are in proofs/Elements.antt.
use Rattle.std.specs.Prelude.{ℕ, Bool, true, false, List, [], ◌∷◌, ◌++◌, take}
use Rattle.lexis.specs.Text.{bytes}
use Rattle.meaning.specs.Strict as S
use Rattle.scalars.specs.declared.scalar.Scalar.{Scalar}
use Rattle.meaning.specs.Strict.{◌⊕◌, scalar_of, cuda, mark, Element}
use Rattle.grammar.specs.Table.{Entry, ◌↝◌}

-- ── names ──
abbrev pub six : {A : Type 0} → A → List ℕ
six a = bytes "6"

-- ── what stands in a pointer, and its end w: with or without the mark ──
abbrev pub ends : List ℕ → Bool → List ℕ
ends w m = mark m ⊕ w

pub record Core : Type 0 where
  pub pointer : Bool
  pub element : Scalar
  pub attribute : Bool

abbrev pub closed : Scalar → Bool → Core
closed s m = record { pointer = true; element = s; attribute = m }

-- ── a tile's element, with the tile's end ──
pub data Kern : Type 0 where
  plain : Scalar → Kern
  point : Kern

abbrev pub kern_e : Kern → List ℕ
kern_e (plain s) = bytes "6"
kern_e point = []

abbrev pub flat_core : Scalar → Core
flat_core s = record { pointer = false; element = s; attribute = false }

-- what ends a tile of scalars, and the first bytes of that
abbrev pub flat_end : Scalar → List (Entry Core)
flat_end s = (bytes ">" ↝ flat_core s) ∷ []

abbrev pub firsts : List (Entry Core) → List ℕ
firsts [] = []
firsts (e ∷ es) = take 1 e.word ++ firsts es

abbrev pub kern_f : Kern → List ℕ
kern_f (plain s) = firsts (flat_end s)
kern_f point = bytes "ibft"

abbrev pub front : List ℕ → Bool → List ℕ
front w p = cuda p ⊕ w

abbrev pub core_text : Element → List ℕ
core_text e = S.element e ⊕ bytes ">"

abbrev pub core_mean : Element → Core
core_mean (Element.plain n) = flat_core (scalar_of n)
core_mean (Element.pointer p) = closed (scalar_of p.name) p.marked
