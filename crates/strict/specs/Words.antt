-- Tables of words: in a text each is ended by the byte 124. What the code reads of them.
use Rattle.std.specs.Prelude.{ℕ, Bool, false, cond, not, List, [], ◌∷◌, ◌++◌, eqb}
use Rattle.grammar.specs.Piece.{Answer}
use Rattle.grammar.specs.Table.{Entry, ◌↝◌, advance, pick}

abbrev pub grown : ℕ → List (List ℕ) → List (List ℕ)
grown c [] = (c ∷ []) ∷ []
grown c (w ∷ ws) = (c ∷ w) ∷ ws

abbrev pub words : List ℕ → List (List ℕ)
words [] = []
words (c ∷ t) = cond (eqb c 124) ([] ∷ words t) (grown c (words t))

-- the words of a text, each with what it says
abbrev pub paired : {A : Type 0} → List (List ℕ) → List A → List (Entry A)
paired [] vs = []
paired (w ∷ ws) [] = []
paired (w ∷ ws) (v ∷ vs) = (w ↝ v) ∷ paired ws vs

abbrev pub table : {A : Type 0} → List ℕ → List A → List (Entry A)
table t vs = paired (words t) vs

-- the same words, which say other things
abbrev pub relabel : {A B : Type 0} → (A → B) → List (Entry A) → List (Entry B)
relabel f [] = []
relabel f (e ∷ es) = (e.word ↝ f e.value) ∷ relabel f es

-- what the word of a table at the head of a text says
unfoldable pub among : {A : Type 0} → List (Entry A) → List ℕ → Answer A
among es t = pick t es

-- what is left of the words after some bytes
abbrev pub advances : {A : Type 0} → List ℕ → List (Entry A) → List (Entry A)
advances [] es = es
advances (c ∷ u) es = advances u (advance c es)

-- the first bytes of two words differ
abbrev pub differ : List ℕ → List ℕ → Bool
differ [] w = false
differ (x ∷ v) [] = false
differ (x ∷ v) (y ∷ w) = not (eqb x y)

-- both words of a table, which begin alike
abbrev pub both : {A : Type 0} → List ℕ → List ℕ → A → List ℕ → A → List (Entry A)
both u v j w k = (u ++ v ↝ j) ∷ (u ++ w ↝ k) ∷ []
