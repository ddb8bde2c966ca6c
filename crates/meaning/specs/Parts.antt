-- Parts, brackets and marks (01, modules 3, 4 and 7).
use Rattle.std.specs.Prelude.{if◌then◌else◌, ℕ, zero, suc, ◌-◌, Bool, true, false, List, [], ◌∷◌, eqb, length, Option, None, Some}
use Prim.Native.Char.{code}
use Rattle.lexis.specs.Text.{Text, begins, after, Cut, nowhere, at, later, cut}

-- what is done to a value that may be lacking
abbrev pub each : {A B : Type 0} → (A → B) → Option A → Option B
each f None = None
each f (Some a) = Some (f a)

-- ── parts of a text ──

-- the last part, and those before it
abbrev pub last : List Text → Text
last [] = []
last (p ∷ []) = p
last (p ∷ q ∷ ps) = last (q ∷ ps)

abbrev pub front : List Text → List Text
front [] = []
front (p ∷ []) = []
front (p ∷ q ∷ ps) = p ∷ front (q ∷ ps)

-- from the first p to the next q: what stands between, and what follows
abbrev pub up_to : Text → Cut → Cut
up_to q nowhere = nowhere
up_to q (at u t) = cut q t

abbrev pub between : Text → Text → Text → Cut
between p q s = up_to q (cut p s)

-- ── brackets (module 3) ──

abbrev pub shallower : ℕ → Option ℕ
shallower zero = None
shallower (suc d) = Some d

-- how many brackets stand open inside after the byte b; none: b closes the outer one
abbrev pub depth : ℕ → ℕ → Option ℕ
depth d b = if eqb b (code "<") then Some (suc d) else if eqb b (code ">") then shallower d else Some d

-- s, parted at the `>` that matches, with d more brackets open
abbrev pub close : ℕ → Text → Cut
close d [] = nowhere
close d (b ∷ s) = elim (depth d b) [ None ↦ at [] s | Some e ↦ later b (close e s) ]

-- s without the `>` at its end, if one stands there
abbrev pub less_final : Text → Option Text
less_final [] = None
less_final (b ∷ []) = if eqb b (code ">") then Some [] else None
less_final (b ∷ c ∷ s) = each (λ t. b ∷ t) (less_final (c ∷ s))

-- with no match, a final `>` is dropped; without one the form doesn't apply
abbrev pub content_by : Text → Cut → Option Text
content_by s (at u t) = Some u
content_by s nowhere = less_final s

abbrev pub content : Text → Option Text
content s = content_by s (close 0 s)

-- the content of the form that opens with p, where that form applies
abbrev pub bracketed : Text → Text → Option Text
bracketed p s = if begins p s then content (after p s) else None

-- ── removing a text ──

-- s is m over and over, k bytes of one still to be passed over
abbrev pub only : Text → ℕ → Text → Bool
only m zero [] = true
only m (suc k) [] = false
only m zero (b ∷ s) = if begins m (b ∷ s) then only m (length m - 1) s else false
only m (suc k) (b ∷ s) = only m k s

-- s without every m at its end
abbrev pub less_repeats : Text → Text → Text
less_repeats m [] = []
less_repeats m (b ∷ s) = if only m 0 (b ∷ s) then [] else b ∷ less_repeats m s

-- s without every m, from left to right, k bytes of one still to be passed over
abbrev pub less_all : Text → ℕ → Text → Text
less_all m k [] = []
less_all m zero (b ∷ s) = if begins m (b ∷ s) then less_all m (length m - 1) s else b ∷ less_all m zero s
less_all m (suc k) (b ∷ s) = less_all m k s

abbrev pub remove : Text → Text → Text
remove m s = less_all m 0 s
