-- Each public function's contract leaves one answer: two answers that meet the generated reading of it, for the same arguments, are the same.
-- What is said of an entry or of a list tells it whole; a place in a text is told by what stands there and that it is inside.
use mathlib.Core.Path.{◌≡◌, sym, ap, ◌∙◌}
use Prim.Native.Nat.{ℕ, ◌-◌}
use native.Mathlib.Omega.{arith}
use lib.ListN.{length, length-drop}
use Rattle.lexis.specs.Text.{Text}
use denote.RattleType.{RattleType}
use denote.Builtin.{i32, i64}
use denote.Array.{Array}
use denote.Param.Laws.{Laws, IsCopy}
use mir.Syntax.{Dict}
use Rattle.std.specs.declared.clone.Clone as Clone
use Rattle.numerals.specs.declared.integer.Integer as Integer
use Rattle.lists.specs.declared.entries.Entries as Entries
use Rattle.lists.specs.contracts.entries.ArrayI64CAPEntries.TheImpl as I64s
use Rattle.lists.specs.contracts.entries.ArrayI32CAPEntries.TheImpl as I32s
use Rattle.lexis.proofs.Unique.{One, Alike}
use Rattle.meaning.specs.Found.{Entry, counted}
use Rattle.lists.specs.Laid.{Laid, said, list, listed, Fronted}
use Rattle.lists.specs.declared.entry.Entry as E
use Rattle.lists.specs.declared.entry.Entry.TheVariants.{Read, Fell}
use Rattle.lists.specs.declared.list.Listing.{Listing}
use Rattle.std.specs.Prelude.{List, ℤ}
use Rattle.lists.specs.declared.list.Front.{Front}
use Rattle.lists.proofs.entry.parse_dim.Reads as parse-dim
use Rattle.lists.proofs.entry.parse_small.Reads as parse-small
use Rattle.lists.proofs.list.Listing.none.Reads as none
use Rattle.lists.proofs.fill.dynamic.Reads as dynamic
use Rattle.lists.proofs.fill.count_up.Reads as count_up
use Rattle.lists.proofs.fill.ones.Reads as ones
use Rattle.lists.proofs.fill.zero.Reads as zero
use Rattle.lists.proofs.list.parse_dims.Reads as parse-dims
use Rattle.lists.proofs.list.parse_front.Reads as parse-front
use Rattle.lists.proofs.list.parse_smalls.Reads as parse-smalls
use Rattle.lists.proofs.list.parse_one.Reads as parse_one

-- ── entries ──

said_one : (e f : E.Entry ℤ) → said e ≡ said f → e ≡ f
said_one (Read z) (Read y) p = ap (λ (e : Entry). Read e.value) p
said_one (Read z) (Fell y) p = let n = ap (λ (e : Entry). counted e.came) p in let f : ⊥ = omega arith in absurd f
said_one (Fell z) (Read y) p = let n = ap (λ (e : Entry). counted e.came) p in let f : ⊥ = omega arith in absurd f
said_one (Fell z) (Fell y) p = ap (λ (e : Entry). Fell e.value) p

pub parse_dim_one : One parse-dim.Post
parse_dim_one κs a x y s t p q = said_one x y (p ∙ sym q)

pub parse_small_one : One parse-small.Post
parse_small_one κs a x y s t p q = said_one x y (p ∙ sym q)

-- ── lists ──

list_one : {l m : Listing (List ℤ)} → list l ≡ list m → l ≡ m
list_one e = ap {B = Listing (List ℤ)} (λ (x : Laid). record { values = x.values; row = x.row }) e

pub dynamic_one : One dynamic.Post
dynamic_one κs a x y s t p q = list_one (p ∙ sym q)

pub count_up_one : One count_up.Post
count_up_one κs a x y s t p q = list_one (p ∙ sym q)

pub ones_one : One ones.Post
ones_one κs a x y s t p q = list_one (p ∙ sym q)

pub zero_one : One zero.Post
zero_one κs a x y s t p q = list_one (p ∙ sym q)

pub parse_dims_one : One parse-dims.Post
parse_dims_one κs a x y s t p q = list_one (p ∙ sym q)

pub parse_smalls_one : One parse-smalls.Post
parse_smalls_one κs a x y s t p q = list_one (p ∙ sym q)

pub parse_one_one : One parse_one.Post
parse_one_one κs a x y s t p q = list_one (p ∙ sym q)

-- ── dimensions with a place ──

fronted_one : (w : ℕ) (s : Text) {x y : Front} → Fronted w s x → Fronted w s y → x ≡ y
fronted_one w s {x} {y} p q =
    let l = list_one (p.dims ∙ sym q.dims) in
    let d : length s - x.last ≡ length s - y.last = sym (length-drop x.last s) ∙ ap length (p.part ∙ sym q.part) ∙ length-drop y.last s in
    let k : x.last ≡ y.last = omega (arith, p.inside, q.inside) in
    λ i. record { dims = l i; last = k i }

pub parse_front_one : One parse-front.Post
parse_front_one κs a x y s t p q = fronted_one 8 _ p q

-- ── for every array of entries ──

module _ (A E : RattleType) (la : Laws A) (le : Laws E) (ca : IsCopy A) (ce : IsCopy E)
    (entries : Entries.Ghosts A.Denot E.Denot) (d : Dict) (clone : Clone.Ghosts A.Denot) (d' : Dict)
    (integer : Integer.Ghosts E.Denot) (e : Dict) (clone' : Clone.Ghosts E.Denot) (e' : Dict) where
  pub none_one : Alike (λ κs x. listed entries.values x) (none.Post A E la le ca ce entries d clone d' integer e clone' e')
  none_one κs a x y s t p q = p ∙ sym q

  -- the list whole, where no two arrays hold the same integers
  pub none_whole_one : ((x y : A.Denot) → entries.values x ≡ entries.values y → x ≡ y) → One (none.Post A E la le ca ce entries d clone d' integer e clone' e')
  none_whole_one k κs a x y s t p q = let l = none_one κs a x y s t p q in let v = k x.values y.values (ap (λ (m : Laid). m.values) l) in λ i. record { values = v i; row = (l i).row }

-- ── at [i64; CAP] and at [i32; CAP], by their own ghosts ──

module _ (la : Laws (Array i64 8)) (le : Laws i64) (ca : IsCopy (Array i64 8)) (ce : IsCopy i64) (d : Dict) (clone : Clone.Ghosts (List ℤ)) (d' : Dict)
    (integer : Integer.Ghosts ℤ) (e : Dict) (clone' : Clone.Ghosts ℤ) (e' : Dict) where
  pub none64_one : One (none.Post (Array i64 8) i64 la le ca ce I64s.ghosts d clone d' integer e clone' e')
  none64_one = none_whole_one (Array i64 8) i64 la le ca ce I64s.ghosts d clone d' integer e clone' e' (λ x y p. p)

module _ (la : Laws (Array i32 8)) (le : Laws i32) (ca : IsCopy (Array i32 8)) (ce : IsCopy i32) (d : Dict) (clone : Clone.Ghosts (List ℤ)) (d' : Dict)
    (integer : Integer.Ghosts ℤ) (e : Dict) (clone' : Clone.Ghosts ℤ) (e' : Dict) where
  pub none32_one : One (none.Post (Array i32 8) i32 la le ca ce I32s.ghosts d clone d' integer e clone' e')
  none32_one = none_whole_one (Array i32 8) i32 la le ca ce I32s.ghosts d clone d' integer e clone' e' (λ x y p. p)
