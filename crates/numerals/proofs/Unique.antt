-- Each public function's contract leaves one answer: two answers that meet the generated reading of it, for the same arguments, are the same. Of a
-- generic one, what the answer is as an integer; and the answer whole where no two values are the same integer, as at i64 and at i32.
use mathlib.Core.Path.{◌≡◌, refl, sym, ap, ◌∙◌}
use Prim.Native.Nat.{ℕ}
use native.Mathlib.Omega.{arith}
use denote.RattleType.{RattleType}
use denote.Builtin.{i32, i64}
use denote.Param.Laws.{Laws, IsCopy}
use mir.Syntax.{Dict}
use Rattle.std.specs.Prelude.{ℤ, Option, None, Some, option_map}
use Rattle.std.specs.declared.clone.Clone as Clone
use Rattle.lexis.proofs.Unique.{One, Alike}
use Rattle.numerals.specs.declared.integer.Integer as Integer
use Rattle.numerals.specs.contracts.integer.I64Integer.TheImpl as I64
use Rattle.numerals.specs.contracts.integer.I32Integer.TheImpl as I32
use Rattle.numerals.proofs.integer.Integer.plus.Reads as plus
use Rattle.numerals.proofs.integer.Integer.minus.Reads as minus
use Rattle.numerals.proofs.integer.Integer.wide.Reads as wide
use Rattle.numerals.proofs.numeral.parse.Reads as parse
use Rattle.numerals.proofs.part.parse_part.Reads as parse-part

-- no two values are the same integer
abbrev pub Faithful : {A : Type 0} → (A → ℤ) → Type 0
Faithful {A} is = (x y : A) → is x ≡ is y → x ≡ y

mapped_one : {A : Type 0} (is : A → ℤ) → Faithful is → (f g : Option A) → option_map is f ≡ option_map is g → f ≡ g
mapped_one is k (Some n) (Some m) e = let h : is n ≡ is m = cc in ap Some (k n m h)
mapped_one is k (Some n) None e = let z : ◌≡◌ {A = ℕ} 0 1 = cc in let f : ⊥ = omega arith in absurd f
mapped_one is k None (Some m) e = let z : ◌≡◌ {A = ℕ} 0 1 = cc in let f : ⊥ = omega arith in absurd f
mapped_one is k None None e = refl

module _ (T : RattleType) (laws : Laws T) (copy : IsCopy T) (integer : Integer.Ghosts T.Denot) (d : Dict) (clone : Clone.Ghosts T.Denot) (e : Dict) where
  pub plus_one : Alike (λ κs x. integer.is x) (plus.Post T laws copy integer d clone e)
  plus_one κs a x y s t p q = p ∙ sym q

  pub minus_one : Alike (λ κs x. integer.is x) (minus.Post T laws copy integer d clone e)
  minus_one κs a x y s t p q = p ∙ sym q

  pub wide_one : Alike (λ κs x. x) (wide.Post T laws copy integer d clone e)
  wide_one κs a x y s t p q = p ∙ sym q

  pub parse_one : Alike (λ κs x. option_map integer.is x) (parse.Post T laws copy integer d clone e)
  parse_one κs a x y s t p q = p ∙ sym q

  pub parse_part_len_one : Alike (λ κs x. x.len) (parse-part.Post T laws copy integer d clone e)
  parse_part_len_one κs a x y s t p q = p.0 ∙ sym q.0

  pub parse_part_value_one : Alike (λ κs x. option_map integer.is x.value) (parse-part.Post T laws copy integer d clone e)
  parse_part_value_one κs a x y s t p q = p.1 ∙ sym q.1

  -- ── the answer whole ──

  pub parse_whole_one : Faithful integer.is → One (parse.Post T laws copy integer d clone e)
  parse_whole_one k κs a x y s t p q = mapped_one integer.is k x y (p ∙ sym q)

  pub parse_part_whole_one : Faithful integer.is → One (parse-part.Post T laws copy integer d clone e)
  parse_part_whole_one k κs a x y s t p q = let v = mapped_one integer.is k x.value y.value (p.1 ∙ sym q.1) in let n = p.0 ∙ sym q.0 in λ i. record { value = v i; len = n i }

-- ── at i64 and at i32, by their own ghosts ──

module _ (laws : Laws i64) (copy : IsCopy i64) (d : Dict) (clone : Clone.Ghosts i64.Denot) (e : Dict) where
  pub parse_i64_one : One (parse.Post i64 laws copy I64.ghosts d clone e)
  parse_i64_one = parse_whole_one i64 laws copy I64.ghosts d clone e (λ x y p. p)

  pub part_i64_one : One (parse-part.Post i64 laws copy I64.ghosts d clone e)
  part_i64_one = parse_part_whole_one i64 laws copy I64.ghosts d clone e (λ x y p. p)

module _ (laws : Laws i32) (copy : IsCopy i32) (d : Dict) (clone : Clone.Ghosts i32.Denot) (e : Dict) where
  pub parse_i32_one : One (parse.Post i32 laws copy I32.ghosts d clone e)
  parse_i32_one = parse_whole_one i32 laws copy I32.ghosts d clone e (λ x y p. p)

  pub part_i32_one : One (parse-part.Post i32 laws copy I32.ghosts d clone e)
  part_i32_one = parse_part_whole_one i32 laws copy I32.ghosts d clone e (λ x y p. p)
