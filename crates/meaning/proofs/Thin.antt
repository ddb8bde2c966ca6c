-- Every type that is found has one sparse dimension at most: so each maker makes it.
use Prim.Native.Nat.{◌≤◌}
use native.Mathlib.Omega.{arith}
use lib.ListN.{length}
use Rattle.lexis.specs.Text.{Cut, nowhere, at}
use Rattle.meaning.specs.Found.{values, Found, made, plain, token, with_attribute}
use Rattle.meaning.specs.Tile as T
use Rattle.meaning.specs.Views as W
use Rattle.meaning.proofs.Everywhere.{Made}

abbrev pub Thin : Found → Type 0
Thin t = length (values t.sparse) ≤ 1

thin_sparse : (c : Cut) → length (values (W.sparse_by c)) ≤ 1
thin_sparse nowhere = omega arith
thin_sparse (at u t) = omega arith

pub thin : Made Thin
unfolding token plain made with_attribute T.tile_of T.tensor_found W.view_of W.strided_of
thin = record {
  token_is = omega arith;
  scalar = λ e. omega arith;
  pointer = λ e. omega arith;
  tile = λ p c e. omega arith;
  tensor = λ v. omega arith;
  partition = λ m v. omega arith;
  gather = λ c v. thin_sparse c;
  strided = λ m l v. omega arith;
  attribute = λ t h. h;
}
