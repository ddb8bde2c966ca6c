-- What is built of lists that are laid from clauses is what is carried of the type with these clauses, for each maker; and what was found,
-- where the code says that something was.
use Rattle.std.specs.Prelude.{Option, None, Some}
use Prim.Native.Nat.{ℕ}
use native.Mathlib.Omega.{arith}
use mathlib.Core.Bool.{Bool, false}
use mathlib.Core.Path.{◌≡◌, refl, ◌∙◌}
use Rattle.scalars.specs.declared.scalar.Scalar.{Scalar}
use Rattle.meaning.specs.Found.{Clause, stands, unused, made, plain}
use Rattle.meaning.specs.Parts.{each}
use Rattle.meaning.specs.Tile.{tile_of, Tensor, tensor_found}
use Rattle.meaning.specs.Views.{View, view_of}
use Rattle.meaning.specs.declared.Kind.{Kind}
use Rattle.meaning.specs.declared.Kind.TheVariants as K
use Rattle.meaning.specs.declared.Padding.{Padding}
use Rattle.meaning.specs.declared.Padding.TheVariants.{Absent}
use Rattle.lists.specs.Laid.{Laid, laid}
use Rattle.port.specs.Carried.{Carried, carried, built, Tensored, tensored, Viewed, viewed}

-- ── built of laid lists ──

module _ (k : Kind) (e : Scalar) (p : Bool) (shape strides tile map traversal sparse : Clause) (padding : Padding) where
  laid_built : built k e p (laid 8 shape) (laid 8 strides) (laid 8 tile) (laid 8 map) (laid 8 traversal) (laid 8 sparse) padding
      ≡ carried 8 (made k e p shape strides tile map traversal sparse padding)
  unfolding made
  laid_built = refl

  module _ {a b c d f g : Laid} where
    pub built_is : a ≡ laid 8 shape → b ≡ laid 8 strides → c ≡ laid 8 tile → d ≡ laid 8 map → f ≡ laid 8 traversal → g ≡ laid 8 sparse
        → built k e p a b c d f g padding ≡ carried 8 (made k e p shape strides tile map traversal sparse padding)
    built_is q r s t u w = (λ i. built k e p (q i) (r i) (s i) (t i) (u i) (w i) padding) ∙ laid_built

-- ── the same, for each maker ──

-- without a view's lists
abbrev pub bare : Kind → Scalar → Bool → Laid → Laid → Carried
bare k e p a b = built k e p a b (laid 8 unused) (laid 8 unused) (laid 8 unused) (laid 8 unused) Absent

module _ {a b : Laid} (k : Kind) (e : Scalar) (p : Bool) (shape strides : Clause) (q : a ≡ laid 8 shape) (r : b ≡ laid 8 strides) where
  bare_is : bare k e p a b ≡ carried 8 (made k e p shape strides unused unused unused unused Absent)
  bare_is = built_is k e p shape strides unused unused unused unused Absent q r refl refl refl refl

module _ {a b : Laid} where
  pub plain_is : (k : Kind) (e : Scalar) → a ≡ laid 8 unused → b ≡ laid 8 unused → bare k e false a b ≡ carried 8 (plain k e)
  unfolding plain
  plain_is k e q r = bare_is k e false unused unused q r

  pub tile_is : (e : Scalar) (p : Bool) (shape : Clause) → a ≡ laid 8 shape → b ≡ laid 8 unused → bare K.Tile e p a b ≡ carried 8 (tile_of p shape e)
  unfolding tile_of
  tile_is e p shape q r = bare_is K.Tile e p shape unused q r

pub tensor_is : (x : Tensored) (v : Tensor) → x ≡ tensored 8 v → bare K.TensorView x.element false x.shape x.strides ≡ carried 8 (tensor_found v)
unfolding tensor_found
tensor_is x v q =
    (λ i. bare K.TensorView (q i).element false (q i).shape (q i).strides) ∙
    bare_is K.TensorView v.element false v.shape v.strides refl refl

module _ (x : Viewed) {m t s : Laid} (k : Kind) (map traversal sparse : Clause) (v : View) where
  pub view_is : x ≡ viewed 8 v → m ≡ laid 8 map → t ≡ laid 8 traversal → s ≡ laid 8 sparse
      → built k x.tensor.element false x.tensor.shape x.tensor.strides x.tile m t s x.padding ≡ carried 8 (view_of k map traversal sparse v)
  unfolding view_of
  view_is q d f g =
      (λ i. built k (q i).tensor.element false (q i).tensor.shape (q i).tensor.strides (q i).tile (d i) (f i) (g i) (q i).padding) ∙
      laid_built k v.tensor.element false v.tensor.shape v.tensor.strides (stands v.tile) map traversal sparse v.padding

-- ── what was found, where the code has something ──

-- x is f of the value that o has
pub record Has {A B : Type 0} (f : A → B) (o : Option A) (x : B) : Type 0 where
  pub value : A
  pub is : o ≡ Some value
  pub same : x ≡ f value

module _ {A B : Type 0} (f : A → B) where
  pub has : {x : B} (o : Option A) → Some x ≡ each f o → Has f o x
  has None e = let z : ◌≡◌ {A = ℕ} 0 1 = cc in let f : ⊥ = omega arith in absurd f
  has (Some a) e = record { value = a; is = refl; same = cc }

  pub lacks : (o : Option A) → None ≡ each f o → o ≡ None
  lacks None e = refl
  lacks (Some a) e = let z : ◌≡◌ {A = ℕ} 0 1 = cc in let f : ⊥ = omega arith in absurd f
