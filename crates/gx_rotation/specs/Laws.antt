-- What the definitions of a rotation promise together.
use Rattle.std.specs.Prelude.{◌≡◌, ℕ, ◌<◌, true, pos}
use Rattle.gx_num.specs.declared.vector.V3.{V3}
use Rattle.gx_rotation.specs.Matrix.{Matrix, product, image, transpose, identity, determinant}
use Rattle.gx_rotation.specs.Rotation.{matrix_of, takes_axes_to_axes}

-- the product of matrices is associative, the identity is number 0, and a rotation's transpose is its inverse
pub record IsGroup : Type 0 where
  pub associative : (a b c : Matrix) → product (product a b) c ≡ product a (product b c)
  pub identity_left : (a : Matrix) → product identity a ≡ a
  pub identity_right : (a : Matrix) → product a identity ≡ a
  pub zero : matrix_of 0 ≡ identity
  pub inverse_left : (k : ℕ) → k < 24 → product (transpose (matrix_of k)) (matrix_of k) ≡ identity
  pub inverse_right : (k : ℕ) → k < 24 → product (matrix_of k) (transpose (matrix_of k)) ≡ identity

-- the product does the second first, and the identity moves nothing
pub record IsAction : Type 0 where
  pub composes : (a b : Matrix) (v : V3) → image (product a b) v ≡ image a (image b v)
  pub rests : (v : V3) → image identity v ≡ v

-- the numbers have different matrices, which take axes to axes and have determinant 1
pub record AreRotations : Type 0 where
  pub different : (a b : ℕ) → a < 24 → b < 24 → matrix_of a ≡ matrix_of b → a ≡ b
  pub axes : (k : ℕ) → k < 24 → takes_axes_to_axes (matrix_of k) ≡ true
  pub proper : (k : ℕ) → k < 24 → determinant (matrix_of k) ≡ pos 1
