use Rattle.std.proofs.Common.{refl}
use Rattle.gx_rotation.specs.Rotation.{matrix_of}
use Rattle.gx_rotation.proofs.Algebra.{product-product, product-identity_left, product-identity_right}
use Rattle.gx_rotation.proofs.Tables.{product-transpose_left, product-transpose_right}
use Rattle.gx_rotation.proofs.laws.group.Goals as goal

pub returns : goal.returns
unfolding matrix_of
returns c = record {
  associative = product-product;
  identity_left = product-identity_left;
  identity_right = product-identity_right;
  zero = refl;
  inverse_left = product-transpose_left;
  inverse_right = product-transpose_right;
}
