use Rattle.gx_rotation.proofs.Tables.{matrix_of-inverse_at, product-transpose_left, product-transpose_right}
use Rattle.gx_rotation.proofs.rotation.Rotation.inverse.Goals as goal

pub returns : goal.returns
returns c =
    let inverse = matrix_of-inverse_at _ c.self.invariant in
    record {
      left = rw (← c.self.view_is, inverse) (product-transpose_left _ c.self.invariant);
      right = rw (← c.self.view_is, inverse) (product-transpose_right _ c.self.invariant);
      transposed = rw (← c.self.view_is) inverse;
    }
