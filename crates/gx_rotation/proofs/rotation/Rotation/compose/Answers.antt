use Rattle.gx_rotation.proofs.Tables.{matrix_of-product_at, product_at-below}
use Rattle.gx_rotation.proofs.rotation.Rotation.compose.Goals as goal

pub invariant_of-result : goal.invariant_of-result
invariant_of-result c = product_at-below _ _ c.self.invariant c.o.invariant

pub returns : goal.returns
returns c = rw (← c.self.view_is, ← c.o.view_is) (matrix_of-product_at _ _ c.self.invariant c.o.invariant)
