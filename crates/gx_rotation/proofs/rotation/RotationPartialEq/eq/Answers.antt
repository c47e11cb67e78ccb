use Rattle.gx_rotation.proofs.Tables.{nat_eq-is_same_matrix}
use Rattle.gx_rotation.proofs.rotation.RotationPartialEq.eq.Goals as goal

pub returns : goal.returns
returns c = rw (← c.self.view_is, ← c.other.view_is) (nat_eq-is_same_matrix _ _ c.self.invariant c.other.invariant)
