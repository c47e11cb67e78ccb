use Rattle.std.proofs.Common.{rules, arith}
use Rattle.gx_rotation.proofs.Algebra.{vector_is}
use Rattle.gx_rotation.proofs.Tables.{column-below, matrix_of-read}
use Rattle.gx_rotation.proofs.rotation.Rotation.apply.Goals as goal

pub signed_component-requires-2-clause-axis : goal.signed_component-requires-2-clause-axis
signed_component-requires-2-clause-axis c = column-below _ 1 c.self.invariant (omega arith)

pub signed_component-requires-3-clause-axis : goal.signed_component-requires-3-clause-axis
signed_component-requires-3-clause-axis c = column-below _ 2 c.self.invariant (omega arith)

pub returns : goal.returns
returns c =
    rw (← c.self.view_is, matrix_of-read _ c.self.invariant)
    (vector_is _ _ _ _ (search rules) (search rules) (search rules))
