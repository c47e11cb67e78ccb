use Rattle.std.proofs.Common.{rules}
use Rattle.gx_rotation.specs.Given.{direction}
use Rattle.gx_rotation.proofs.Algebra.{vector_is}
use Rattle.gx_rotation.proofs.given.direction.Goals as goal

pub returns : goal.returns
unfolding direction
returns c = vector_is _ _ _ _ (search rules) (search rules) (search rules)
