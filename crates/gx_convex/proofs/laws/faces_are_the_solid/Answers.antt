use Rattle.gx_convex.proofs.Cutting.{faces_are_the_solid}
use Rattle.gx_convex.proofs.laws.faces_are_the_solid.Goals as goal

pub returns : goal.returns
returns c = faces_are_the_solid
