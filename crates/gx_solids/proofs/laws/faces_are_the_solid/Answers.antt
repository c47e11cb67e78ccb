use Rattle.gx_shapes.proofs.Solids.{faces_are_the_solid_of}
use Rattle.gx_solids.proofs.laws.faces_are_the_solid.Goals as goal

pub returns : goal.returns
returns c = faces_are_the_solid_of
