use Rattle.gx_faces.proofs.Closing.{closed_faces_are_all}
use Rattle.gx_faces.proofs.laws.closed_faces_are_all.Goals as goal

pub returns : goal.returns
returns c = closed_faces_are_all
