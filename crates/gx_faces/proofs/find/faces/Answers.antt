use Rattle.gx_faces.proofs.Closing.{closed_faces_are_all}
use Rattle.gx_faces.proofs.find.faces.Goals as goal

pub in_order-requires-clause-all : goal.in_order-requires-clause-all
in_order-requires-clause-all c = closed_faces_are_all c.args.points.now c.in-Some.planes.items c.requires.solid (rw c.in-Some.is at c.in_ok-planes.ensures)
