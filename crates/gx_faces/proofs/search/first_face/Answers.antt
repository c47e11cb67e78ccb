use Rattle.gx_faces.proofs.Found.{supported}
use Rattle.gx_faces.proofs.search.first_face.Goals as goal

pub returns-in-Some : goal.returns-in-Some
returns-in-Some c = rw c.in-Some.is at (supported c.args.points.now c.in_ok-p.p c.in_ok-q.q c.tangent-left.result c.supporting.result c.supporting.ensures c.in_ok-p.ensures c.in_ok-q.ensures c.tangent-left.ensures)

pub returns : goal.returns
returns c = supported c.args.points.now c.in_ok-p.p c.in_ok-q.q c.tangent-right.result c.supporting-2.result c.supporting-2.ensures c.in_ok-p.ensures c.in_ok-q.ensures c.tangent-right.ensures
