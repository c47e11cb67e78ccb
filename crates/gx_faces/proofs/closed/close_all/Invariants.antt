use Rattle.std.proofs.Common.{All, take}
use Rattle.gx_faces.specs.Closed.{IsEdge, IsJoined}
use Rattle.gx_faces.specs.Steps.{AreMore}
use Rattle.gx_faces.proofs.closed.close_all.Given as goal

abbrev pub invariant-loop-p : goal.invariant-loop-p
invariant-loop-p l = record {
  more : AreMore l.points l.fn.faces.items l.faces.items;
  closed : All (λ p. All (λ q. IsEdge l.points l.face p q → IsJoined l.faces.items l.face p q) l.on) (take l.p-index l.on);
}
