use Rattle.std.proofs.Common.{All, take}
use Rattle.gx_faces.specs.Closed.{IsEdge, IsJoined}
use Rattle.gx_faces.specs.Steps.{AreMore}
use Rattle.gx_faces.proofs.closed.close_from.Given as goal

abbrev pub invariant-loop-q : goal.invariant-loop-q
invariant-loop-q l = record {
  more : AreMore l.points l.fn.faces.items l.faces.items;
  closed : All (λ q. IsEdge l.points l.face l.p q → IsJoined l.faces.items l.face l.p q) (take l.q-index l.on);
}
