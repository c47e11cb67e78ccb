use Rattle.std.proofs.Common.{◌≡◌, ◌∙◌, Bool, true, All}
use Rattle.std.proofs.lemmas.Result.{IfOk-weaker}
use Rattle.gx_faces.specs.Closed.{IsEdge, IsJoined, IsClosedAt}
use Rattle.gx_faces.proofs.Found.{all_closed}
use Rattle.gx_faces.proofs.closed.close_face.Goals as goal

pub returns-clause-closed : goal.returns-clause-closed
returns-clause-closed c =
    let points = c.args.points.now in
    let on = c.deref.result.now in
    let faces = c.close_all.new.faces.items in
    IfOk-weaker c.close_all.result (λ (done : Bool). done ≡ true → All (λ p. All (λ q. IsEdge points c.args.face p q → IsJoined faces c.args.face p q) on) on) (λ (done : Bool). done ≡ true → IsClosedAt points faces c.args.face)
    (λ done all yes. all_closed points faces c.args.face on (c.deref.ensures.value ∙ c.in_ok-on.ensures) (all yes)) c.close_all.ensures.closed
