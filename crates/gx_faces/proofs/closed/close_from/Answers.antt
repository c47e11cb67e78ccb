use Rattle.std.proofs.Common.{take, All, sym, subst, arith}
use Rattle.std.proofs.lemmas.List.{take_more, take_all}
use Rattle.std.proofs.lemmas.List.Elements.{All-push, All-weaker}
use Rattle.gx_num.specs.declared.vector.V3.{V3}
use Rattle.gx_faces.specs.Closed.{IsEdge, IsJoined}
use Rattle.gx_faces.proofs.Found.{more_and_more, joined_after}
use Rattle.gx_faces.proofs.closed.close_from.Goals as goal

pub returns-then-not-branch-clause-more : goal.returns-then-not-branch-clause-more
returns-then-not-branch-clause-more c = more_and_more _ _ _ _ c.loop-q.invariant.more c.in_ok-close_edge.ensures.more

pub loop-q-preserved : goal.loop-q-preserved
loop-q-preserved c =
    let points = c.args.points.now in
    let face = c.args.face.now in
    let old = c.loop-q.faces.items in
    let new = c.close_edge.new.faces.items in
    let P : V3 → Type 0 = λ q. IsEdge points face c.args.p q → IsJoined new face c.args.p q in
    let more = c.in_ok-close_edge.ensures.more in
    record {
      more = more_and_more points c.args.faces.now.items old new c.loop-q.invariant.more more;
      closed = subst (All P) (sym (take_more c.args.on.now c.loop-q.q-index _ c.loop-q-test.true))
          (All-push P (take c.loop-q.q-index c.args.on.now) _
          (All-weaker (λ q. IsEdge points face c.args.p q → IsJoined old face c.args.p q) P (λ q joined edge. joined_after points old new face c.args.p q more (joined edge)) (take c.loop-q.q-index c.args.on.now) c.loop-q.invariant.closed)
          (c.in_ok-close_edge.ensures.closed c.if-not-branch.false));
    }

pub returns-clause-closed : goal.returns-clause-closed
returns-clause-closed c done =
    let P : V3 → Type 0 = λ q. IsEdge c.args.points.now c.args.face.now c.args.p q → IsJoined c.loop-q.faces.items c.args.face.now c.args.p q in
    subst (All P) (take_all c.loop-q.q-index c.args.on.now (omega (arith, c.loop-q-test.false))) c.loop-q.invariant.closed
