use Rattle.std.proofs.Common.{take, List, All, sym, subst, arith}
use Rattle.std.proofs.lemmas.List.{take_more, take_all}
use Rattle.std.proofs.lemmas.List.Elements.{All-push, All-weaker}
use Rattle.gx_num.specs.declared.vector.V3.{V3}
use Rattle.gx_num.specs.Space.{HalfSpace}
use Rattle.gx_faces.specs.Closed.{IsEdge, IsJoined}
use Rattle.gx_faces.proofs.Found.{more_and_more, joined_after}
use Rattle.gx_faces.proofs.closed.close_all.Goals as goal

pub returns-then-not-branch-clause-more : goal.returns-then-not-branch-clause-more
returns-then-not-branch-clause-more c = more_and_more _ _ _ _ c.loop-p.invariant.more c.in_ok-close_from.ensures.more

pub loop-p-preserved : goal.loop-p-preserved
loop-p-preserved c =
    let points = c.args.points.now in
    let face = c.args.face.now in
    let on = c.args.on.now in
    let old = c.loop-p.faces.items in
    let new = c.close_from.new.faces.items in
    let Q : List HalfSpace → V3 → V3 → Type 0 = λ faces p q. IsEdge points face p q → IsJoined faces face p q in
    let P : V3 → Type 0 = λ p. All (Q new p) on in
    let more = c.in_ok-close_from.ensures.more in
    record {
      more = more_and_more points c.args.faces.now.items old new c.loop-p.invariant.more more;
      closed = subst (All P) (sym (take_more on c.loop-p.p-index _ c.loop-p-test.true))
          (All-push P (take c.loop-p.p-index on) _
          (All-weaker (λ p. All (Q old p) on) P (λ p all. All-weaker (Q old p) (Q new p) (λ q joined edge. joined_after points old new face p q more (joined edge)) on all) (take c.loop-p.p-index on) c.loop-p.invariant.closed)
          (c.in_ok-close_from.ensures.closed c.if-not-branch.false));
    }

pub returns-clause-closed : goal.returns-clause-closed
returns-clause-closed c done =
    let P : V3 → Type 0 = λ p. All (λ q. IsEdge c.args.points.now c.args.face.now p q → IsJoined c.loop-p.faces.items c.args.face.now p q) c.args.on.now in
    subst (All P) (take_all c.loop-p.p-index c.args.on.now (omega (arith, c.loop-p-test.false))) c.loop-p.invariant.closed
