use Rattle.std.proofs.Common.{◌≡◌, ◌∙◌, ◌+◌, ◌<◌, length, ap, subst, All, arith}
use Rattle.std.proofs.lemmas.List.{take_all, length-append}
use Rattle.gx_faces.specs.Closed.{IsClosedAt}
use Rattle.gx_faces.proofs.Found.{closed_further, faces_further, some_of}
use Rattle.gx_faces.proofs.closed.closed_faces.Goals as goal

pub returns-then-i-len : goal.returns-then-i-len
returns-then-i-len c =
    let faces = c.loop-i.faces.items in
    let some = some_of faces c.loop-i.invariant.some in
    record {
      some = some.0;
      some_in = some.1;
      each = c.loop-i.invariant.each;
      closed = subst (All (IsClosedAt c.args.points.now faces)) (take_all c.loop-i.i faces (omega (arith, c.if-i-len.true, c.len.ensures))) c.loop-i.invariant.closed;
    }

pub loop-i-preserved : goal.loop-i-preserved
loop-i-preserved c =
    let old = c.loop-i.faces.items in
    let new = c.close_face.new.faces.items in
    let more = c.in_ok-close_face.ensures.more in
    let less : c.loop-i.i < length old = omega (arith, c.loop-i.invariant.bound, c.if-i-len.false, c.len.ensures) in
    let long : length new ≡ length old + length more.more = ap length more.same ∙ length-append old more.more in
    record {
      bound = omega (arith, less, long);
      some = omega (arith, less, long);
      each = faces_further c.args.points.now old new more c.loop-i.invariant.each;
      closed = closed_further c.args.points.now old new c.loop-i.i _ more less c.loop-i.invariant.closed (rw c.index.ensures at (c.in_ok-close_face.ensures.closed c.if-not-branch.false));
    }
