use Rattle.std.proofs.Common.{◌≡◌, ◌++◌, ap, ◌∙◌}
use Rattle.gx_convex.specs.Faces.{faces_of}
use Rattle.gx_common.specs.Common.{candidate_points, taken_of}
use Rattle.gx_common.specs.Slots.{after, points_in}
use Rattle.gx_common.proofs.Offered.{points_in-after}
use Rattle.gx_common.proofs.common.take_into.Goals as goal

pub returns : goal.returns
returns c =
    let a = c.args.a.now in
    let b = c.args.b.now in
    let e : points_in c.fill.new.slots ≡ taken_of a b = ap points_in (c.in_ok-fill.ensures ∙ ap (after (candidate_points a b)) c.requires) ∙ points_in-after (candidate_points a b) (faces_of a ++ faces_of b) in
    rw e at c.points.ensures
