use Rattle.std.proofs.Common.{◌∙◌, sym, arith}
use Rattle.gx_num.specs.Ray.{RayParameter, point_of_ray}
use Rattle.gx_boxes.specs.Boxes.{IsWithinOpen}
use Rattle.gx_boxes.specs.Slabs.{IsCrossed}
use Rattle.gx_boxes.proofs.Slabs.{crossed}
use Rattle.gx_boxes.proofs.rejection.misses.Goals as goal
use Rattle.gx_boxes.proofs.rejection.misses.Goals.{After-new-z, then-is_missed, else-is_missed}

crossed_x : (c : After-new-z) (t : RayParameter) → IsWithinOpen c.args.extent.now (point_of_ray c.args.ray.now t) → IsCrossed c.new-x.result t
crossed_x c t is =
    let e = c.args.extent.now in
    let r = c.args.ray.now in
    crossed e.low.x e.high.x r.o.x r.d.x (omega (arith, c.requires.low.x)) (omega (arith, c.requires.high.x)) c.requires.ray.origin.x c.requires.ray.direction.x c.new-x.result t c.new-x.ensures.low c.new-x.ensures.high c.new-x.ensures.speed is.x

crossed_y : (c : After-new-z) (t : RayParameter) → IsWithinOpen c.args.extent.now (point_of_ray c.args.ray.now t) → IsCrossed c.new-y.result t
crossed_y c t is =
    let e = c.args.extent.now in
    let r = c.args.ray.now in
    crossed e.low.y e.high.y r.o.y r.d.y (omega (arith, c.requires.low.y)) (omega (arith, c.requires.high.y)) c.requires.ray.origin.y c.requires.ray.direction.y c.new-y.result t c.new-y.ensures.low c.new-y.ensures.high c.new-y.ensures.speed is.y

crossed_z : (c : After-new-z) (t : RayParameter) → IsWithinOpen c.args.extent.now (point_of_ray c.args.ray.now t) → IsCrossed c.new-z.result t
crossed_z c t is =
    let e = c.args.extent.now in
    let r = c.args.ray.now in
    crossed e.low.z e.high.z r.o.z r.d.z (omega (arith, c.requires.low.z)) (omega (arith, c.requires.high.z)) c.requires.ray.origin.z c.requires.ray.direction.z c.new-z.result t c.new-z.ensures.low c.new-z.ensures.high c.new-z.ensures.speed is.z

pub returns-then-is_missed-2 : goal.returns-then-is_missed-2
returns-then-is_missed-2 c = λ missed met.
    let d = (goal.at.returns-then-is_missed-2 c).After-new-z in
    elim c.if-is_missed.branch [
      | then-is_missed w ↦ c.is_missed.ensures w.if-is_missed.true met.0 met.1 (crossed_x d met.0 met.2) (crossed_y d met.0 met.2)
      | else-is_missed w ↦ w.is_missed-else-is_missed.ensures (sym w.value-is ∙ missed) met.0 met.1 (crossed_y d met.0 met.2) (crossed_z d met.0 met.2)
    ]

pub returns-else-is_missed-2 : goal.returns-else-is_missed-2
returns-else-is_missed-2 c = λ missed met.
    let d = (goal.at.returns-else-is_missed-2 c).After-new-z in
    c.is_missed-else-is_missed-2.ensures missed met.0 met.1 (crossed_z d met.0 met.2) (crossed_x d met.0 met.2)
