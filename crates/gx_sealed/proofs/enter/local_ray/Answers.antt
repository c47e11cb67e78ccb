use Rattle.std.proofs.Common.{◌∙◌, ◌+◌, unsigned_abs, ap, sym, subst}
use Rattle.gx_num.specs.declared.vector.TheConstants.{M}
use Rattle.gx_num.specs.declared.vector.V3.{V3}
use Rattle.gx_num.specs.Vector.{IsWithin, difference_of}
use Rattle.gx_num.specs.Ray.{HasDirection}
use Rattle.gx_rotation.specs.Matrix.{image}
use Rattle.gx_tree.specs.Hierarchy.{IsRotation}
use Rattle.gx_frame.proofs.Frames.{rays_move_on}
use Rattle.gx_sealed.proofs.Turned.{IsWithin-image, IsWithin-difference}
use Rattle.gx_sealed.proofs.enter.local_ray.Goals as goal
use Rattle.gx_sealed.proofs.enter.local_ray.Goals.{After-index}

rotation : (c : After-index) → IsRotation c.args.instance.now.rotation
rotation c = record { index = c.index.result; below = c.index.ensures.below; same = c.index.ensures.value }

pub returns-clause-origin : goal.returns-clause-origin
returns-clause-origin c = λ bound within.
    let i = c.args.instance.now in
    let o = c.args.ray.now.o in
    subst (IsWithin (bound + unsigned_abs M)) (sym (c.apply.ensures ∙ ap (image i.rotation) c.sub.ensures))
    (IsWithin-image i.rotation (rotation (goal.at.returns-clause-origin c).After-index) (bound + unsigned_abs M) (difference_of o i.offset)
    (IsWithin-difference bound (unsigned_abs M) o i.offset within c.requires.offset))

pub returns-clause-direction : goal.returns-clause-direction
returns-clause-direction c = λ bound within.
    let i = c.args.instance.now in
    subst (IsWithin bound) (sym c.apply-2.ensures) (IsWithin-image i.rotation (rotation (goal.at.returns-clause-direction c).After-index) bound c.args.ray.now.d within)

pub returns-clause-moves : goal.returns-clause-moves
returns-clause-moves c =
    let i = c.args.instance.now in
    subst (λ (d : V3). HasDirection (record { o = c.apply.result; d = d })) (sym c.apply-2.ensures) (rays_move_on i c.args.ray.now (rotation (goal.at.returns-clause-moves c).After-index) c.requires.ray.moves)
