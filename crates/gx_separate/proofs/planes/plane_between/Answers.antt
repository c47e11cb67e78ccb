use Rattle.std.proofs.Common.{◌≡◌, List, ◌∙◌, subst}
use Rattle.gx_num.specs.declared.vector.V3.{V3}
use Rattle.gx_num.specs.Vector.{IsWithin}
use Rattle.gx_plane.specs.Plane.{reach}
use Rattle.gx_convex.specs.Extent.{extent_of}
use Rattle.gx_hull.specs.Hull.{IsVertices}
use Rattle.gx_separate.specs.Boxes.{between_boxes}
use Rattle.gx_separate.proofs.AxisPlanes.{IsWithin-extent_of, found, not_found}
use Rattle.gx_separate.proofs.planes.plane_between.Goals as goal
use Rattle.gx_separate.proofs.planes.plane_between.Goals.{After-extent-2, After-between_boxes}

first : (c : After-extent-2) → IsVertices c.args.a.now
first c = subst IsVertices c.vertices-vertices.ensures.value c.vertices-vertices.ensures.kept

second : (c : After-extent-2) → IsVertices c.args.b.now
second c = subst IsVertices c.vertices-others.ensures.value c.vertices-others.ensures.kept

ends : (a : List V3) → IsVertices a → IsWithin reach (extent_of a).low × IsWithin reach (extent_of a).high
ends a v = IsWithin-extent_of reach a v.solid v.within

pub between_boxes-requires-clause-low : goal.between_boxes-requires-clause-low
between_boxes-requires-clause-low c = rw c.extent.ensures (ends c.args.a.now (first c)).0

pub between_boxes-requires-clause-high : goal.between_boxes-requires-clause-high
between_boxes-requires-clause-high c = rw c.extent.ensures (ends c.args.a.now (first c)).1

pub between_boxes-requires-clause-other_low : goal.between_boxes-requires-clause-other_low
between_boxes-requires-clause-other_low c = rw c.extent-2.ensures (ends c.args.b.now (second c)).0

pub between_boxes-requires-clause-other_high : goal.between_boxes-requires-clause-other_high
between_boxes-requires-clause-other_high c = rw c.extent-2.ensures (ends c.args.b.now (second c)).1

boxes : (c : After-between_boxes) → c.between_boxes.result ≡ between_boxes (extent_of c.args.a.now) (extent_of c.args.b.now)
boxes c = rw (c.extent.ensures, c.extent-2.ensures) at c.between_boxes.ensures

pub returns-in-Some : goal.returns-in-Some
returns-in-Some c =
    let d = goal.at.returns-in-Some c in
    found c.args.a.now c.args.b.now c.between_boxes.result c.in-Some.plane (first d.After-extent-2).solid (second d.After-extent-2).solid (boxes d.After-between_boxes) c.in-Some.is

pub returns : goal.returns
returns c =
    let d = goal.at.returns c in
    (rw (c.vertices-vertices.ensures.value, c.vertices-others.ensures.value) at c.first_triple_between.ensures)
    ∙ not_found c.args.a.now c.args.b.now c.between_boxes.result (first d.After-extent-2).solid (second d.After-extent-2).solid (boxes d.After-between_boxes) c.in_default.is
