-- The first plane between two lists of points: along an axis, or through three of the points.
use Rattle.std.specs.Prelude.{true, false, List, [], ◌∷◌, ◌++◌, find, Option}
use Rattle.gx_num.specs.declared.vector.V3.{V3}
use Rattle.gx_num.specs.declared.extent.Extent.{Extent}
use Rattle.gx_num.specs.Space.{HalfSpace}
use Rattle.gx_plane.specs.Plane.{plane_along}
use Rattle.gx_plane.specs.Between.{is_between, candidates}
use Rattle.gx_convex.specs.Extent.{extent_of}

-- for each axis the plane with the box on its low side, then the plane with the box on its high side
abbrev pub axis_planes : Extent → List HalfSpace
axis_planes box =
    plane_along 0 true box.high.x ∷ plane_along 0 false box.low.x ∷
    plane_along 1 true box.high.y ∷ plane_along 1 false box.low.y ∷
    plane_along 2 true box.high.z ∷ plane_along 2 false box.low.z ∷ []

-- the first that is between, of the planes along the axes and then those through three of the points, each both ways
abbrev pub first_between : List V3 → List V3 → Option HalfSpace
first_between a b = find (is_between a b) (axis_planes (extent_of a) ++ candidates (a ++ b))
