-- Private to this crate: the search for faces over edges.
use Rattle.std.specs.Prelude.{◌≡◌, pos, Bool, not, ◌&&◌, List, ◌++◌, All, Contains}
use Rattle.std.specs.Ordering.{int_eq}
use Rattle.gx_num.specs.declared.vector.V3.{V3}
use Rattle.gx_num.specs.Space.{HalfSpace}
use Rattle.gx_plane.specs.Plane.{side_of}
use Rattle.gx_convex.specs.Faces.{is_same_plane, faces_of}

-- a point of the plane
abbrev pub is_on : HalfSpace → V3 → Bool
is_on h p = int_eq (side_of h p) (pos 0)

-- another plane through both points
abbrev pub joins : HalfSpace → V3 → V3 → HalfSpace → Bool
joins h p q other = not (is_same_plane other h) && (is_on other p && is_on other q)

-- faces of the points came after those that were there
pub record AreMore (points : List V3) (old new : List HalfSpace) : Type 0 where
  pub more : List HalfSpace
  pub same : new ≡ old ++ more
  pub each : All (Contains (faces_of points)) more
