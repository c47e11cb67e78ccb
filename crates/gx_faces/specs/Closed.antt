-- Faces of points that hang together: no edge of one is without a neighbour (any text on convex polytopes).
use Rattle.std.specs.Prelude.{◌≡◌, ◌≢◌, pos, ◌≤ℤ◌, ℤ, false, List, All, Contains}
use Rattle.gx_num.specs.declared.vector.V3.{V3}
use Rattle.gx_num.specs.Vector.{dot_of, cross_of, difference_of}
use Rattle.gx_num.specs.Space.{HalfSpace}
use Rattle.gx_plane.specs.Plane.{side_of}
use Rattle.gx_convex.specs.Points.{are_coplanar}
use Rattle.gx_convex.specs.Faces.{faces_of}

-- how far r is to the left of the way from p to q, seen from beyond the plane
abbrev pub turn_of : HalfSpace → V3 → V3 → V3 → ℤ
turn_of h p q r = dot_of h.n (cross_of (difference_of q p) (difference_of r p))

-- the way between two of the vertices in a plane, which has none of the others in it at its right
pub record IsEdge (vertices : List V3) (h : HalfSpace) (p q : V3) : Type 0 where
  pub first_in : Contains vertices p
  pub second_in : Contains vertices q
  pub apart : p ≢ q
  pub first : side_of h p ≡ pos 0
  pub second : side_of h q ≡ pos 0
  pub left : All (λ r. side_of h r ≡ pos 0 → pos 0 ≤ℤ turn_of h p q r) vertices

-- another of the faces is through both points
pub record IsJoined (faces : List HalfSpace) (h : HalfSpace) (p q : V3) : Type 0 where
  pub other : HalfSpace
  pub is_face : Contains faces other
  pub apart : other ≢ h
  pub first : side_of other p ≡ pos 0
  pub second : side_of other q ≡ pos 0

-- each edge of a face is joined
abbrev pub IsClosedAt : List V3 → List HalfSpace → HalfSpace → Type 0
IsClosedAt vertices faces h = (p q : V3) → IsEdge vertices h p q → IsJoined faces h p q

-- some of the faces of vertices, of which each edge is joined
pub record AreClosed (vertices : List V3) (faces : List HalfSpace) : Type 0 where
  pub some : HalfSpace
  pub some_in : Contains faces some
  pub each : All (Contains (faces_of vertices)) faces
  pub closed : All (IsClosedAt vertices faces) faces

-- such faces are all faces
abbrev pub ClosedFacesAreAll : Type 0
ClosedFacesAreAll = (vertices : List V3) (faces : List HalfSpace) → are_coplanar vertices ≡ false → AreClosed vertices faces → All (Contains faces) (faces_of vertices)
