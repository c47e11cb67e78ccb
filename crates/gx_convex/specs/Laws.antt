-- The faces of a solid's vertices are the solid (any text on convex geometry).
use Rattle.std.specs.Prelude.{◌≡◌, ℤ, pos, ◌<ℤ◌, ◌*ℤ◌, false, IsTrue, List}
use Rattle.gx_num.specs.declared.vector.V3.{V3}
use Rattle.gx_num.specs.Space.{HalfSpace, is_in, is_inside}
use Rattle.gx_num.specs.Vector4.{Vec4}
use Rattle.gx_plane.specs.Plane.{supports}
use Rattle.gx_convex.specs.Points.{are_coplanar}
use Rattle.gx_convex.specs.Faces.{faces_of}
use Rattle.gx_convex.specs.Extent.{extent_of}
use Rattle.gx_convex.specs.Hull.{IsAtMost, IsHullOf}

-- the point is strictly between the two coordinates
pub record IsBetween (low high at w : ℤ) : Type 0 where
  pub above : (low *ℤ w) <ℤ at
  pub below : at <ℤ (high *ℤ w)

-- strictly between the least and the greatest coordinates on each axis
pub record IsWithinExtent (vertices : List V3) (p : Vec4) : Type 0 where
  pub x : IsBetween (extent_of vertices).low.x (extent_of vertices).high.x p.x p.w
  pub y : IsBetween (extent_of vertices).low.y (extent_of vertices).high.y p.y p.w
  pub z : IsBetween (extent_of vertices).low.z (extent_of vertices).high.z p.z p.w

-- A point is in, or inside, a solid exactly where it is so by the faces of its vertices; what bounds the vertices bounds each
-- point in the solid; a point inside is strictly within the extent.
pub record AreTheSolid (solid : List HalfSpace) (vertices : List V3) : Type 0 where
  pub same_in : (p : Vec4) → pos 0 <ℤ p.w → is_in solid p ≡ is_in (faces_of vertices) p
  pub same_inside : (p : Vec4) → pos 0 <ℤ p.w → is_inside solid p ≡ is_inside (faces_of vertices) p
  pub bounded : (h : HalfSpace) → IsTrue (supports h vertices) → (p : Vec4) → pos 0 <ℤ p.w → IsTrue (is_in solid p) → IsAtMost h p
  pub extent : (p : Vec4) → pos 0 <ℤ p.w → IsTrue (is_inside solid p) → IsWithinExtent vertices p

abbrev pub FacesAreTheSolid : Type 0
FacesAreTheSolid = (solid : List HalfSpace) (vertices : List V3) → are_coplanar vertices ≡ false → IsHullOf solid vertices → AreTheSolid solid vertices
