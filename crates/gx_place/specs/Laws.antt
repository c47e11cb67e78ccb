-- The faces of a placed solid's vertices are the placed solid (any text on linear algebra).
use Rattle.std.specs.Prelude.{◌≡◌, ℕ, ◌<◌, pos, ◌<ℤ◌, false, List, map}
use Rattle.gx_num.specs.declared.vector.V3.{V3}
use Rattle.gx_num.specs.Space.{HalfSpace, is_in, is_inside}
use Rattle.gx_num.specs.Vector4.{Vec4}
use Rattle.gx_convex.specs.Points.{are_coplanar}
use Rattle.gx_convex.specs.Faces.{faces_of}
use Rattle.gx_convex.specs.Hull.{IsHullOf}
use Rattle.gx_rotation.specs.Matrix.{Matrix}
use Rattle.gx_rotation.specs.Rotation.{matrix_of}
use Rattle.gx_rotation.specs.Place.{local_point, placed_point, placed_face}

-- The faces of the placed vertices are the placed faces; a point is in, or inside, them exactly where its local point is in, or inside, the solid.
pub record IsPlaced (rotation : Matrix) (offset : V3) (solid : List HalfSpace) (vertices : List V3) : Type 0 where
  pub faces : faces_of (map (placed_point rotation offset) vertices) ≡ map (placed_face rotation offset) (faces_of vertices)
  pub same_in : (p : Vec4) → pos 0 <ℤ p.w → is_in (faces_of (map (placed_point rotation offset) vertices)) p ≡ is_in solid (local_point rotation offset p)
  pub same_inside : (p : Vec4) → pos 0 <ℤ p.w → is_inside (faces_of (map (placed_point rotation offset) vertices)) p ≡ is_inside solid (local_point rotation offset p)

-- so it is for every rotation and offset, and any solid
abbrev pub PlacedSolids : Type 0
PlacedSolids = (k : ℕ) → k < 24 → (offset : V3) (solid : List HalfSpace) (vertices : List V3) → are_coplanar vertices ≡ false → IsHullOf solid vertices → IsPlaced (matrix_of k) offset solid vertices
