-- What it takes for points to be the vertices of a solid (any text on convex geometry).
use Rattle.std.specs.Prelude.{◌≡◌, pos, ◌<ℤ◌, ◌≤ℤ◌, ◌*ℤ◌, IsTrue, false, List, All}
use Rattle.gx_num.specs.declared.vector.V3.{V3}
use Rattle.gx_num.specs.Space.{HalfSpace, is_in, normal_dot}
use Rattle.gx_num.specs.Vector4.{Vec4}
use Rattle.gx_plane.specs.Plane.{supports, is_zero}

-- the point is at n . p <= e
abbrev pub IsAtMost : HalfSpace → Vec4 → Type 0
IsAtMost h p = normal_dot h p ≤ℤ (h.e *ℤ p.w)

-- an inequality of a solid: it speaks of a plane, and no vertex is beyond it
pub record IsBound (vertices : List V3) (h : HalfSpace) : Type 0 where
  pub plane : is_zero h.n ≡ false
  pub supports : IsTrue (supports h vertices)

-- The vertices are those of the solid: each of its inequalities bounds them, and what bounds them bounds its points.
pub record IsHullOf (solid : List HalfSpace) (vertices : List V3) : Type 0 where
  pub bounds : All (IsBound vertices) solid
  pub bounded : (h : HalfSpace) → IsTrue (supports h vertices) → (p : Vec4) → pos 0 <ℤ p.w → IsTrue (is_in solid p) → IsAtMost h p
