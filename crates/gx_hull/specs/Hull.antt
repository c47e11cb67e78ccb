-- The hull that points have, or why they have none.
use Rattle.std.specs.Prelude.{◌≡◌, ◌≤◌, false, nat_lt, if◌then◌else◌, List, length, All, Result, Ok, Err}
use Rattle.gx_num.specs.declared.vector.V3.{V3}
use Rattle.gx_num.specs.Vector.{IsWithin}
use Rattle.gx_plane.specs.Plane.{reach}
use Rattle.gx_convex.specs.Points.{distinct, are_coplanar}
use Rattle.gx_hull.specs.declared.fault.HullFault.{HullFault}
use Rattle.gx_hull.specs.declared.fault.HullFault.TheVariants.{Vertices, Flat, NoMemory}

-- what the vertices of a hull keep
pub record IsVertices (vertices : List V3) : Type 0 where
  pub few : length vertices ≤ 32
  pub within : All (IsWithin reach) vertices
  pub once : distinct vertices ≡ vertices
  pub solid : are_coplanar vertices ≡ false

abbrev pub unless_flat : List V3 → Result (List V3) HullFault
unless_flat vertices = if are_coplanar vertices then Err Flat else Ok vertices

-- the vertices of the hull of points, or why there is none
abbrev pub hull_of : List V3 → Result (List V3) HullFault
hull_of points = if nat_lt 32 (length (distinct points)) then Err Vertices else unless_flat (distinct points)

-- the cause of a fault; want of memory has none
abbrev pub IsHullCause : Result (List V3) HullFault → HullFault → Type 0
IsHullCause hull Vertices = hull ≡ Err Vertices
IsHullCause hull Flat = hull ≡ Err Flat
IsHullCause hull NoMemory = Unit {0}
