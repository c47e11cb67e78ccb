-- Boxes that a ray meets.
use Rattle.std.specs.Prelude.{◌≡◌, ℕ, ◌*◌, ◌^◌, unsigned_abs, ◌<ℤ◌, List}
use Rattle.gx_num.specs.declared.vector.TheConstants.{M}
use Rattle.gx_num.specs.declared.extent.Extent.{Extent}
use Rattle.gx_num.specs.declared.ray.Ray.{Ray}
use Rattle.gx_num.specs.Vector.{IsWithin}
use Rattle.gx_num.specs.Vector4.{Vec4}
use Rattle.gx_num.specs.Ray.{RayParameter, IsPositive, point_of_ray}
use Rattle.gx_convex.specs.Laws.{IsBetween}
use Rattle.gx_offers.specs.Offers.{AnyByRecursion}
use Rattle.gx_boxes.specs.declared.boxed.Boxed.{Boxed}

-- the greatest magnitude of a box's coordinate: of a daughter's in her mother's frame
abbrev pub reach : ℕ
reach = 2 * unsigned_abs M

-- an extent within reach that isn't empty on any axis
pub record IsProper (e : Extent) : Type 0 where
  pub low : IsWithin reach e.low
  pub high : IsWithin reach e.high
  pub x : e.low.x <ℤ e.high.x
  pub y : e.low.y <ℤ e.high.y
  pub z : e.low.z <ℤ e.high.z

-- the point is in the open extent: strictly between its least and its greatest coordinate on each axis
pub record IsWithinOpen (e : Extent) (p : Vec4) : Type 0 where
  pub x : IsBetween e.low.x e.high.x p.x p.w
  pub y : IsBetween e.low.y e.high.y p.y p.w
  pub z : IsBetween e.low.z e.high.z p.z p.w

-- after its origin the ray has a point in the open extent
abbrev pub IsMet : Extent → Ray → Type 0
IsMet e ray = (t : RayParameter) × IsPositive t × IsWithinOpen e (point_of_ray ray t)

-- a ray of numbers whose products with coordinates of boxes fit
pub record IsNear (ray : Ray) : Type 0 where
  pub origin : IsWithin (2 ^ 31) ray.o
  pub direction : IsWithin (2 ^ 31) ray.d

-- the ray meets a box with the number
abbrev pub IsMetAmong : List Boxed → Ray → ℕ → Type 0
IsMetAmong boxes ray k = AnyByRecursion (λ b. (b.number ≡ k) × IsMet b.extent ray) boxes
