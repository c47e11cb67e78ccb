-- The part of a ray that is inside a solid.
use Rattle.std.specs.Prelude.{◌≡◌, ◌↔◌, ℕ, ◌*◌, ◌≤◌, ◌<ℤ◌, pos, true, false, unsigned_abs, IsTrue, List, Option, None, Some}
use Rattle.gx_num.specs.declared.ray.Ray.{Ray}
use Rattle.gx_num.specs.Number.{IsLowest}
use Rattle.gx_num.specs.Vector4.{Vec4}
use Rattle.gx_num.specs.Space.{HalfSpace, is_inside}
use Rattle.gx_num.specs.Ray.{RayParameter, IsPositive, IsBelow, point_of_ray}
use Rattle.gx_fraction.specs.Fraction.{parameter_of}
use Rattle.gx_clip.specs.declared.span.Span.{Span}

-- the point is at most so far from the origin on each axis
pub record IsReached (reach : ℕ) (p : Vec4) : Type 0 where
  pub x : unsigned_abs p.x ≤ reach * unsigned_abs p.w
  pub y : unsigned_abs p.y ≤ reach * unsigned_abs p.w
  pub z : unsigned_abs p.z ≤ reach * unsigned_abs p.w

-- no point inside is farther out
pub record IsBounded (solid : List HalfSpace) : Type 0 where
  pub reach : ℕ
  pub within : (p : Vec4) → pos 0 <ℤ p.w → is_inside solid p ≡ true → IsReached reach p

-- above 0 the ray is inside exactly strictly between two ends, in lowest terms
pub record IsInsideBetween (solid : List HalfSpace) (ray : Ray) (from to : RayParameter) : Type 0 where
  pub from_lowest : IsLowest from.num from.den
  pub to_lowest : IsLowest to.num to.den
  pub ordered : IsBelow from to
  pub inside : (t : RayParameter) → IsPositive t → IsTrue (is_inside solid (point_of_ray ray t)) ↔ (IsBelow from t × IsBelow t to)

-- the part of the ray above 0 that is inside: a span, or nothing where it is inside nowhere
abbrev pub IsClip : List HalfSpace → Ray → Option Span → Type 0
IsClip solid ray None = (t : RayParameter) → IsPositive t → is_inside solid (point_of_ray ray t) ≡ false
IsClip solid ray (Some span) = IsInsideBetween solid ray (parameter_of span.from) (parameter_of span.to)
