-- Parameters of a ray and their order, and the points of a ray.
use Rattle.std.specs.Prelude.{◌≡◌, ℕ, ◌*◌, ◌<◌, ◌≤◌, ◌+ℤ◌, ◌*ℤ◌, pos}
use Rattle.gx_num.specs.declared.ray.Ray.{Ray}
use Rattle.gx_num.specs.Vector4.{Vec4}

-- A parameter t = num/den of a ray, a fraction that isn't negative; den is above 0.
pub record RayParameter : Type 0 where
  pub num : ℕ
  pub den : ℕ

abbrev pub IsPositive : RayParameter → Type 0
IsPositive t = (0 < t.num) × (0 < t.den)

-- s < t, by products crosswise
abbrev pub IsBelow : RayParameter → RayParameter → Type 0
IsBelow s t = s.num * t.den < t.num * s.den

-- s <= t
abbrev pub IsUpTo : RayParameter → RayParameter → Type 0
IsUpTo s t = s.num * t.den ≤ t.num * s.den

-- the point o + t*d of a ray: (den*o + num*d, den)
abbrev pub point_of_ray : Ray → RayParameter → Vec4
point_of_ray ray t = record {
  x = pos t.den *ℤ ray.o.x +ℤ pos t.num *ℤ ray.d.x;
  y = pos t.den *ℤ ray.o.y +ℤ pos t.num *ℤ ray.d.y;
  z = pos t.den *ℤ ray.o.z +ℤ pos t.num *ℤ ray.d.z;
  w = pos t.den;
}

-- the direction isn't zero
abbrev pub HasDirection : Ray → Type 0
HasDirection ray = ray.d.x ≡ pos 0 → ray.d.y ≡ pos 0 → ray.d.z ≡ pos 0 → ⊥
