-- The points of a ray, axis by axis.
use Rattle.std.proofs.Common.{◌≡◌, ℕ, pos, ◌+ℤ◌, ◌*ℤ◌, Bool, true, false, refl}
use Rattle.std.specs.Prelude.{◌==◌, if◌then◌else◌}
use Rattle.gx_num.specs.Ray.{RayParameter, point_of_ray}
use Rattle.gx_num.specs.declared.ray.Ray.{Ray}
use Rattle.gx_voxel.specs.Cut.{coordinate}
use Rattle.gx_voxel.specs.Cells.{coordinate4}

pub on-axis : (ray : Ray) (t : RayParameter) (axis : ℕ) → coordinate4 axis (point_of_ray ray t) ≡ pos t.den *ℤ coordinate axis ray.o +ℤ pos t.num *ℤ coordinate axis ray.d
on-axis ray t axis = go (axis == 0) (axis == 1)
  where
    go : (a b : Bool) → (if a then (point_of_ray ray t).x else if b then (point_of_ray ray t).y else (point_of_ray ray t).z)
        ≡ pos t.den *ℤ (if a then ray.o.x else if b then ray.o.y else ray.o.z) +ℤ pos t.num *ℤ (if a then ray.d.x else if b then ray.d.y else ray.d.z)
    go true b = refl
    go false true = refl
    go false false = refl
