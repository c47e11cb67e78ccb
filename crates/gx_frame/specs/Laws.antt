-- Laws of frames.
use Rattle.std.specs.Prelude.{◌≡◌}
use Rattle.gx_num.specs.declared.ray.Ray.{Ray}
use Rattle.gx_num.specs.Ray.{RayParameter, HasDirection, point_of_ray}
use Rattle.gx_tree.specs.declared.instance.Instance.{Instance}
use Rattle.gx_tree.specs.Hierarchy.{IsRotation}
use Rattle.gx_tree.specs.Deepest.{local_of}
use Rattle.gx_frame.specs.Frames.{local_ray}

-- a point at a parameter of a ray, in the daughter's frame, is at the same parameter of the ray there
abbrev pub PointsStay : Type 0
PointsStay = (i : Instance) (ray : Ray) (t : RayParameter) → local_of i (point_of_ray ray t) ≡ point_of_ray (local_ray i ray) t

-- turned, a direction stays one
abbrev pub RaysMoveOn : Type 0
RaysMoveOn = (i : Instance) (ray : Ray) → IsRotation i.rotation → HasDirection ray → HasDirection (local_ray i ray)
