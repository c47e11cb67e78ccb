-- The rays that are kept.
use Rattle.std.specs.Prelude.{unsigned_abs}
use Rattle.gx_num.specs.declared.vector.TheConstants.{M}
use Rattle.gx_num.specs.declared.ray.Ray.{Ray}
use Rattle.gx_num.specs.Vector.{IsWithin}
use Rattle.gx_num.specs.Ray.{HasDirection}

-- origin and direction are at most M, and the direction isn't zero
pub record IsTraceable (ray : Ray) : Type 0 where
  pub origin : IsWithin (unsigned_abs M) ray.o
  pub direction : IsWithin (unsigned_abs M) ray.d
  pub moves : HasDirection ray
