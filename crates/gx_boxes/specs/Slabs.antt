-- Private to this crate: a box by its slabs, one along each axis, and the ray's points between their sides.
use Rattle.std.specs.Prelude.{◌≡◌, ℤ, ◌*ℤ◌, ◌≤ℤ◌, ◌<ℤ◌, pos}
use Rattle.gx_num.specs.Ray.{RayParameter}
use Rattle.gx_convex.specs.Laws.{IsBetween}
use Rattle.gx_boxes.specs.declared.slab.Slab.{Slab}
use Rattle.gx_boxes.specs.declared.slab.Reached.{Reached}

-- at the parameter the ray is strictly between the two sides
abbrev pub IsCrossed : Slab → RayParameter → Type 0
IsCrossed slab t = IsBetween slab.low slab.high (pos t.num *ℤ slab.speed) (pos t.den)

-- from the lesser to the greater of both sides times a factor
pub record IsReached (low high factor : ℤ) (r : Reached) : Type 0 where
  pub forward : pos 0 ≤ℤ factor → (r.least ≡ low *ℤ factor) × (r.greatest ≡ high *ℤ factor)
  pub back : factor <ℤ pos 0 → (r.least ≡ high *ℤ factor) × (r.greatest ≡ low *ℤ factor)
