-- The slabs of a mother that is filled by copies side by side, and what offering these does.
use Rattle.std.specs.Prelude.{ℕ, ◌+◌, ◌<◌, ◌≤◌, ℤ, pos, ◌+ℤ◌, ◌*ℤ◌, Bool, List, [], ◌∷◌, length, map}
use Rattle.std.specs.List.{range_with_len}
use Rattle.gx_num.specs.declared.ray.Ray.{Ray}
use Rattle.gx_num.specs.Ray.{RayParameter, point_of_ray}
use Rattle.gx_offers.specs.Offers.{Offered, IsOffered}
use Rattle.gx_voxel.specs.Cells.{Side, Cell, IsInSide}
use Rattle.gx_along.specs.declared.line.Stretch.{Stretch}
use Rattle.gx_along.specs.Line.{IsWithin}
use Rattle.gx_along.specs.Bounds.{tests_within, IsBoxTest}

-- copy k goes on the axis from low + k * width up to, and without, low + (k + 1) * width
abbrev pub slab_of : ℕ → ℤ → ℤ → ℕ → Side
slab_of axis low width k = record { axis = axis; low = low +ℤ pos k *ℤ width; high = low +ℤ pos (k + 1) *ℤ width }

-- a box for each slab, with its copy as the only member
abbrev pub slab_cells : ℕ → ℤ → ℤ → ℕ → List Cell
slab_cells axis low width count = map (λ k. record { box = slab_of axis low width k ∷ []; members = k ∷ [] }) (range_with_len 0 count)

-- the ray has a point of the stretch in the slab
abbrev pub IsSlabMet : Side → Ray → Stretch → Type 0
IsSlabMet slab ray s = (t : RayParameter) × (0 < t.den) × IsWithin s t × IsInSide (point_of_ray ray t) slab

-- Of some copies each whose slab is met comes, and no more than have a slab that passes any test of boxes.
pub record AreCopiesOffered (axis : ℕ) (low width : ℤ) (count : ℕ) (ray : Ray) (s : Stretch) (old new : Offered) : Type 0 where
  pub offered : IsOffered (λ k. IsSlabMet (slab_of axis low width k) ray s) (range_with_len 0 count) old new
  pub tests : (met : List Side → Bool) → IsBoxTest ray s met → length new.numbers ≤ length old.numbers + tests_within met (slab_cells axis low width count)
