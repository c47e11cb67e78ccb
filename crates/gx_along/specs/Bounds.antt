-- How many members and runs a ray may cost, by any test that passes the boxes that it meets in a stretch.
use Rattle.std.specs.Prelude.{◌≡◌, ◌<◌, ◌+◌, ◌*◌, ℕ, zero, suc, Bool, true, if◌then◌else◌, List, ◌∷◌, length, sum_by, None, Some}
use Rattle.gx_num.specs.Ray.{RayParameter, point_of_ray}
use Rattle.gx_num.specs.declared.extent.Extent.{Extent}
use Rattle.gx_num.specs.declared.ray.Ray.{Ray}
use Rattle.gx_voxel.specs.Cut.{cut_of}
use Rattle.gx_voxel.specs.Cells.{Side, Cell, IsInBox, side_of, without}
use Rattle.gx_along.specs.declared.line.Stretch.{Stretch}
use Rattle.gx_along.specs.Digits.{digits}
use Rattle.gx_along.specs.Line.{IsWithin}

-- the members of the cells whose box passes
abbrev pub tests_within : (List Side → Bool) → List Cell → ℕ
tests_within met cells = sum_by (λ c. if met c.box then length c.members else 0) cells

-- Of each header whose box passes, 1 and twice the binary digits of the number of its runs, and the runs whose box passes; at most so many headers deep.
unfoldable pub reads_within : (List Side → Bool) → (ℕ → Extent) → ℕ → List Side → List ℕ → List ℕ → ℕ
reads_within met at zero box ks axes = 0
reads_within met at (suc n) box ks axes = elim (cut_of at ks axes) [
  | None ↦ 0
  | Some cut ↦ if met box
      then (1 + 2 * digits (length cut.runs)) + sum_by (λ run. let part = side_of cut.axis run ∷ box in (if met part then 1 else 0) + reads_within met at n part run.members (without cut.axis axes)) cut.runs
      else 0
]

-- it passes each box in which the ray has a point strictly between the stretch's ends
abbrev pub IsBoxTest : Ray → Stretch → (List Side → Bool) → Type 0
IsBoxTest ray s met = (box : List Side) (t : RayParameter) → 0 < t.den → IsWithin s t → IsInBox (point_of_ray ray t) box → met box ≡ true
