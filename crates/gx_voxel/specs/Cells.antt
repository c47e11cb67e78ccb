-- The cells of members that have extents: boxes of space with the members in them (this project's own).
use Rattle.std.specs.Prelude.{ℕ, zero, suc, ◌==◌, not, ℤ, ◌*ℤ◌, ◌≤ℤ◌, ◌<ℤ◌, if◌then◌else◌, List, [], ◌∷◌, length, filter, flat_map, None, Some}
use Rattle.std.specs.List.{AllByRecursion}
use Rattle.gx_num.specs.Vector4.{Vec4}
use Rattle.gx_num.specs.declared.extent.Extent.{Extent}
use Rattle.gx_voxel.specs.Cut.{SliceRun, cut_of}

-- on an axis from one coordinate up to, and without, another
pub record Side : Type 0 where
  pub axis : ℕ
  pub low : ℤ
  pub high : ℤ

-- a point's coordinate on an axis, times its w
abbrev pub coordinate4 : ℕ → Vec4 → ℤ
coordinate4 axis p = if axis == 0 then p.x else if axis == 1 then p.y else p.z

abbrev pub IsInSide : Vec4 → Side → Type 0
IsInSide p s = ((s.low *ℤ p.w) ≤ℤ coordinate4 s.axis p) × (coordinate4 s.axis p <ℤ (s.high *ℤ p.w))

-- the point is in a box, which is bounded on the axes of its sides alone
abbrev pub IsInBox : Vec4 → List Side → Type 0
IsInBox p box = AllByRecursion (IsInSide p) box

-- a box with its members
pub record Cell : Type 0 where
  pub box : List Side
  pub members : List ℕ

-- a run as a side of boxes
abbrev pub side_of : ℕ → SliceRun → Side
side_of axis run = record { axis = axis; low = run.low; high = run.high }

-- the axes without one
abbrev pub without : ℕ → List ℕ → List ℕ
without axis axes = filter (λ a. not (a == axis)) axes

-- the cells within a box: all members where they aren't cut, else those of each run, cut along the axes left, at most so many times
unfoldable pub cells_within : (ℕ → Extent) → ℕ → List Side → List ℕ → List ℕ → List Cell
cells_within at zero box ks axes = record { box = box; members = ks } ∷ []
cells_within at (suc n) box ks axes = elim (cut_of at ks axes) [
  | None ↦ record { box = box; members = ks } ∷ []
  | Some cut ↦ flat_map (λ run. cells_within at n (side_of cut.axis run ∷ box) run.members (without cut.axis axes)) cut.runs
]

-- the cells of members along some axes
abbrev pub cells : (ℕ → Extent) → List ℕ → List ℕ → List Cell
cells at ks axes = cells_within at (length axes) [] ks axes
