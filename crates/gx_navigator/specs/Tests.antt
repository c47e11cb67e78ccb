-- How many daughters are tested along a ray and how much is read: at most, by any test of boxes, and at least (this project's own).
use Rattle.std.specs.Prelude.{◌≡◌, ◌≢◌, ℕ, ◌<◌, Bool, List, [], ◌∷◌, ◌++◌, length, Option, None, Some}
use Rattle.std.specs.List.{AllByRecursion}
use Rattle.gx_num.specs.declared.ray.Ray.{Ray}
use Rattle.gx_num.specs.Ray.{RayParameter}
use Rattle.gx_fraction.specs.Fraction.{parameter_of}
use Rattle.gx_clip.specs.declared.span.Span.{Span}
use Rattle.gx_clip.specs.Clip.{IsClip}
use Rattle.gx_shapes.specs.Solid.{solid_of}
use Rattle.gx_tree.specs.declared.placement.Placement.{Placement}
use Rattle.gx_tree.specs.declared.placement.Placement.TheVariants.{Replica}
use Rattle.gx_tree.specs.Hierarchy.{Hierarchy, volume_at, max_depth}
use Rattle.gx_path.specs.Report.{Row, AnyByRecursion}
use Rattle.gx_partition.specs.Walk.{Hit}
use Rattle.gx_nest.specs.Met.{Frame, IsFound, met_in}
use Rattle.gx_voxel.specs.Cut.{Cut, interval_on, cut_of}
use Rattle.gx_voxel.specs.Cells.{Side, Cell, cells}
use Rattle.gx_along.specs.declared.line.Stretch.{Stretch}
use Rattle.gx_along.specs.Bounds.{IsBoxTest as Passes, tests_within, reads_within}
use Rattle.gx_slabs.specs.Slabs.{slab_cells}
use Rattle.gx_sealed.specs.Cells.{extent_in, ordinals_in}
use Rattle.gx_walk.specs.Hits.{CountOf, Leads, cost_of}
use Rattle.gx_navigator.specs.Paths.{daughter_of}

-- ---- the cells of a volume

abbrev pub all_axes : List ℕ
all_axes = 0 ∷ 1 ∷ 2 ∷ []

-- by what is placed: the slabs of a replica's copies, else the cells of the daughters' extents
abbrev pub cells_by : Hierarchy → ℕ → List Placement → List Cell
cells_by h v (Replica volume axis count width ∷ placements) = slab_cells axis (interval_on axis (extent_in h v 0)).low width count
cells_by h v placements = cells (extent_in h v) (ordinals_in h v) all_axes

abbrev pub cells_in : Hierarchy → ℕ → List Cell
cells_in h v = cells_by h v (volume_at h.volumes v).placements

-- how the whole of a volume's space is cut; a replica's mother has no header
abbrev pub cut_by : Hierarchy → ℕ → List Placement → Option Cut
cut_by h v (Replica volume axis count width ∷ placements) = None
cut_by h v placements = cut_of (extent_in h v) (ordinals_in h v) all_axes

abbrev pub HasHeader : Hierarchy → ℕ → Type 0
HasHeader h v = (cut : Cut) × (cut_by h v (volume_at h.volumes v).placements ≡ Some cut)

-- ---- at most

-- which boxes pass, by a volume with a ray in its frame, and by two parameters between which the ray is inside it
abbrev pub BoxTest : Type 0
BoxTest = Frame → RayParameter → RayParameter → List Side → Bool

abbrev pub stretch_between : RayParameter → RayParameter → Stretch
stretch_between from to = record { from = record { num = from.num; den = from.den }; to = record { num = to.num; den = to.den } }

-- each box passes in which the ray has a point strictly between the parameters
abbrev pub IsBoxTest : BoxTest → Type 0
IsBoxTest passes = (f : Frame) (from to : RayParameter) → Passes f.ray (stretch_between from to) (passes f from to)

-- the members of a volume's cells that pass
abbrev pub tests_in : Hierarchy → BoxTest → CountOf Frame
tests_in h passes f from to = tests_within (passes f from to) (cells_in h f.volume)

-- what the headers of a volume and their runs that pass add up to
abbrev pub reads_by : Hierarchy → (List Side → Bool) → ℕ → List Placement → ℕ
reads_by h passes v (Replica volume axis count width ∷ placements) = 0
reads_by h passes v placements = reads_within passes (extent_in h v) (length all_axes) [] (ordinals_in h v) all_axes

abbrev pub reads_in : Hierarchy → BoxTest → CountOf Frame
reads_in h passes f from to = reads_by h (passes f from to) f.volume (volume_at h.volumes f.volume).placements

-- the sum over the volumes that the ray comes to; nothing where it is inside the world nowhere
abbrev pub cost_along : Hierarchy → CountOf Frame → (Frame → ℕ → Option (Hit Frame)) → Ray → Option Span → ℕ
cost_along h count found ray None = 0
cost_along h count found ray (Some span) = cost_of count (met_in h found) max_depth (parameter_of span.from) (parameter_of span.to) (record { volume = h.world; ray = ray })

-- so much it adds up to along the ray
pub record IsCost (h : Hierarchy) (count : CountOf Frame) (ray : Ray) (n : ℕ) : Type 0 where
  -- what the ray meets
  pub found : Frame → ℕ → Option (Hit Frame)
  pub is_found : IsFound h found
  -- where it is inside the world
  pub span : Option Span
  pub is_span : IsClip (solid_of (volume_at h.volumes h.world).solid) ray span
  pub sum : n ≡ cost_along h count found ray span

-- ---- at least

-- no two of the paths are the same
abbrev pub AreDifferent : List (List ℕ) → Type 0
AreDifferent [] = Unit {0}
AreDifferent (path ∷ paths) = AllByRecursion (λ other. path ≢ other) paths × AreDifferent paths

-- there are so many different paths of a kind
pub record HasPaths (Is : List ℕ → Type 0) (n : ℕ) : Type 0 where
  pub paths : List (List ℕ)
  pub different : AreDifferent paths
  pub each : AllByRecursion Is paths
  pub many : length paths ≡ n

-- the path of a row, which leads to a daughter
abbrev pub IsToDaughter : List Row → List ℕ → Type 0
IsToDaughter rows path = (path ≢ []) × AnyByRecursion (λ row. path ≡ row.path) rows

-- a path that goes on in a row's, and leads to a volume with a header
pub record IsToHeader (h : Hierarchy) (rows : List Row) (path : List ℕ) : Type 0 where
  pub volume : ℕ
  pub leads : Leads (daughter_of h) h.world path volume
  pub header : HasHeader h volume
  pub on : AnyByRecursion (λ row. (k : ℕ) × (further : List ℕ) × (row.path ≡ path ++ k ∷ further)) rows
