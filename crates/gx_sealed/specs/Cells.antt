-- What the space of a mother is cut into for rays (this project's own).
use Rattle.std.specs.Prelude.{◌≡◌, ℕ, ◌+◌, ◌<◌, ◌≤◌, ℤ, pos, ◌+ℤ◌, ◌*ℤ◌, ◌<ℤ◌, unsigned_abs, Bool, true, false, List, [], ◌∷◌, length, get_or, map, All}
use Rattle.std.specs.List.{range_with_len}
use Rattle.gx_num.specs.declared.extent.Extent.{Extent}
use Rattle.gx_convex.specs.Extent.{extent_of}
use Rattle.gx_tree.specs.declared.placement.Placement.{Placement}
use Rattle.gx_tree.specs.declared.placement.Placement.TheVariants.{Replica}
use Rattle.gx_tree.specs.Hierarchy.{Hierarchy, volume_at, instances}
use Rattle.gx_check.specs.Verdicts.{placed_vertices}
use Rattle.gx_voxel.specs.Cut.{interval_on}
use Rattle.gx_boxes.specs.Boxes.{IsProper, reach}
use Rattle.gx_voxel.specs.Members.{extent_at}
use Rattle.gx_voxel.specs.Proxy.{StandsFor}
use Rattle.gx_voxel.specs.declared.proxy.Proxy.{Proxy}
use Rattle.gx_sealed.specs.declared.cells.Cells.{Cells}
use Rattle.gx_sealed.specs.declared.cells.Cells.TheVariants.{Tree, Replicas}

-- the extents of a mother's daughters in her frame, by their ordinals
unfoldable pub extents_in : Hierarchy → ℕ → List Extent
extents_in h v = map (λ i. extent_of (placed_vertices h i)) (instances h v)

abbrev pub extent_in : Hierarchy → ℕ → ℕ → Extent
extent_in h v k = extent_at (extents_in h v) k

abbrev pub ordinals_in : Hierarchy → ℕ → List ℕ
ordinals_in h v = range_with_len 0 (length (instances h v))

abbrev pub is_replica : Placement → Bool
is_replica (Replica volume axis count width) = true
is_replica placement = false

-- the tree of headers of a mother without replicas
pub record IsTreeOf (h : Hierarchy) (v : ℕ) (p : Proxy) : Type 0 where
  pub single : All (λ place. is_replica place ≡ false) (volume_at h.volumes v).placements
  pub stands : StandsFor (extent_in h v) p (ordinals_in h v) (0 ∷ 1 ∷ 2 ∷ [])
  pub proper : All (λ k. IsProper (extent_in h v k)) (ordinals_in h v)

-- A mother is filled by the copies of a replica: copy k goes on the axis from low + k * width to low + (k + 1) * width.
pub record AreReplicas (h : Hierarchy) (v axis : ℕ) (low width : ℤ) (count : ℕ) : Type 0 where
  pub volume : ℕ
  pub alone : (volume_at h.volumes v).placements ≡ Replica volume axis count width ∷ []
  pub all : length (instances h v) ≡ count
  pub slabs : (k : ℕ) → k < count → interval_on axis (extent_in h v k) ≡ record { low = low +ℤ pos k *ℤ width; high = low +ℤ pos (k + 1) *ℤ width }
  pub direction : axis < 3
  pub few : count ≤ 4096
  pub wide : pos 0 <ℤ width
  pub narrow : unsigned_abs width ≤ reach
  pub from : unsigned_abs low ≤ reach
  pub to : unsigned_abs (low +ℤ pos count *ℤ width) ≤ reach

-- what the cells of a mother are
abbrev pub IsCells : Hierarchy → ℕ → Cells → Type 0
IsCells h v (Tree p) = IsTreeOf h v p
IsCells h v (Replicas axis low width count) = AreReplicas h v axis low width count

-- those of each volume
pub record AreCells (h : Hierarchy) (all : List Cells) : Type 0 where
  pub count : length all ≡ length h.volumes
  pub each : (v : ℕ) (d : Cells) → v < length h.volumes → IsCells h v (get_or all v d)
