-- Daughters with their extents. For private functions.
use Rattle.std.specs.Prelude.{◌≡◌, ℕ, List, map, slice_get, Some}
use Rattle.gx_convex.specs.Extent.{extent_of}
use Rattle.gx_tree.specs.declared.instance.Instance.{Instance}
use Rattle.gx_tree.specs.Hierarchy.{Hierarchy, instances, numbers, IsInstance}
use Rattle.gx_check.specs.Verdicts.{placed_vertices}
use Rattle.gx_sealed.specs.declared.placed.Daughter.{Daughter}

-- a daughter, and the extent of her vertices in her mother's frame
abbrev pub daughter_of : Hierarchy → Instance → Daughter
daughter_of h i = record { instance = i; extent = extent_of (placed_vertices h i) }

-- those of a volume, by their ordinals
unfoldable pub daughters_of : Hierarchy → ℕ → List Daughter
daughters_of h v = map (daughter_of h) (instances h v)

-- those of each volume
abbrev pub all_daughters : Hierarchy → List (List Daughter)
all_daughters h = map (daughters_of h) (numbers h.volumes)

-- the daughter of a volume that has this ordinal
pub record IsDaughter (h : Hierarchy) (v k : ℕ) (d : Daughter) : Type 0 where
  pub at : slice_get (instances h v) k ≡ Some d.instance
  pub extent : d ≡ daughter_of h d.instance
  pub instance : IsInstance h d.instance
