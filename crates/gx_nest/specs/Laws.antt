-- The laws of rays in clean hierarchies.
use Rattle.std.specs.Prelude.{◌≡◌, ℕ, List, slice_get, Option, Some}
use Rattle.gx_num.specs.declared.ray.Ray.{Ray}
use Rattle.gx_num.specs.Ray.{HasDirection}
use Rattle.gx_clip.specs.declared.span.Span.{Span}
use Rattle.gx_clip.specs.Clip.{IsClip}
use Rattle.gx_shapes.specs.Solid.{solid_of}
use Rattle.gx_tree.specs.declared.instance.Instance.{Instance}
use Rattle.gx_tree.specs.Hierarchy.{Hierarchy, volume_at, instances}
use Rattle.gx_tree.specs.Fault.{IsTree}
use Rattle.gx_tree.specs.Deepest.{path_along}
use Rattle.gx_check.specs.Clean.{IsClean}
use Rattle.gx_frame.specs.Frames.{IsMet}
use Rattle.gx_path.specs.Report.{Row, IsReport}
use Rattle.gx_partition.specs.Partition.{IsPartition, open_rows}
use Rattle.gx_partition.specs.Walk.{Hit}
use Rattle.gx_nest.specs.Met.{Frame, hit_of, IsFound, pieces_along}

-- what is met is found, however the finding is done
abbrev pub MetIsFound : Type 0
MetIsFound = (h : Hierarchy) (found : Frame → ℕ → Option (Hit Frame)) → IsFound h found → (frame : Frame) → HasDirection frame.ray
    → (k : ℕ) (i : Instance) → slice_get (instances h frame.volume) k ≡ Some i → (span : Option Span) → IsMet h i frame.ray span → found frame k ≡ hit_of k i frame.ray span

-- the pieces that come of what is met are the partition
abbrev pub PiecesArePartition : Type 0
PiecesArePartition = (h : Hierarchy) → IsTree h → IsClean h → (found : Frame → ℕ → Option (Hit Frame)) → IsFound h found → (ray : Ray) → HasDirection ray
    → (span : Option Span) → IsClip (solid_of (volume_at h.volumes h.world).solid) ray span
    → IsPartition (path_along h ray) (pieces_along h found ray span)

-- their open rows are the report; there is none where the ray is inside the world nowhere
abbrev pub RowsAreReport : Type 0
RowsAreReport = (h : Hierarchy) → IsTree h → IsClean h → (found : Frame → ℕ → Option (Hit Frame)) → IsFound h found → (ray : Ray) → HasDirection ray
    → (span : Option Span) → IsClip (solid_of (volume_at h.volumes h.world).solid) ray span
    → IsReport (path_along h ray) (open_rows (pieces_along h found ray span))

-- each ray that has a direction has a report
abbrev pub EachRayHasReport : Type 0
EachRayHasReport = (h : Hierarchy) → IsTree h → IsClean h → (ray : Ray) → HasDirection ray → (rows : List Row) × IsReport (path_along h ray) rows
