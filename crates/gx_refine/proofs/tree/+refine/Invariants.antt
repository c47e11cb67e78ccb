use Rattle.std.proofs.Common.{◌-◌, take}
use Rattle.gx_voxel.specs.Members.{extent_at}
use Rattle.gx_voxel.specs.Proxy.{Alike, IsRun, StandsWithin}
use Rattle.gx_refine.proofs.tree.+refine.Given as goal

abbrev pub decreases-refine : goal.decreases-refine
decreases-refine l = l.cuts

abbrev pub invariant-loop-part : goal.invariant-loop-part
invariant-loop-part l = Alike (IsRun (λ q ks. StandsWithin (extent_at l.extents) (l.cuts - 1) q ks l.left.items)) l.runs.items (take l.part-index l.part-items)
