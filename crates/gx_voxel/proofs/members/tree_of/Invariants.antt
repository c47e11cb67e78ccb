use Rattle.std.proofs.Common.{◌≡◌, take, map}
use Rattle.gx_voxel.specs.Kept.{boxed_at}
use Rattle.gx_voxel.proofs.members.tree_of.Given as goal

abbrev pub invariant-loop-k : goal.invariant-loop-k
invariant-loop-k l = l.boxes.items ≡ map (boxed_at l.extents) (take l.k-index l.list)
