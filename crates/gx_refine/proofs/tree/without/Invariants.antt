use Rattle.std.proofs.Common.{◌≡◌, take}
use Rattle.gx_voxel.specs.Cells.{without}
use Rattle.gx_refine.proofs.tree.without.Given as goal

abbrev pub invariant-loop-a : goal.invariant-loop-a
invariant-loop-a l = l.left.items ≡ without l.axis (take l.a-index l.axes)
