use Rattle.std.proofs.Common.{take}
use Rattle.gx_voxel.specs.Members.{extent_at}
use Rattle.gx_refine.specs.Best.{IsBest, candidates}
use Rattle.gx_refine.proofs.best.cut.Given as goal

abbrev pub invariant-loop-axis : goal.invariant-loop-axis
invariant-loop-axis l = IsBest (candidates (extent_at l.extents) l.members (take l.axis-index l.axes)) l.best
