use Rattle.std.proofs.Common.{◌≡◌, filter, take}
use Rattle.gx_voxel.specs.Cut.{meets}
use Rattle.gx_refine.specs.Known.{along}
use Rattle.gx_refine.proofs.grid.members_between.Given as goal

abbrev pub invariant-loop-k : goal.invariant-loop-k
invariant-loop-k l = l.list.items ≡ filter (λ k. meets (along l.extents l.axis k) l.from l.to) (take l.k-index l.members)
