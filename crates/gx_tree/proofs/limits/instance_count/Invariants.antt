use Rattle.std.proofs.Common.{◌≡◌, ◌≤◌, take, All}
use Rattle.std.specs.Prelude.{sum_by}
use Rattle.gx_tree.specs.Volume.{copies_of}
use Rattle.gx_tree.specs.Limits.{IsPlaceable}
use Rattle.gx_tree.proofs.limits.instance_count.Given as goal

abbrev pub invariant-loop-placement : goal.invariant-loop-placement
invariant-loop-placement l = record {
  placeable : All (IsPlaceable l.volumes) (take l.placement-index l.placements);
  count : l.count ≡ sum_by copies_of (take l.placement-index l.placements);
  few : l.count ≤ 4096;
}
