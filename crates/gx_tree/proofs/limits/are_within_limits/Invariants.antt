use Rattle.std.proofs.Common.{◌≡◌, ◌≤◌, ◌*◌, take, length, All}
use Rattle.std.specs.Prelude.{sum_by}
use Rattle.gx_tree.specs.Volume.{Volume}
use Rattle.gx_tree.specs.Limits.{instance_count}
use Rattle.gx_tree.specs.Ends.{IsMother}
use Rattle.gx_tree.proofs.limits.are_within_limits.Given as goal

abbrev pub invariant-loop-volume : goal.invariant-loop-volume
invariant-loop-volume l = record {
  mothers : All (λ (v : Volume). IsMother (length l.volumes) v.placements) (take l.volume-index l.volumes);
  all : l.all ≡ sum_by instance_count (take l.volume-index l.volumes);
  few : l.all ≤ 4096 * l.volume-index;
}
