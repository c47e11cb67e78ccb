use Rattle.std.proofs.Common.{◌≡◌, ◌+◌, map, take, All}
use Rattle.std.specs.List.{range_with_len}
use Rattle.gx_tree.specs.Volume.{rotation_of}
use Rattle.gx_tree.specs.Hierarchy.{IsRotation}
use Rattle.gx_tree.specs.Ends.{start_of}
use Rattle.gx_tree.proofs.ends.ends_in.Given as goal

abbrev pub invariant-loop-placement : goal.invariant-loop-placement
invariant-loop-placement l = record {
  ends : l.ends.items ≡ map (λ k. start_of l.placements (k + 1)) (range_with_len 0 l.placement-index);
  end : l.end ≡ start_of l.placements l.placement-index;
  turned : All (λ p. IsRotation (rotation_of p)) (take l.placement-index l.placements);
}
