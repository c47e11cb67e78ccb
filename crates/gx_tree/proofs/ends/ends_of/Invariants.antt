use Rattle.std.proofs.Common.{◌≡◌, map, take, All}
use Rattle.gx_shapes.specs.Accepted.{IsSolid}
use Rattle.gx_tree.specs.Volume.{rotation_of}
use Rattle.gx_tree.specs.Hierarchy.{IsRotation}
use Rattle.gx_tree.specs.Ends as spec
use Rattle.gx_tree.proofs.ends.ends_of.Given as goal

abbrev pub invariant-loop-volume : goal.invariant-loop-volume
invariant-loop-volume l = record {
  ends : map (λ e. e.items) l.ends.items ≡ map (λ v. spec.ends_of v.placements) (take l.volume-index l.volumes);
  solids : All (λ v. IsSolid v.solid) (take l.volume-index l.volumes);
  turned : All (λ v. All (λ p. IsRotation (rotation_of p)) v.placements) (take l.volume-index l.volumes);
}
