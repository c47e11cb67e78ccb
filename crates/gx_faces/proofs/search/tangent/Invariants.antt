use Rattle.std.proofs.Common.{Contains}
use Rattle.gx_num.specs.Vector.{IsWithin}
use Rattle.gx_plane.specs.Plane.{normal_reach}
use Rattle.gx_faces.proofs.search.tangent.Given as goal

abbrev pub invariant-loop-s : goal.invariant-loop-s
invariant-loop-s l = record {
  among : Contains l.points l.r;
  within : IsWithin normal_reach l.n;
}
