use Rattle.std.proofs.Common.{◌≡◌, ◌≤◌, ◌*◌, ◌++◌, drop, map, unsigned_abs, All}
use Rattle.gx_plane.specs.Plane.{offset_reach, side_of}
use Rattle.gx_common.proofs.vertex.sides.Given as goal

abbrev pub invariant-loop-face : goal.invariant-loop-face
invariant-loop-face l = record {
  all : l.sides.items ++ map (λ h. side_of h l.point) (drop l.face-index l.faces) ≡ map (λ h. side_of h l.fn.point) l.fn.faces;
  within : All (λ z. unsigned_abs z ≤ 2 * offset_reach) l.sides.items;
}
