use Rattle.std.proofs.Common.{◌≡◌, length, All}
use Rattle.gx_num.specs.Vector.{IsWithin}
use Rattle.gx_plane.specs.Plane.{reach, supports, flipped}
use Rattle.gx_plane.proofs.raw_plane.RawPlane.senses.Given as goal

-- the points before are in the plane: the rest decides
abbrev pub invariant-points : goal.invariant-points
invariant-points l = record {
  within : All (IsWithin reach) l.rest;
  forward : supports l.self l.rest ≡ supports l.self l.points;
  backward : supports (flipped l.self) l.rest ≡ supports (flipped l.self) l.points;
}

abbrev pub decreases-points : goal.decreases-points
decreases-points l = length l.rest
