use Rattle.std.proofs.Common.{◌*◌}
use Rattle.gx_plane.specs.Plane.{reach}
use Rattle.gx_plane.proofs.Sizes.{IsWithin-cross_of}
use Rattle.gx_plane.proofs.plane.normal.Goals as goal

pub returns-clause-within : goal.returns-clause-within
returns-clause-within c =
    rw c.cross.ensures (IsWithin-cross_of (2 * reach) c.difference.result c.difference-2.result c.difference.ensures.within c.difference-2.ensures.within)
