use Rattle.std.proofs.Common.{◌*◌}
use Rattle.gx_plane.specs.Plane.{reach}
use Rattle.gx_plane.proofs.Sizes.{IsWithin-cross_of}
use Rattle.gx_faces.proofs.turn.cross.Goals as goal

pub returns-clause-within : goal.returns-clause-within
returns-clause-within c =
    rw c.cross.ensures (IsWithin-cross_of (2 * reach) c.args.p c.args.q c.requires.first c.requires.second)
