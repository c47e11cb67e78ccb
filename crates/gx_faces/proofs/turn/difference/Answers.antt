use Rattle.gx_plane.specs.Plane.{reach}
use Rattle.gx_plane.proofs.Sizes.{IsWithin-difference_of}
use Rattle.gx_faces.proofs.turn.difference.Goals as goal

pub returns-clause-within : goal.returns-clause-within
returns-clause-within c =
    rw c.sub.ensures (IsWithin-difference_of reach c.args.p c.args.q c.requires.first c.requires.second)
