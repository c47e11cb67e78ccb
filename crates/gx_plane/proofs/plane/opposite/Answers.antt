use Rattle.gx_plane.specs.Plane.{normal_reach}
use Rattle.gx_plane.proofs.Sizes.{IsWithin-opposite_of}
use Rattle.gx_plane.proofs.plane.opposite.Goals as goal

pub returns-clause-within : goal.returns-clause-within
returns-clause-within c = rw c.neg.ensures (IsWithin-opposite_of normal_reach c.args.n c.requires)
