use Rattle.std.proofs.Common.{arith}
use Rattle.gx_plane.specs.Plane.{reach, normal_reach}
use Rattle.gx_plane.proofs.Sizes.{dot_of-within}
use borrow.Author.Differences.{ints}
use Rattle.gx_plane.proofs.plane.product.Goals as goal

pub returns-clause-within : goal.returns-clause-within
returns-clause-within c =
    omega (arith, ints, dot_of-within normal_reach reach c.args.n c.args.p c.requires.normal c.requires.point)
