use Rattle.std.proofs.Common.{◌*◌, arith}
use Rattle.gx_plane.specs.Plane.{reach, normal_reach}
use Rattle.gx_plane.proofs.Sizes.{dot_of-within}
use borrow.Author.Differences.{ints}
use Rattle.gx_plane.proofs.plane.determinant.Goals as goal

pub returns-clause-within : goal.returns-clause-within
returns-clause-within c =
    omega (arith, ints, c.dot.ensures.value, dot_of-within normal_reach (2 * reach) c.normal.result c.difference.result c.normal.ensures.within c.difference.ensures.within)
