use Rattle.std.proofs.Common.{arith}
use Rattle.gx_plane.proofs.Invariants.{IsPlane-opposite}
use borrow.Author.Differences.{ints}
use Rattle.gx_plane.proofs.plane.Plane.flip.Goals as goal

pub invariant_of-result : goal.invariant_of-result
invariant_of-result c =
    let offset = c.self.invariant.offset_within in
    IsPlane-opposite _ c.opposite.result _ c.opposite.ensures.value c.opposite.ensures.within (omega (arith, ints, offset)) c.self.invariant
