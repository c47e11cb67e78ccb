use Rattle.std.proofs.Common.{arith}
use Rattle.gx_plane.proofs.Invariants.{IsPlane-along}
use borrow.Author.Differences.{ints}
use Rattle.gx_plane.proofs.plane.Plane.along.Goals as goal

pub invariant_of-plane : goal.invariant_of-plane
invariant_of-plane c = IsPlane-along c.args.axis c.unit.result _ c.requires.axis c.unit.ensures (omega (arith, ints))

pub invariant_of-plane-else-positive : goal.invariant_of-plane-else-positive
invariant_of-plane-else-positive c =
    IsPlane-along c.args.axis c.unit.result _ c.requires.axis c.unit.ensures (omega (arith, ints))
