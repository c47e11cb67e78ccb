use Rattle.std.proofs.Common.{All, unsigned_abs}
use Rattle.gx_num.specs.declared.vector.TheConstants.{M}
use Rattle.gx_num.specs.Vector.{IsWithin}
use Rattle.gx_hull.proofs.HullFacts.{All-hull_of}
use Rattle.gx_hull.proofs.tests.hull.Goals as goal

pub returns-in-Ok : goal.returns-in-Ok
returns-in-Ok c = All-hull_of (IsWithin (unsigned_abs M)) c.args.points.now c.in-Ok.hull (rw c.in_ok-from_slice.ensures.items at c.in-Ok.ensures.ok) c.requires
