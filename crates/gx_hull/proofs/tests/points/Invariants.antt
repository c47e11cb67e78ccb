use Rattle.std.proofs.Common.{unsigned_abs, All}
use Rattle.gx_num.specs.Vector.{IsWithin}
use Rattle.gx_num.specs.declared.vector.TheConstants.{M}
use Rattle.gx_hull.proofs.tests.points.Given as goal

abbrev pub invariant-loop-row : goal.invariant-loop-row
invariant-loop-row l = All (IsWithin (unsigned_abs M)) l.points.items
