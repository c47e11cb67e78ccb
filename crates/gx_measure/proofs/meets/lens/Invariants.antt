use Rattle.std.proofs.Common.{unsigned_abs, All}
use Rattle.gx_num.specs.declared.vector.TheConstants.{M}
use Rattle.gx_num.specs.Vector.{IsWithin}
use Rattle.gx_measure.proofs.meets.lens.Given as goal

abbrev pub invariant-loop-i : goal.invariant-loop-i
invariant-loop-i l = All (IsWithin (unsigned_abs M)) l.points.items
