use Rattle.std.proofs.Common.{Contains}
use Rattle.gx_faces.proofs.search.least.Given as goal

abbrev pub invariant-loop-s : goal.invariant-loop-s
invariant-loop-s l = record { among : Contains l.points l.least }
