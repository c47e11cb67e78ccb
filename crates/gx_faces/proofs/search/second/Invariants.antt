use Rattle.std.proofs.Common.{Contains, IfSome}
use Rattle.gx_faces.proofs.search.second.Given as goal

abbrev pub invariant-loop-s : goal.invariant-loop-s
invariant-loop-s l = record { among : IfSome l.found (Contains l.points) }
