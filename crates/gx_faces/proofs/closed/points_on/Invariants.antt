use Rattle.std.proofs.Common.{◌≡◌, ◌++◌, filter, drop}
use Rattle.gx_faces.specs.Steps.{is_on}
use Rattle.gx_faces.proofs.closed.points_on.Given as goal

abbrev pub invariant-loop-p : goal.invariant-loop-p
invariant-loop-p l = record { rest : l.on.items ++ filter (is_on l.plane) (drop l.p-index l.points) ≡ filter (is_on l.plane) l.points }
