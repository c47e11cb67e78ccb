use Rattle.std.proofs.Common.{◌≡◌, ◌++◌, drop, map}
use Rattle.gx_common.specs.Sides.{sided}
use Rattle.gx_common.proofs.vertex.vertices.Given as goal

abbrev pub invariant-loop-point : goal.invariant-loop-point
invariant-loop-point l = l.vertices.items ++ map (sided l.faces) (drop l.point-index l.points) ≡ map (sided l.fn.faces) l.fn.points
