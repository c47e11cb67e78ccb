use Rattle.std.proofs.Common.{◌≡◌, ◌++◌, map, take}
use Rattle.gx_shapes.specs.Extrusion.{corner}
use Rattle.gx_solids.proofs.vertices.push_section.Given as goal

abbrev pub invariant-loop-c : goal.invariant-loop-c
invariant-loop-c l = l.points.items ≡ l.initial.points.items ++ map (corner l.section) (take l.c-index l.corners)
