use Rattle.std.proofs.Common.{◌≡◌, flat_map, take}
use Rattle.gx_shapes.specs.Tessellation.{corners_of}
use Rattle.gx_solids.proofs.vertices.tessellated.Given as goal

abbrev pub invariant-loop-facet : goal.invariant-loop-facet
invariant-loop-facet l = l.points.items ≡ flat_map corners_of (take l.facet-index l.facets)
