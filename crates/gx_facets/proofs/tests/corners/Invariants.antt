use Rattle.std.proofs.Common.{◌≡◌, take}
use Rattle.gx_shapes.specs.Tessellation.{tessellation_vertices}
use Rattle.gx_facets.proofs.tests.corners.Given as goal

abbrev pub invariant-loop-facet : goal.invariant-loop-facet
invariant-loop-facet l = l.points.items ≡ tessellation_vertices (take l.facet-index l.facets)
