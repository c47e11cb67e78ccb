use Rattle.std.proofs.Common.{take, flat_map}
use Rattle.gx_facets.specs.Edges.{numbered_edges, AreCounts}
use Rattle.gx_facets.proofs.edges.EdgeCounts.of.Given as goal

abbrev pub invariant-loop-facet : goal.invariant-loop-facet
invariant-loop-facet l = AreCounts (flat_map (numbered_edges l.vertices) (take l.facet-index l.facets)) l.counts.counts
