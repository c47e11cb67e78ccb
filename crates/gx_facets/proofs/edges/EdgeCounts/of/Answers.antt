use Rattle.std.proofs.Common.{◌+◌, ◌*◌, arith}
use Rattle.std.proofs.lemmas.List.{get_or-replicate}
use Rattle.gx_facets.proofs.Numbers.{added_next}
use Rattle.gx_facets.proofs.edges.EdgeCounts.of.Goals as goal

pub loop-facet-init : goal.loop-facet-init
loop-facet-init c = λ i j i_lt j_lt. get_or-replicate 1024 (32 * i + j) 0 0 (omega arith)

pub loop-facet-preserved : goal.loop-facet-preserved
loop-facet-preserved c =
    added_next c.args.vertices.now c.args.facets.now c.loop-facet.facet-index _ _ c.loop-facet-test.true (c.add_facet.ensures _ c.loop-facet.invariant)
