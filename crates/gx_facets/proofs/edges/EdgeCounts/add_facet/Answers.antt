use Rattle.gx_facets.proofs.Numbers.{numbered_edges-three, numbered_edges-four, added_three, added_four}
use Rattle.gx_facets.proofs.edges.EdgeCounts.add_facet.Goals as goal

pub returns-in-None : goal.returns-in-None
returns-in-None c = λ edges h.
    added_three edges _ _ _ _ _
    (numbered_edges-three c.args.vertices.now c.args.facet.now _ _ _ c.number-a.ensures.value c.number-b.ensures.value c.number-c.ensures.value c.in-None.is)
    (c.add-in-None.ensures _ (c.add-2.ensures _ (c.add.ensures edges h)))

pub returns-in-Some : goal.returns-in-Some
returns-in-Some c = λ edges h.
    added_four edges _ _ _ _ _ _
    (numbered_edges-four c.args.vertices.now c.args.facet.now _ _ _ _ _ c.number-a.ensures.value c.number-b.ensures.value c.number-c.ensures.value c.number-d.ensures.value c.in-Some.is)
    (c.add-in-Some-2.ensures _ (c.add-in-Some.ensures _ (c.add-2.ensures _ (c.add.ensures edges h))))
