use Rattle.gx_shapes.proofs.Solids.{vertices_within}
use Rattle.gx_solids.proofs.whole.facet_fault.Goals as goal

pub facets_fault-requires-clause-within : goal.facets_fault-requires-clause-within
facets_fault-requires-clause-within c =
    let within = vertices_within c.args.figure.now c.requires.values in
    rw c.as_slice.ensures (rw c.in-Tessellated.is at within)
