use Rattle.std.proofs.Common.{◌∙◌}
use Rattle.gx_facets.proofs.Corners.{within_reach, among}
use Rattle.gx_facets.proofs.faults.facets_fault.Goals as goal

pub are_planar-requires : goal.are_planar-requires
are_planar-requires c = within_reach c.args.facets.now c.requires.within

pub are_outer-requires-clause-facets : goal.are_outer-requires-clause-facets
are_outer-requires-clause-facets c = within_reach c.args.facets.now c.requires.within

pub are_covered-requires : goal.are_covered-requires
are_covered-requires c = within_reach c.args.facets.now c.requires.within

pub are_joined-requires-clause-corners : goal.are_joined-requires-clause-corners
are_joined-requires-clause-corners c =
    among c.args.facets.now _ (c.vertices-2.ensures.value ∙ c.requires.hull)
