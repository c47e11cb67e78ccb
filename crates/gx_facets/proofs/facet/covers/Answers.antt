use Rattle.std.proofs.Common.{sym, ◌∙◌}
use Rattle.gx_facets.proofs.FacetFacts.{covers-is_on}
use Rattle.gx_facets.proofs.facet.covers.Goals as goal

pub returns-else-is_on : goal.returns-else-is_on
returns-else-is_on c =
    c.if-is_on.false ∙ covers-is_on c.args.face.now c.args.facet.now (sym c.is_on.ensures ∙ c.if-is_on.false)
