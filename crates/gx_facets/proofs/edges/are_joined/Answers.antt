use Rattle.std.proofs.Common.{◌∙◌}
use Rattle.gx_facets.proofs.Joined.{all_joined}
use Rattle.gx_facets.proofs.edges.are_joined.Goals as goal

pub returns : goal.returns
returns c =
    c.join_all.ensures ∙ all_joined c.args.vertices.now c.args.facets.now _ c.requires.few c.of.ensures c.requires.corners
