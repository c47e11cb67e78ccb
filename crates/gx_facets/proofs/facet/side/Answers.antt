use Rattle.std.proofs.Common.{ap, arith}
use Rattle.gx_num.specs.Vector.{dot_of}
use Rattle.gx_facets.proofs.FacetFacts.{side_of-plane_from}
use borrow.Author.Differences.{ints}
use Rattle.gx_facets.proofs.facet.side.Goals as goal

pub returns-clause-value : goal.returns-clause-value
returns-clause-value c =
    omega (arith, ints, c.dot.ensures.value, c.dot.ensures.bound, ap (dot_of c.args.n) c.difference.ensures.value, side_of-plane_from c.args.n c.args.a c.args.p)
