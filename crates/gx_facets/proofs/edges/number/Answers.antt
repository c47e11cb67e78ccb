use Rattle.std.proofs.Common.{◌≡◌, ◌∙◌, refl, arith}
use Rattle.gx_facets.specs.Edges.{number_of}
use Rattle.gx_facets.proofs.Numbers.{number_of-lt, position-member}
use Rattle.gx_facets.proofs.edges.number.Goals as goal

pub unwrap-requires : goal.unwrap-requires
unwrap-requires c = rw (c.first_place.ensures ∙ position-member c.args.vertices.now c.args.p c.requires.among) refl

pub returns-clause-value : goal.returns-clause-value
returns-clause-value c = let e = position-member c.args.vertices.now c.args.p c.requires.among in cc

pub returns-clause-within : goal.returns-clause-within
returns-clause-within c =
    let e = position-member c.args.vertices.now c.args.p c.requires.among in
    let value : c.unwrap.result ≡ number_of c.args.vertices.now c.args.p = cc in
    omega (arith, number_of-lt c.args.vertices.now c.args.p c.requires.among)
