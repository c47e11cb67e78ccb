use Rattle.std.proofs.Common.{ap, ◌∙◌}
use Rattle.gx_shapes.specs.Solid.{vertices_of}
use Rattle.gx_shapes.specs.Accepted.{unless_whole}
use Rattle.gx_solids.specs.Whole.{facet_fault}
use Rattle.gx_shapes.proofs.Solids.{vertices_within}
use Rattle.gx_solids.proofs.Wholes.{hull_fault_or, hull_points, whole_by_hull}
use Rattle.gx_solids.proofs.make.hull.Goals as goal

pub new-requires : goal.new-requires
new-requires c = rw c.in_ok-vertices.ensures (vertices_within c.args.figure.now c.requires.values)

pub returns-in-Ok-clause-ok : goal.returns-in-Ok-clause-ok
returns-in-Ok-clause-ok c = hull_points (vertices_of c.args.figure.now) c.in-Ok.hull (rw c.in_ok-vertices.ensures at c.in-Ok.ensures.ok)

pub returns-in-Ok-clause-left : goal.returns-in-Ok-clause-left
returns-in-Ok-clause-left c =
    let figure = c.args.figure.now in
    whole_by_hull figure c.requires.values c.requires.polygon ∙ ap (hull_fault_or (facet_fault figure)) (rw c.in_ok-vertices.ensures at c.in-Ok.ensures.ok)

pub returns-in-Err-Vertices-clause-err : goal.returns-in-Err-Vertices-clause-err
returns-in-Err-Vertices-clause-err c =
    let figure = c.args.figure.now in
    let err = rw (c.in_ok-vertices.ensures, c.in-Err-Vertices.field-0-is) at c.in-Err-Vertices.ensures.err in
    ap (unless_whole figure) (whole_by_hull figure c.requires.values c.requires.polygon ∙ ap (hull_fault_or (facet_fault figure)) err)

pub returns-in-Err-Flat-clause-err : goal.returns-in-Err-Flat-clause-err
returns-in-Err-Flat-clause-err c =
    let figure = c.args.figure.now in
    let err = rw (c.in_ok-vertices.ensures, c.in-Err-Flat.field-0-is) at c.in-Err-Flat.ensures.err in
    ap (unless_whole figure) (whole_by_hull figure c.requires.values c.requires.polygon ∙ ap (hull_fault_or (facet_fault figure)) err)
