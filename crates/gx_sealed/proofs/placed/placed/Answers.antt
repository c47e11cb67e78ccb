use Rattle.std.proofs.Common.{◌∙◌, map, All, unsigned_abs, sym, ap, subst}
use Rattle.gx_num.specs.declared.vector.TheConstants.{M}
use Rattle.gx_num.specs.Vector.{IsWithin}
use Rattle.gx_convex.specs.Points.{distinct}
use Rattle.gx_convex.specs.Extent.{extent_of}
use Rattle.gx_convex.proofs.Distinct.{All-distinct}
use Rattle.gx_shapes.specs.declared.figure.Figure.{Figure}
use Rattle.gx_shapes.specs.Solid.{vertices_of}
use Rattle.gx_shapes.proofs.Solids.{vertices_within}
use Rattle.gx_rotation.specs.Place.{placed_point}
use Rattle.gx_sealed.proofs.Tables.{placed_at}
use Rattle.gx_sealed.proofs.placed.placed.Goals as goal

pub placed-requires-clause-vertices : goal.placed-requires-clause-vertices
placed-requires-clause-vertices c =
    subst (All (IsWithin (unsigned_abs M))) (sym c.hull.ensures.value) (All-distinct (IsWithin (unsigned_abs M)) (vertices_of c.solid.result.now) (vertices_within c.solid.result.now c.hull.ensures.solid.values))

pub returns : goal.returns
returns c =
    let h = c.args.tree.now in
    let i = c.instance-instance.result in
    let vertices = c.in_ok-hull.ensures ∙ ap (map (placed_point i.rotation i.offset)) (c.hull.ensures.value ∙ ap (λ (f : Figure). distinct (vertices_of f)) c.solid.ensures.value) in
    placed_at h c.args.v c.args.k i c.extent.result c.instance-instance.ensures.value (c.extent.ensures ∙ ap extent_of vertices)
