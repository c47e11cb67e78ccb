use Rattle.std.proofs.Common.{◌≡◌, ◌∙◌, ap, sym, subst}
use Rattle.gx_convex.specs.Points.{distinct}
use Rattle.gx_convex.specs.Faces.{faces_of}
use Rattle.gx_convex.specs.Laws.{AreTheSolid}
use Rattle.gx_shapes.specs.Solid.{solid_of, vertices_of}
use Rattle.gx_shapes.proofs.Solids.{faces_are_the_solid_of}
use Rattle.gx_clip.specs.Clip.{IsBounded, IsClip}
use Rattle.gx_sealed.proofs.Solids.{faces_bounded, IsClip-faces}
use Rattle.gx_sealed.proofs.solid.span_in.Goals as goal
use Rattle.gx_sealed.proofs.solid.span_in.Goals.{After-faces}

are : (c : After-faces) → AreTheSolid (solid_of c.args.solid.now) (distinct (vertices_of c.args.solid.now))
are c = faces_are_the_solid_of c.args.solid.now c.hull.ensures.solid

faces_are : (c : After-faces) → c.faces.result.now ≡ faces_of (distinct (vertices_of c.args.solid.now))
faces_are c = c.faces.ensures ∙ ap faces_of c.hull.ensures.value

pub clip-requires-clause-bounded : goal.clip-requires-clause-bounded
clip-requires-clause-bounded c =
    let d = (goal.at.clip-requires-clause-bounded c).After-faces in
    subst IsBounded (sym (faces_are d)) (faces_bounded (solid_of d.args.solid.now) (distinct (vertices_of d.args.solid.now)) (are d))

pub returns : goal.returns
returns c =
    let d = (goal.at.returns c).After-faces in
    IsClip-faces (solid_of d.args.solid.now) (distinct (vertices_of d.args.solid.now)) (are d) c.args.ray.now c.clip.result
    (subst (λ faces. IsClip faces c.args.ray.now c.clip.result) (faces_are d) c.clip.ensures)
