use Rattle.std.proofs.Common.{◌≡◌, ◌∙◌, map, unsigned_abs, All, sym, ap, subst}
use Rattle.gx_num.specs.declared.vector.TheConstants.{M}
use Rattle.gx_num.specs.Vector.{IsWithin}
use Rattle.gx_convex.specs.Faces.{faces_of}
use Rattle.gx_convex.specs.Extent.{extent_of}
use Rattle.gx_rotation.specs.Matrix.{Matrix}
use Rattle.gx_rotation.specs.Place.{placed_point, placed_face}
use Rattle.gx_place.proofs.Placed.{faces_placed}
use Rattle.gx_hull.specs.Hull.{IsVertices}
use Rattle.gx_hull.proofs.InMother.{IsVertices-placed, faces_fit}
use Rattle.gx_hull.proofs.hull.Hull.placed.Goals as goal
use Rattle.gx_hull.proofs.hull.Hull.placed.Goals.{After-placed_points}

pub placed_faces-requires-clause-fit : goal.placed_faces-requires-clause-fit
placed_faces-requires-clause-fit c =
    let within = subst (All (IsWithin (unsigned_abs M))) (sym c.self.view_is) c.requires.vertices in
    rw (c.deref-2.ensures.value, c.self.invariant.1, c.index.ensures.value)
    (faces_fit c.index.result c.index.ensures.below c.args.offset c.requires.offset c.self.inside.vertices.items within)

pub invariant_of-result : goal.invariant_of-result
invariant_of-result c =
    let vertices = c.self.inside.vertices.items in
    let within = subst (All (IsWithin (unsigned_abs M))) (sym c.self.view_is) c.requires.vertices in
    let placed : c.in_ok-vertices.vertices.items ≡ map (placed_point c.args.rotation c.args.offset) vertices = c.in_ok-vertices.ensures ∙ ap (map (placed_point c.args.rotation c.args.offset)) c.deref.ensures.value in
    let faces : c.in_ok-faces.faces.items ≡ map (placed_face c.args.rotation c.args.offset) (faces_of vertices) =
    c.in_ok-faces.ensures ∙ ap (map (placed_face c.args.rotation c.args.offset)) (c.deref-2.ensures.value ∙ c.self.invariant.1) in
    let turn = c.index.ensures.value in (
      subst IsVertices (sym (placed ∙ ap (λ (r : Matrix). map (placed_point r c.args.offset) vertices) turn)) (IsVertices-placed c.index.result c.index.ensures.below c.args.offset c.requires.offset vertices within c.self.invariant.0),
      faces ∙ (ap (λ (r : Matrix). map (placed_face r c.args.offset) (faces_of vertices)) turn
          ∙ (sym (faces_placed c.index.result c.index.ensures.below c.args.offset vertices) ∙ ap faces_of (sym (placed ∙ ap (λ (r : Matrix). map (placed_point r c.args.offset) vertices) turn)))),
      c.extent-extent.ensures ∙ ap extent_of c.deref-3.ensures.value,
    )
