use Rattle.std.proofs.Common.{◌≡◌, sym, ap, ◌∙◌}
use Rattle.gx_convex.specs.Points.{distinct, are_coplanar}
use Rattle.gx_convex.proofs.Distinct.{distinct-distinct}
use Rattle.gx_convex.specs.Faces.{faces_of}
use Rattle.gx_convex.specs.Extent.{extent_of}
use Rattle.gx_hull.proofs.hull.Hull.new.Goals as goal

pub invariant_of-result : goal.invariant_of-result
invariant_of-result c =
    let vertices = c.in_ok-vertices.vertices.items in
    let is : vertices ≡ distinct c.deref.result.now = c.in_ok-vertices.ensures.ok in (
      record {
        few = c.in_ok-vertices.ensures.few;
        within = c.in_ok-vertices.ensures.within;
        once = ap distinct is ∙ distinct-distinct c.deref.result.now ∙ sym is;
        solid = ap are_coplanar (sym c.deref-2.ensures.value) ∙ sym c.are_coplanar.ensures ∙ c.if-are_coplanar.false;
      },
      c.in_ok-faces.ensures ∙ ap faces_of c.deref-3.ensures.value,
      c.extent-extent.ensures ∙ ap extent_of c.deref-4.ensures.value,
    )
