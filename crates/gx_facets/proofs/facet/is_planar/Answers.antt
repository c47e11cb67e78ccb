use Rattle.std.proofs.Common.{sym, ap, ◌∙◌, ◌&&◌, not, Bool}
use Rattle.std.specs.List.{list_all}
use Rattle.gx_plane.specs.Plane.{is_zero}
use Rattle.gx_shapes.specs.Tessellation.{corners_of, inward}
use Rattle.gx_facets.proofs.FacetFacts.{is_on, is_on-corners}
use Rattle.gx_facets.proofs.facet.is_planar.Goals as goal

pub returns-then-not-is_zero : goal.returns-then-not-is_zero
returns-then-not-is_zero c =
    let f = c.args.facet.now in
    let proper = ap is_zero (sym c.normal-n.ensures.value) ∙ sym c.is_zero.ensures ∙ c.if-not-is_zero.true in
    c.has_fourth_on.ensures ∙ sym (is_on-corners f) ∙ ap (λ (zero : Bool). not zero && list_all (is_on (inward f)) (corners_of f)) (sym proper)
