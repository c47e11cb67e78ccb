use Rattle.std.proofs.Common.{◌<◌, [], ◌∷◌, ◌++◌, length, map, ◌∙◌, sym, ap, subst, All, arith, length-take}
use Rattle.std.proofs.lemmas.List.{length-map, take_more, map_push}
use Rattle.std.proofs.lemmas.List.Elements.{All-nil, All-push}
use Rattle.gx_convex.specs.Extent.{extent_of}
use Rattle.gx_hull.specs.Hull.{IsVertices}
use Rattle.gx_tree.specs.Hierarchy.{instances}
use Rattle.gx_check.specs.Verdicts.{placed_vertices, placed_daughters}
use Rattle.gx_check.proofs.daughters.Daughters.placed.Goals as goal

pub loop-ordinal-init : goal.loop-ordinal-init
loop-ordinal-init c =
    let none = c.in_ok-hulls.ensures.items in
    record {
      placed = none;
      vertices = subst (All IsVertices) (sym none) (All-nil IsVertices);
      extents = c.in_ok-extents.ensures.items ∙ ap (map extent_of) (sym none);
    }

pub loop-ordinal-preserved : goal.loop-ordinal-preserved
loop-ordinal-preserved c =
    let l = c.loop-ordinal.invariant in
    let hulls = c.loop-ordinal.hulls.items in
    let hull = c.in_ok-hull.hull in
    let all = placed_daughters c.args.tree.now c.args.mother in
    let more = c.in_ok-push-2.ensures.items in
    let less : c.loop-ordinal.ordinal < length all = omega (arith, c.instances-ordinal-end.ensures.value, length-map (instances c.args.tree.now c.args.mother) (placed_vertices c.args.tree.now)) in
    record {
      placed = more ∙ (λ i. l.placed i ++ c.in_ok-hull.ensures.value i ∷ []) ∙ sym (take_more all c.loop-ordinal.ordinal [] less);
      vertices = subst (All IsVertices) (sym more) (All-push IsVertices hulls hull l.vertices c.in_ok-hull.ensures.kept);
      extents = c.in_ok-push.ensures.items ∙ (λ i. l.extents i ++ c.extent.ensures i ∷ []) ∙ sym (map_push extent_of hulls hull) ∙ ap (map extent_of) (sym more);
    }

pub invariant_of-result : goal.invariant_of-result
invariant_of-result c =
    let l = c.loop-ordinal.invariant in
    let all = placed_daughters c.args.tree.now c.args.mother in
    record {
      few = omega (arith, ap length l.placed, length-take c.loop-ordinal.ordinal all, c.instances-ordinal-end.ensures.few);
      vertices = l.vertices;
      boxes = l.extents;
    }
