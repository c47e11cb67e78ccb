use Rattle.std.proofs.Common.{map, All, ◌∙◌, ap, subst}
use Rattle.std.proofs.lemmas.List.Elements.{All-more}
use Rattle.gx_shapes.specs.Accepted.{IsSolid}
use Rattle.gx_tree.specs.declared.placement.Placement.{Placement}
use Rattle.gx_tree.specs.Volume.{Volume, rotation_of}
use Rattle.gx_tree.specs.Hierarchy.{IsRotation}
use Rattle.gx_tree.specs.Ends as spec
use Rattle.gx_tree.proofs.Counts.{map_more}
use Rattle.gx_tree.proofs.ends.ends_of.Goals as goal

pub loop-volume-preserved : goal.loop-volume-preserved
loop-volume-preserved c =
    let volumes = c.args.volumes.now in
    let i = c.loop-volume.volume-index in
    let v = c.volume-item.result in
    let so_far = c.loop-volume.invariant in
    let less = c.loop-volume-test.true in
    let at = c.volume-item.is in
    let turned : All (λ p. IsRotation (rotation_of p)) v.placements = subst (All (λ (p : Placement). IsRotation (rotation_of p))) c.placements.ensures c.in_ok-ends_in.ensures.turned in
    let ends = c.in_ok-ends_in.ensures.ends ∙ ap spec.ends_of c.placements.ensures in
    record {
      ends = ap (map (λ e. e.items)) c.in_ok-push.ensures.items ∙ map_more (λ e. e.items) (λ (u : Volume). spec.ends_of u.placements) c.loop-volume.ends.items volumes i _ v less at so_far.ends ends;
      solids = All-more (λ (u : Volume). IsSolid u.solid) volumes i v less so_far.solids (subst (λ (u : Volume). IsSolid u.solid) at c.solid.ensures.solid);
      turned = All-more (λ (u : Volume). All (λ p. IsRotation (rotation_of p)) u.placements) volumes i v less so_far.turned (subst (λ (u : Volume). All (λ p. IsRotation (rotation_of p)) u.placements) at turned);
    }
