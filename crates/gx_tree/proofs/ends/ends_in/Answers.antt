use Rattle.std.proofs.Common.{◌+◌, ◌∙◌, subst}
use Rattle.std.proofs.lemmas.List.Elements.{All-more}
use Rattle.gx_tree.specs.declared.placement.Placement.{Placement}
use Rattle.gx_tree.specs.Volume.{rotation_of}
use Rattle.gx_tree.specs.Hierarchy.{IsRotation}
use Rattle.gx_tree.proofs.Counts.{start_more, ends_more}
use Rattle.gx_tree.proofs.ends.ends_in.Goals as goal

pub loop-placement-preserved : goal.loop-placement-preserved
loop-placement-preserved c =
    let ps = c.args.placements.now in
    let i = c.loop-placement.placement-index in
    let p = c.placement-item.result in
    let so_far = c.loop-placement.invariant in
    let end = start_more ps i p c.loop-placement.end c.count-end.result c.loop-placement-test.true c.placement-item.is so_far.end c.count-end.ensures in
    let turned = subst IsRotation c.rotation.ensures.value c.rotation.ensures.rotation in
    record {
      ends = c.in_ok-push.ensures.items ∙ ends_more ps i c.loop-placement.ends.items (c.loop-placement.end + c.count-end.result) so_far.ends end;
      end = end;
      turned = All-more (λ (q : Placement). IsRotation (rotation_of q)) ps i p c.loop-placement-test.true so_far.turned (subst (λ (q : Placement). IsRotation (rotation_of q)) c.placement-item.is turned);
    }
