use Rattle.std.proofs.Common.{subst}
use Rattle.std.proofs.lemmas.List.Elements.{All-more}
use Rattle.gx_tree.specs.Limits.{IsPlaceable}
use Rattle.gx_tree.proofs.Counts.{start_more}
use Rattle.gx_tree.proofs.limits.instance_count.Goals as goal

pub loop-placement-preserved : goal.loop-placement-preserved
loop-placement-preserved c =
    let ps = c.args.placements.now in
    let i = c.loop-placement.placement-index in
    let p = c.placement-item.result in
    let so_far = c.loop-placement.invariant in
    record {
      placeable = All-more (IsPlaceable c.args.volumes) ps i p c.loop-placement-test.true so_far.placeable (subst (IsPlaceable c.args.volumes) c.placement-item.is (c.is_placeable.ensures.0 c.if-not-is_placeable.false));
      count = start_more ps i p c.loop-placement.count c.count-count.result c.loop-placement-test.true c.placement-item.is so_far.count c.count-count.ensures;
      few = c.if-count-gt4096.false;
    }
