use Rattle.std.proofs.Common.{◌≡◌, length, ap, subst, arith, ◌∙◌}
use Rattle.std.specs.Prelude.{sum_by}
use Rattle.std.proofs.lemmas.List.Elements.{All-more}
use Rattle.std.proofs.lemmas.List.Sums.{sum_by_more}
use Rattle.gx_tree.specs.Volume.{Volume, copies_of}
use Rattle.gx_tree.specs.Limits.{instance_count}
use Rattle.gx_tree.specs.Ends.{IsMother}
use Rattle.gx_tree.proofs.limits.are_within_limits.Goals as goal

pub loop-volume-preserved : goal.loop-volume-preserved
loop-volume-preserved c =
    let volumes = c.args.volumes.now in
    let i = c.loop-volume.volume-index in
    let v = c.volume-item.result in
    let so_far = c.loop-volume.invariant in
    let mother : IsMother (length volumes) v.placements = subst (IsMother (length volumes)) c.placements.ensures c.in-Some.ensures.mother in
    let count : c.in-Some.count ≡ instance_count v = c.in-Some.ensures.count ∙ ap (sum_by copies_of) c.placements.ensures in
    record {
      mothers = All-more (λ (u : Volume). IsMother (length volumes) u.placements) volumes i v c.loop-volume-test.true so_far.mothers (subst (λ (u : Volume). IsMother (length volumes) u.placements) c.volume-item.is mother);
      all = omega (arith, so_far.all, count, sum_by_more instance_count volumes i v c.loop-volume-test.true, ap instance_count c.volume-item.is);
      few = omega (arith, so_far.few, count, mother.few);
    }
