use Rattle.std.proofs.Common.{arith, ◌+◌, ◌∙◌, sym, length, ap}
use Rattle.std.specs.Prelude.{sum_by}
use Rattle.std.specs.List.{range_with_len}
use Rattle.gx_tree.specs.Hierarchy.{instances}
use Rattle.g4exact.proofs.RowCounts.{sum_more}
use Rattle.g4exact.proofs.summary.instances_of.Goals as goal

pub loop-v-preserved : goal.loop-v-preserved
loop-v-preserved c =
    let f = λ (v : _). length (instances c.args.sealed.now v) in
    let next = sum_more f c.loop-v.v in
    record {
      sum = ap (λ n. n + c.daughters-all.result) c.loop-v.invariant.sum ∙ ap (λ n. sum_by f (range_with_len 0 c.loop-v.v) + n) c.daughters-all.ensures.value ∙ sym next;
      few = omega (arith, c.loop-v.invariant.few, c.daughters-all.ensures.few);
    }
