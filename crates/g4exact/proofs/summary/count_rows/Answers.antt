use Rattle.std.proofs.Common.{arith, ap, ◌≤◌, ◌∙◌, refl, sym, subst, length}
use Rattle.std.specs.Prelude.{EachIndex, ◌-◌, ◌^◌, min}
use Rattle.gx_tree.specs.Hierarchy.{instances}
use Rattle.g4exact.proofs.RowCounts.{Counted, counted_none, counted_more, counted_whole, never_fails}
use Rattle.g4exact.specs.Counters.{counters}
use Rattle.g4exact.proofs.Counters.{none_so_far, more_so_far, few_before, enough_whole}
use Rattle.gx_gather.specs.Rays.{IsTraceable}
use Rattle.std.proofs.lemmas.List.Elements.{recursion_from_All}
use Rattle.g4exact.proofs.summary.count_rows.Goals as goal

pub loop-i-init : goal.loop-i-init
loop-i-init g c = record {
  counted = subst (Counted c.args.sealed.now c.args.rays.now 0) (sym c.new.ensures) (counted_none c.args.sealed.now c.args.rays.now);
  tested = none_so_far c.args.sealed.now c.args.rays.now _;
  room = c.requires.room;
}

pub loop-i-preserved : goal.loop-i-preserved
loop-i-preserved g c =
    let h = c.args.sealed.now in
    let rays = c.args.rays.now in
    let inv = c.loop-i.invariant in
    let traced = c.trace_ray.ensures in
    record {
      counted = counted_more h rays c.loop-i.i c.loop-i.rows inv.counted c.ray.result c.ray.ensures.ray traced.report.0 traced.report.1 c.trace_ray.new.rows
          (never_fails c.trace_ray.result traced.cause _ traced.report.2.all);
      tested = more_so_far h rays c.loop-i.i c.ray.result c.ray.ensures.ray (counters c.args.tests.now c.args.reads.now) (counters c.loop-i.tests c.loop-i.reads) (counters c.trace_ray.new.tests c.trace_ray.new.reads) inv.tested
          traced.few_tests traced.few_reads (never_fails c.trace_ray.result traced.cause _ traced.some_tests) (never_fails c.trace_ray.result traced.cause _ traced.some_reads);
      room = subst (λ s. EachIndex h.volumes (λ v. length (instances h v) ≤ s)) (sym traced.room) inv.room;
    }

pub returns-clause-rows : goal.returns-clause-rows
returns-clause-rows g c = (
  c.loop-i.rows,
  counted_whole c.args.sealed.now c.args.rays.now c.loop-i.i c.loop-i.rows c.loop-i.invariant.counted (omega arith),
  c.rows.invariant ∙ ap (λ n. min n (2 ^ 64 - 1)) c.rows.view_is,
)

pub returns-clause-few : goal.returns-clause-few
returns-clause-few g c = few_before c.args.sealed.now c.args.rays.now c.loop-i.i _ _ c.loop-i.invariant.tested c.requires.kept.tree (recursion_from_All IsTraceable c.args.rays.now c.count-i-end.ensures.kept)

pub returns-clause-enough : goal.returns-clause-enough
returns-clause-enough g c = enough_whole c.args.sealed.now c.args.rays.now c.loop-i.i _ _ c.loop-i.invariant.tested (omega arith)
