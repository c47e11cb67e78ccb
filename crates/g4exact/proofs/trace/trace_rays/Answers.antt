use Rattle.std.proofs.Common.{arith, ap, sym, subst, ◌≤◌, ◌≡◌, ◌∙◌, refl, length, IsTrue}
use Rattle.std.specs.Prelude.{EachIndex}
use Rattle.std.proofs.lemmas.Result.{err_from_is_err_and}
use Rattle.std.proofs.lemmas.List.Elements.{recursion_from_All}
use Rattle.gx_io.specs.Bytes.{with_after, AppendsFront}
use Rattle.gx_tree.specs.Hierarchy.{instances}
use Rattle.gx_gather.specs.Rays.{IsTraceable}
use Rattle.g4exact.proofs.Traces.{texts_in, places_in, lines_of_report, traced_none, head_stopped, rows_stopped, traced_more, traced_whole}
use Rattle.g4exact.specs.Counters.{counters}
use Rattle.g4exact.proofs.Counters.{none_so_far, more_so_far, few_before, few_within, enough_whole}
use Rattle.g4exact.proofs.Paths.{leads_is_path}
use Rattle.g4exact.proofs.trace.trace_rays.Goals as goal

pub loop-i-init : goal.loop-i-init
loop-i-init g c = record {
  traced = traced_none c.args.sealed.now c.args.rays.now _;
  counted = none_so_far c.args.sealed.now c.args.rays.now _;
  items = ap texts_in c.requires.same;
  takes = ap places_in c.requires.same;
  room = c.requires.room;
  faults = refl;
}

pub trace_ray-requires-clause-takes : goal.trace_ray-requires-clause-takes
trace_ray-requires-clause-takes g c = λ row v leads.
    let h = c.args.sealed.now in
    let tree = c.requires.kept.tree in
    subst (λ p. IsTrue (p row)) (sym c.loop-i.invariant.takes) (leads_is_path h tree h.world row.path v tree.world leads)

pub returns-in_err-print_ray-clause-bytes : goal.returns-in_err-print_ray-clause-bytes
returns-in_err-print_ray-clause-bytes g c =
    let h = c.args.sealed.now in
    let rays = c.args.rays.now in
    let kept = recursion_from_All IsTraceable rays c.count-i-end.ensures.kept in
    let p = err_from_is_err_and c.from_residual.result c.from_residual.ensures.1 in
    let front = head_stopped h rays c.loop-i.i (g.K.Sink.written c.args.lines.now.sink) (g.K.Sink.written c.loop-i.lines.sink) (g.K.Sink.written c.print_ray.new.sink) c.loop-i.invariant.traced c.ray-ray.result c.ray-ray.ensures.ray c.requires.kept kept c.ray-ray.ensures.kept c.in_err-print_ray.ensures.bytes.front in
    rw p.1 (front.0, front.1, record { all = tt; front = front.2 })

pub returns-in_err-print_ray-clause-counts : goal.returns-in_err-print_ray-clause-counts
returns-in_err-print_ray-clause-counts g c =
    let h = c.args.sealed.now in
    let rays = c.args.rays.now in
    let kept = recursion_from_All IsTraceable rays c.count-i-end.ensures.kept in
    let p = err_from_is_err_and c.from_residual.result c.from_residual.ensures.1 in
    rw p.1 (few_before h rays c.loop-i.i _ _ c.loop-i.invariant.counted c.requires.kept.tree kept, tt)

pub returns-in_err-trace_ray-clause-bytes : goal.returns-in_err-trace_ray-clause-bytes
returns-in_err-trace_ray-clause-bytes g c =
    let h = c.args.sealed.now in
    let rays = c.args.rays.now in
    let kept = recursion_from_All IsTraceable rays c.count-i-end.ensures.kept in
    let p = err_from_is_err_and c.from_residual-in_err-trace_ray.result c.from_residual-in_err-trace_ray.ensures.1 in
    let report = c.in_err-trace_ray.ensures.report in
    let headed = g.K.Sink.written c.print_ray.new.sink in
    let new = g.K.Sink.written c.trace_ray.new.rows.sink in
    let rows = subst (AppendsFront headed new) (lines_of_report h (texts_in c.loop-i.lines.sealed.now) report.0 c.loop-i.invariant.items) report.2.front in
    let front = rows_stopped h rays c.loop-i.i (g.K.Sink.written c.args.lines.now.sink) (g.K.Sink.written c.loop-i.lines.sink) new c.loop-i.invariant.traced c.ray-ray.result c.ray-ray.ensures.ray report.0 report.1 headed c.in_ok-print_ray.ensures.bytes.all c.requires.kept kept rows in
    rw p.1 (front.0, front.1, record { all = tt; front = front.2 })

pub returns-in_err-trace_ray-clause-counts : goal.returns-in_err-trace_ray-clause-counts
returns-in_err-trace_ray-clause-counts g c =
    let h = c.args.sealed.now in
    let rays = c.args.rays.now in
    let kept = recursion_from_All IsTraceable rays c.count-i-end.ensures.kept in
    let p = err_from_is_err_and c.from_residual-in_err-trace_ray.result c.from_residual-in_err-trace_ray.ensures.1 in
    let old = counters c.args.tests.now c.args.reads.now in
    let mid = counters c.loop-i.tests c.loop-i.reads in
    let new = counters c.trace_ray.new.tests c.trace_ray.new.reads in
    rw p.1 (few_within h rays c.loop-i.i c.ray-ray.result c.ray-ray.ensures.ray old mid new c.loop-i.invariant.counted c.in_err-trace_ray.ensures.few_tests c.in_err-trace_ray.ensures.few_reads c.requires.kept.tree kept, tt)

pub loop-i-preserved : goal.loop-i-preserved
loop-i-preserved g c =
    let h = c.args.sealed.now in
    let rays = c.args.rays.now in
    let inv = c.loop-i.invariant in
    let traced = c.in_ok-trace_ray.ensures in
    let headed = g.K.Sink.written c.print_ray.new.sink in
    let new = g.K.Sink.written c.trace_ray.new.rows.sink in
    let lines = subst (λ l. new ≡ with_after headed l) (lines_of_report h (texts_in c.loop-i.lines.sealed.now) traced.report.0 inv.items) traced.report.2.all in
    record {
      traced = traced_more h rays c.loop-i.i (g.K.Sink.written c.args.lines.now.sink) (g.K.Sink.written c.loop-i.lines.sink) new inv.traced c.ray-ray.result c.ray-ray.ensures.ray traced.report.0 traced.report.1 headed c.in_ok-print_ray.ensures.bytes.all lines;
      counted = more_so_far h rays c.loop-i.i c.ray-ray.result c.ray-ray.ensures.ray (counters c.args.tests.now c.args.reads.now) (counters c.loop-i.tests c.loop-i.reads) (counters c.trace_ray.new.tests c.trace_ray.new.reads) inv.counted
          traced.few_tests traced.few_reads traced.some_tests traced.some_reads;
      items = traced.same_items ∙ inv.items;
      takes = traced.same_takes ∙ inv.takes;
      room = subst (λ s. EachIndex h.volumes (λ v. length (instances h v) ≤ s)) (sym traced.room) inv.room;
      faults = traced.cause.kept ∙ c.in_ok-print_ray.ensures.cause.kept ∙ inv.faults;
    }

pub returns-clause-bytes : goal.returns-clause-bytes
returns-clause-bytes g c =
    let whole = traced_whole c.args.sealed.now c.args.rays.now c.loop-i.i (g.K.Sink.written c.args.lines.now.sink) (g.K.Sink.written c.loop-i.lines.sink) c.loop-i.invariant.traced (omega arith) in
    (whole.0, whole.1, record { all = whole.2; front = tt })

pub returns-clause-counts : goal.returns-clause-counts
returns-clause-counts g c =
    let h = c.args.sealed.now in
    let rays = c.args.rays.now in
    let kept = recursion_from_All IsTraceable rays c.count-i-end.ensures.kept in
    let counted = c.loop-i.invariant.counted in
    (few_before h rays c.loop-i.i _ _ counted c.requires.kept.tree kept, enough_whole h rays c.loop-i.i _ _ counted (omega arith))
