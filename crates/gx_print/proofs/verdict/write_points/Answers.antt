use Rattle.std.proofs.Common.{refl, sym, ◌∙◌}
use Rattle.std.proofs.lemmas.Result.{err_from_is_err_and}
use Rattle.gx_io.proofs.Joined.{with_after-nothing}
use Rattle.gx_print.specs.Texts.{point_text}
use Rattle.gx_print.proofs.Series.{series_more, series_stopped}
use Rattle.gx_print.proofs.verdict.write_points.Goals as goal

pub loop-i-init : goal.loop-i-init
loop-i-init g c = record { written = sym (with_after-nothing _); faults = refl }

pub loop-i-preserved : goal.loop-i-preserved
loop-i-preserved g c =
    let l = c.loop-i.invariant in
    let point = c.in_ok-write_point.ensures in
    record {
      written = series_more point_text c.args.points.now c.loop-i.i c.at.result (g.K.Sink.written c.args.sink.now) _ _ c.at.ensures l.written point.bytes.all;
      faults = point.cause.kept ∙ l.faults;
    }

pub returns-in_err-write_point-clause-bytes : goal.returns-in_err-write_point-clause-bytes
returns-in_err-write_point-clause-bytes g c =
    let e = err_from_is_err_and c.from_residual.result c.from_residual.ensures.1 in
    rw e.1 (record { all = tt; front = series_stopped point_text c.args.points.now c.loop-i.i c.at.result (g.K.Sink.written c.args.sink.now) _ _ c.at.ensures c.loop-i.invariant.written c.in_err-write_point.ensures.bytes.front })
