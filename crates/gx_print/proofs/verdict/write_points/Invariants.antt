use Rattle.std.proofs.Common.{◌≡◌, take}
use Rattle.std.specs.Prelude.{flat_map}
use Rattle.gx_io.specs.Bytes.{with_after}
use Rattle.gx_print.specs.Texts.{point_text}
use Rattle.gx_print.proofs.verdict.write_points.Given as goal

-- the points so far were written
abbrev pub invariant-loop-i : goal.invariant-loop-i
invariant-loop-i g l = record {
  written : g.K.Sink.written l.sink ≡ with_after (g.K.Sink.written l.initial.sink) (flat_map point_text (take l.i l.points));
  faults : g.K.Sink.faults l.sink ≡ g.K.Sink.faults l.initial.sink;
}
