use Rattle.std.proofs.Common.{◌≡◌}
use Rattle.gx_print.proofs.Places.{IsWrittenTo}
use Rattle.gx_print.proofs.row.write_path.Given as goal

-- the path so far was written
abbrev pub invariant-loop-i : goal.invariant-loop-i
invariant-loop-i g l = record {
  so_far : IsWrittenTo l.sealed l.path l.i l.volume (g.K.Sink.written l.initial.sink) (g.K.Sink.written l.sink);
  faults : g.K.Sink.faults l.sink ≡ g.K.Sink.faults l.initial.sink;
}
