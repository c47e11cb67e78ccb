use Rattle.std.proofs.Common.{◌≡◌, ◌≤◌, length}
use Rattle.std.specs.Prelude.{EachIndex}
use Rattle.gx_tree.specs.Hierarchy.{instances}
use Rattle.g4exact.proofs.Traces.{Traced, texts_in, places_in}
use Rattle.g4exact.specs.Counters.{counters}
use Rattle.g4exact.proofs.Counters.{SoFar}
use Rattle.g4exact.proofs.trace.trace_rays.Given as goal

-- what was written, with a trace of the rays that are left, is a trace of all; and so are the counts
abbrev pub invariant-loop-i : goal.invariant-loop-i
invariant-loop-i g l = record {
  traced : Traced l.sealed l.rays l.i (g.K.Sink.written l.initial.lines.sink) (g.K.Sink.written l.lines.sink);
  counted : SoFar l.sealed l.rays l.i (counters l.initial.tests l.initial.reads) (counters l.tests l.reads);
  items : texts_in l.lines.sealed.now ≡ texts_in l.sealed;
  takes : places_in l.lines.sealed.now ≡ places_in l.sealed;
  room : EachIndex l.sealed.volumes (λ v. length (instances l.sealed v) ≤ l.scratch);
  faults : g.K.Sink.faults l.lines.sink ≡ g.K.Sink.faults l.initial.lines.sink;
}
