use Rattle.std.proofs.Common.{◌≡◌, take}
use Rattle.std.specs.List.{concat}
use Rattle.gx_io.specs.Bytes.{with_after}
use Rattle.gx_list.proofs.texts.write_texts.Given as goal

-- the texts before this one were written, and no fault was counted
abbrev pub invariant-loop-i : goal.invariant-loop-i
invariant-loop-i g l = record {
  written : g.K.Sink.written l.sink ≡ with_after (g.K.Sink.written l.initial.sink) (concat (take l.i (g.T.Texts.texts l.texts)));
  faults : g.K.Sink.faults l.sink ≡ g.K.Sink.faults l.initial.sink;
}
