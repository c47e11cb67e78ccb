use Rattle.std.proofs.Common.{◌≡◌, ◌-◌, ◌≤◌, length, take}
use Rattle.gx_io.specs.Bytes.{with_after}
use Rattle.gx_io.proofs.writing.write_front.Given as goal

-- a front was taken, and no fault was counted
abbrev pub invariant-loop-at : goal.invariant-loop-at
invariant-loop-at g l =
    (l.at ≤ length l.bytes)
    × (g.K.Sink.written l.sink ≡ with_after (g.K.Sink.written l.initial.sink) (take l.at l.bytes))
    × (g.K.Sink.faults l.sink ≡ g.K.Sink.faults l.initial.sink)

abbrev pub decreases-loop-at : goal.decreases-loop-at
decreases-loop-at g l = length l.bytes - l.at
