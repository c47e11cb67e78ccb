use Rattle.std.proofs.Common.{◌≡◌, ◌≤◌, length, take}
use Rattle.std.specs.Io.KnownBytes.{Appends}
use Rattle.gx_io.proofs.std_sink.StdSinkSink.write.Given as goal

-- what was taken is of the piece and has reached the writer, and no fault was counted
abbrev pub invariant-loop : goal.invariant-loop
invariant-loop g l =
    (l.taken ≤ length l.piece)
    × Appends (g.W.Write.contents l.fn.self.inner) (g.W.Write.contents l.self.inner) (take l.taken l.piece)
    × (l.self.faults ≡ l.fn.self.faults)
