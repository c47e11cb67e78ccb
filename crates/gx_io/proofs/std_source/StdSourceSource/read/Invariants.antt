use Rattle.std.proofs.Common.{◌≡◌}
use Rattle.std.specs.Io.KnownBytes.{Keeps}
use Rattle.gx_io.proofs.std_source.StdSourceSource.read.Given as goal

-- nothing was lost, and no fault was counted
abbrev pub invariant-loop : goal.invariant-loop
invariant-loop g l =
    Keeps (g.R.Read.remaining l.fn.self.inner) (g.R.Read.remaining l.self.inner)
    × (l.self.faults ≡ l.fn.self.faults)
