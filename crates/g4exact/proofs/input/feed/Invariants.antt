use Rattle.std.proofs.Common.{◌≡◌, ◌-◌}
use Rattle.g4exact.specs.Ends.{most_read}
use Rattle.g4exact.proofs.Feeding.{Fed}
use Rattle.g4exact.proofs.input.feed.Given as goal

abbrev pub invariant-reads : goal.invariant-reads
invariant-reads g l = record {
  fed : Fed (g.S.Source.left l.initial.source) (g.S.Source.left l.source) l.initial.reader l.reader l.count;
  faults : g.S.Source.faults l.source ≡ g.S.Source.faults l.initial.source;
}

abbrev pub decreases-reads : goal.decreases-reads
decreases-reads g l = most_read - l.count
