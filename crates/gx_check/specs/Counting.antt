-- Counts of verdicts added up. For private functions.
use Rattle.std.specs.Prelude.{◌+◌, ◌^◌, ◌≤◌}
use Rattle.gx_check.specs.declared.counts.Counts.{Counts}

abbrev pub plus : Counts → Counts → Counts
plus a b = record { daughters = a.daughters + b.daughters; pairs = a.pairs + b.pairs; refuted = a.refuted + b.refuted }

-- they can be added
pub record IsFew (counts : Counts) : Type 0 where
  pub daughters : counts.daughters ≤ 2 ^ 62
  pub pairs : counts.pairs ≤ 2 ^ 62
  pub refuted : counts.refuted ≤ 2 ^ 62
