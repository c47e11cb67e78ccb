-- What a sample writes, and what the second one counts.
use Rattle.std.specs.Prelude.{◌≡◌, ℕ, ◌+◌, ◌≤◌, List, Some}
use Rattle.gx_sample_clean.specs.Sample.{sample_tree, sample_rays}
use Rattle.g4exact.specs.declared.command.Command.TheVariants.{Sample}
use Rattle.g4exact.specs.declared.outcome.Status.{Status}
use Rattle.g4exact.specs.declared.outcome.Status.TheVariants.{Clean}
use Rattle.g4exact.specs.Output.{IsSummary, IsOutput}
use Rattle.g4exact.specs.Counters.{Counters, IsCounted}

-- Each output of a sample from 1 to 64 is the line of its numbers, with the status that tells that no verdict refutes its geometry.
abbrev pub SamplesAreSummaries : Type 0
SamplesAreSummaries = (n : ℕ) → 1 ≤ n → n ≤ 64 → (text bytes : List ℕ) (status : Status) → IsOutput (Some (Sample n)) text bytes status
    → (status ≡ Clean) × IsSummary n (sample_tree n) (sample_rays n) bytes

-- For the second sample 4 to 12 daughters are tested, and 1 to 20 headers and runs read.
abbrev pub SecondSampleIsCounted : Type 0
SecondSampleIsCounted = (text : List ℕ) (old new : Counters) → IsCounted (Some (Sample 2)) text old new Clean
    → (old.tests + 4 ≤ new.tests) × (new.tests ≤ old.tests + 12) × (old.reads + 1 ≤ new.reads) × (new.reads ≤ old.reads + 20)
