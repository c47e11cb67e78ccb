-- What a sample text promises.
use Rattle.std.specs.Prelude.{◌≡◌, ℕ, ◌+◌, ◌*◌, ◌≤◌, find, None, Ok}
use Rattle.gx_tree.specs.Fault.{IsTree}
use Rattle.gx_check.specs.Clean.{IsClean}
use Rattle.gx_check.specs.Verdicts.{verdicts, refutes}
use Rattle.gx_canon.specs.Canonical.{millimetre}
use Rattle.gx_reader.specs.Reading.{reading}
use Rattle.gx_sample.specs.Text.{sample_text}
use Rattle.gx_sample_clean.specs.Sample.{sample_tree, sample_rays, instances_of_all}

-- Read on the grid of 1 mm it is this hierarchy with three rays. The hierarchy keeps what each one does, is clean, so that no verdict
-- refutes it, and has so many instances.
pub record IsCleanSample (n : ℕ) : Type 0 where
  pub read : reading millimetre (sample_text n) ≡ Ok (record { tree = sample_tree n; rays = sample_rays n })
  pub tree : IsTree (sample_tree n)
  pub clean : IsClean (sample_tree n)
  pub unrefuted : find refutes (verdicts (sample_tree n)) ≡ None
  pub count : instances_of_all (sample_tree n) ≡ n * n + 1

-- each sample text
abbrev pub CleanSample : Type 0
CleanSample = (n : ℕ) → 1 ≤ n → n ≤ 64 → IsCleanSample n
