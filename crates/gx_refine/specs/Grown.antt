-- Private to this crate: runs of slices, one slice after another.
use Rattle.std.specs.Prelude.{◌≡◌, ℕ, ◌+◌, ◌-◌, nat_eq, if◌then◌else◌, List, [], ◌∷◌, ◌++◌, map}
use Rattle.std.specs.List.{range_with_len}
use Rattle.std.specs.Cmp.Lexicographic.{pointwise}
use Rattle.gx_voxel.specs.Cut.{Grid, SliceRun, bound_at, run_of, grown}

-- With one more slice, the last run is longer, or another begins.
abbrev pub last_after : Grid → SliceRun → ℕ → List ℕ → SliceRun
last_after grid run i next = if pointwise nat_eq run.members next then record { first = run.first; last = i; low = run.low; high = bound_at grid (i + 1); members = run.members } else run_of grid i i next

-- and the runs before it
abbrev pub ended_after : List SliceRun → SliceRun → List ℕ → List SliceRun
ended_after ended run next = if pointwise nat_eq run.members next then ended else ended ++ run ∷ []

-- The first i slices make these runs and a last one; with those to come they are all.
pub record AreRunsSoFar (grid : Grid) (slice : ℕ → List ℕ) (i : ℕ) (ended : List SliceRun) (run : SliceRun) (all : List SliceRun) : Type 0 where
  pub is : run ≡ run_of grid run.first run.last run.members
  pub last : run.last + 1 ≡ i
  pub whole : ended ++ grown grid run.first run.last run.members (map slice (range_with_len i (grid.count - i))) ≡ all
