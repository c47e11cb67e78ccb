-- Private to this crate: what is known of members, of grids and of runs.
use Rattle.std.specs.Prelude.{ℕ, ◌*◌, ◌≤◌, ◌<◌, ◌<ℤ◌, unsigned_abs, List, length}
use Rattle.std.specs.List.{All}
use Rattle.gx_num.specs.declared.extent.Extent.{Extent}
use Rattle.gx_boxes.specs.Boxes.{IsProper, reach}
use Rattle.gx_voxel.specs.Members.{AreMembers, extent_at}
use Rattle.gx_voxel.specs.Cut.{Interval, Grid, SliceRun, interval_on}

-- members of a list of extents, that these are proper
pub record AreKnown (extents : List Extent) (ks : List ℕ) : Type 0 where
  pub members : AreMembers ks
  pub below : All (λ k. k < length extents) ks
  pub proper : All IsProper extents

-- what each member has of an axis
abbrev pub along : List Extent → ℕ → ℕ → Interval
along extents axis k = interval_on axis (extent_at extents k)

-- sums and products of a grid's numbers fit
pub record IsSmall (grid : Grid) : Type 0 where
  pub low : unsigned_abs grid.low ≤ reach
  pub span : grid.span ≤ 2 * reach
  pub few : grid.count ≤ 1000
  pub wide : grid.count ≤ grid.span

-- a run of slices of such members
pub record IsPart (extents : List Extent) (run : SliceRun) : Type 0 where
  pub slices : run.first ≤ run.last
  pub bounds : run.low <ℤ run.high
  pub members : AreKnown extents run.members

pub record AreParts (extents : List Extent) (runs : List SliceRun) : Type 0 where
  pub few : length runs ≤ 1000
  pub each : All (IsPart extents) runs
