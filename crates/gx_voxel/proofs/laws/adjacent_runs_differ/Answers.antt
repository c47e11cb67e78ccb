use Rattle.std.proofs.Common.{◌≢◌, map}
use Rattle.std.specs.List.{range_with_len}
use Rattle.gx_voxel.specs.Cut.{interval_on, grid_of, members_in}
use Rattle.gx_voxel.specs.Laws.{EachNext}
use Rattle.gx_voxel.proofs.Elements.{cut-is}
use Rattle.gx_voxel.proofs.Grown.{runs-differ}
use Rattle.gx_voxel.proofs.laws.adjacent_runs_differ.Goals as goal

pub returns : goal.returns
returns c = λ at ks axes cut e.
    cut-is at ks (λ c. EachNext (λ run next. run.members ≢ next.members) c.runs) axes
    (λ axis _. let grid = grid_of (λ k. interval_on axis (at k)) ks in runs-differ grid (map (members_in (λ k. interval_on axis (at k)) ks grid) (range_with_len 0 grid.count))) cut e
