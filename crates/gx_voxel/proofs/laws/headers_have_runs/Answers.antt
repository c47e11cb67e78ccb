use Rattle.gx_voxel.proofs.Standing.{header-runs}
use Rattle.gx_voxel.proofs.laws.headers_have_runs.Goals as goal

pub returns : goal.returns
returns c = header-runs
