use Rattle.gx_voxel.proofs.Covered.{cover}
use Rattle.gx_voxel.proofs.laws.cells_cover.Goals as goal

pub returns : goal.returns
returns c = cover
