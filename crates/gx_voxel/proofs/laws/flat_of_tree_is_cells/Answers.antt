use Rattle.gx_voxel.proofs.Flat.{flat}
use Rattle.gx_voxel.proofs.laws.flat_of_tree_is_cells.Goals as goal

pub returns : goal.returns
returns c = flat
