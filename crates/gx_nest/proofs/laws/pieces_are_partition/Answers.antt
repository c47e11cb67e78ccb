use Rattle.gx_nest.proofs.Nested.{partition}
use Rattle.gx_nest.proofs.laws.pieces_are_partition.Goals as goal

pub returns : goal.returns
returns c = partition
