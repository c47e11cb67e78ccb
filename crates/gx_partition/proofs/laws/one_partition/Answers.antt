use Rattle.gx_partition.proofs.OnePartition.{one_partition}
use Rattle.gx_partition.proofs.laws.one_partition.Goals as goal

pub returns : goal.returns
returns c = one_partition
