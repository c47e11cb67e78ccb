use Rattle.gx_partition.proofs.Partitions.{partition_of_nest}
use Rattle.gx_partition.proofs.laws.nest_is_partition.Goals as goal

pub returns : goal.returns
returns g c = partition_of_nest
