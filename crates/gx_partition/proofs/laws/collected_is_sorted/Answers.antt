use Rattle.gx_partition.proofs.Collected.{collected-is}
use Rattle.gx_partition.proofs.laws.collected_is_sorted.Goals as goal

pub returns : goal.returns
returns g c = collected-is
