use Rattle.std.proofs.Common.{◌≤◌, length, sym, subst}
use Rattle.gx_tree.specs.Volume.{Volume}
use Rattle.gx_tree.proofs.Counts.{few_placements}
use Rattle.gx_tree.proofs.replicas.replica_fault.Goals as goal

pub fault_in-fault-requires-clause-few : goal.fault_in-fault-requires-clause-few
fault_in-fault-requires-clause-few c =
    subst (λ (v : Volume). length v.placements ≤ 4096) (sym c.index-volumes-v.is) (few_placements c.args.volumes.now c.requires c.loop-v.v c.index-volumes-v.result c.loop-v-test.true)
