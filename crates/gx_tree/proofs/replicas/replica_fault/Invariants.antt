use Rattle.std.proofs.Common.{◌≡◌, drop}
use Rattle.gx_tree.specs.Fault.{replica_fault_in, first_numbered}
use Rattle.gx_tree.proofs.replicas.replica_fault.Given as goal

abbrev pub invariant-loop-v : goal.invariant-loop-v
invariant-loop-v l = first_numbered (replica_fault_in l.volumes) l.v (drop l.v l.volumes) ≡ first_numbered (replica_fault_in l.volumes) 0 l.volumes
