use Rattle.std.proofs.Common.{◌≡◌, drop}
use Rattle.gx_tree.specs.Fault.{fault_of_placement, first_numbered}
use Rattle.gx_tree.proofs.replicas.fault_in.Given as goal

abbrev pub invariant-loop-k : goal.invariant-loop-k
invariant-loop-k l =
    first_numbered (fault_of_placement l.volumes l.v l.mother) l.k (drop l.k l.mother.placements) ≡ first_numbered (fault_of_placement l.volumes l.v l.mother) 0 l.mother.placements
