use Rattle.std.proofs.Common.{◌≡◌, ◌≤◌, ◌*◌, length}
use Rattle.std.specs.Prelude.{sum_by}
use Rattle.std.specs.List.{range_with_len}
use Rattle.gx_tree.specs.Hierarchy.{instances}
use Rattle.g4exact.proofs.summary.instances_of.Given as goal

-- the daughters of the first volumes
abbrev pub invariant-loop-v : goal.invariant-loop-v
invariant-loop-v l = record {
  sum : l.all ≡ sum_by (λ v. length (instances l.sealed v)) (range_with_len 0 l.v);
  few : l.all ≤ 4096 * l.v;
}
