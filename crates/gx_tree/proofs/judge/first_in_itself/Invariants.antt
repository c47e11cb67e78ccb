use Rattle.std.proofs.Common.{◌≡◌, ◌<◌, ℕ, false}
use Rattle.gx_tree.specs.Fault as spec
use Rattle.gx_tree.proofs.judge.first_in_itself.Given as goal

abbrev pub invariant-loop-v : goal.invariant-loop-v
invariant-loop-v l = (k : ℕ) → k < l.v → spec.is_in_itself l.volumes k ≡ false
