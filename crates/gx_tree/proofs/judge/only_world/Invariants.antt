use Rattle.std.proofs.Common.{◌≡◌, filter, not}
use Rattle.std.specs.Option.{option_to_list}
use Rattle.std.specs.List.{range_with_len}
use Rattle.gx_tree.specs.Fault as spec
use Rattle.gx_tree.proofs.judge.only_world.Given as goal

abbrev pub invariant-loop-v : goal.invariant-loop-v
invariant-loop-v l = option_to_list l.world ≡ filter (λ v. not (spec.is_placed l.volumes v)) (range_with_len 0 l.v)
