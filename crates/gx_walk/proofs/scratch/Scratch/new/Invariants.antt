use Rattle.std.proofs.Common.{◌≡◌, ◌≤◌, length, map, vec_capacity}
use Rattle.std.specs.List.{AllByRecursion}
use Rattle.gx_walk.proofs.scratch.Scratch.new.Given as goal

abbrev pub invariant-loop : goal.invariant-loop
invariant-loop l = (length l.levels.items ≡ l.counter) × AllByRecursion (λ capacity. l.room ≤ capacity) (map vec_capacity l.levels.items)
