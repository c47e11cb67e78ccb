use Rattle.std.proofs.Common.{◌≡◌, ℕ, false, slice_index_or, take}
use Rattle.std.specs.List.{list_any}
use Rattle.gx_list.specs.Pieces.{has_rotation}
use Rattle.gx_list.proofs.turns.Turns.of.Given as goal

abbrev pub invariant-loop-v : goal.invariant-loop-v
invariant-loop-v l =
    (k : ℕ) → slice_index_or l.used k false ≡ list_any (λ v. list_any (has_rotation k) v.placements) (take l.v l.tree.volumes)
