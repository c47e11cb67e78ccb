use Rattle.std.proofs.Common.{◌≡◌, ◌||◌, ℕ, false, slice_index_or, take}
use Rattle.std.specs.List.{list_any}
use Rattle.gx_list.specs.Pieces.{has_rotation}
use Rattle.gx_list.proofs.turns.mark.Given as goal

abbrev pub invariant-loop-placement : goal.invariant-loop-placement
invariant-loop-placement l =
    (k : ℕ) → slice_index_or l.used k false ≡ (slice_index_or l.fn.used k false || list_any (has_rotation k) (take l.placement-index l.placements))
