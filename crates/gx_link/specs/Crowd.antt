-- How many daughters there may be: at most 4096 in one mother, and 65536 in all.
use Rattle.std.specs.Prelude.{ℕ, List, [], ◌∷◌, ◌++◌, Bool, ◌||◌, ◌==◌, nat_lt, filter, map, sum_by, Option, None, Some, if◌then◌else◌}
use Rattle.gx_tree.specs.declared.placement.Placement.{Placement}
use Rattle.gx_tree.specs.Volume.{copies_of}
use Rattle.gx_link.specs.declared.link.LinkedPlacement.{LinkedPlacement}

-- the placements in one mother, in the order of their lines
abbrev pub placed_in : ℕ → List LinkedPlacement → List LinkedPlacement
placed_in mother placements = filter (λ (p : LinkedPlacement). p.mother == mother) placements

-- without their lines
abbrev pub placements_in : ℕ → List LinkedPlacement → List Placement
placements_in mother placements = map (λ (p : LinkedPlacement). p.placement) (placed_in mother placements)

-- with the placements of these lines there are too many daughters in this mother, or in all
abbrev pub is_crowded : List LinkedPlacement → ℕ → Bool
is_crowded placements mother =
    nat_lt 4096 (sum_by copies_of (placements_in mother placements)) || nat_lt 65536 (sum_by (λ (p : LinkedPlacement). copies_of p.placement) placements)

-- the first line, after those before, whose placement is too many
abbrev pub first_crowded : List LinkedPlacement → List LinkedPlacement → Option ℕ
first_crowded before [] = None
first_crowded before (p ∷ ps) = if is_crowded (before ++ p ∷ []) p.mother then Some p.line else first_crowded (before ++ p ∷ []) ps
