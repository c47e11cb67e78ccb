use Rattle.std.proofs.Common.{◌≡◌, ◌||◌, ℕ, nat_eq, take}
use Rattle.std.specs.List.{list_any}
use Rattle.gx_tree.specs.Volume.{daughter_of}
use Rattle.gx_tree.specs.Marks.{is_marked}
use Rattle.gx_tree.proofs.chains.mark.Given as goal

abbrev pub invariant-loop-placement : goal.invariant-loop-placement
invariant-loop-placement l =
    (w : ℕ) → is_marked l.marks w ≡ (is_marked l.fn.marks w || list_any (λ p. nat_eq (daughter_of p) w) (take l.placement-index l.placements))
