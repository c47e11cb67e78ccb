use Rattle.std.proofs.Common.{◌≡◌, ◌≤◌, slice_index, unsigned_abs, fold, take}
use Rattle.std.specs.Int.{int_min}
use Rattle.gx_boxes.specs.Boxes.{reach}
use Rattle.gx_refine.specs.Known.{along}
use Rattle.gx_refine.proofs.grid.least.Given as goal

abbrev pub invariant-loop-k : goal.invariant-loop-k
invariant-loop-k l =
    (l.least ≡ fold (λ z k. int_min z (along l.extents l.axis k).low) (along l.extents l.axis (slice_index l.members 0)).low (take l.k-index l.members))
    × (unsigned_abs l.least ≤ reach)
