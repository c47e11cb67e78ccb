use Rattle.std.proofs.Common.{◌≡◌, ◌≤◌, slice_index, unsigned_abs, fold, take}
use Rattle.std.specs.Int.{int_max}
use Rattle.gx_boxes.specs.Boxes.{reach}
use Rattle.gx_refine.specs.Known.{along}
use Rattle.gx_refine.proofs.grid.greatest.Given as goal

abbrev pub invariant-loop-k : goal.invariant-loop-k
invariant-loop-k l =
    (l.greatest ≡ fold (λ z k. int_max z (along l.extents l.axis k).high) (along l.extents l.axis (slice_index l.members 0)).high (take l.k-index l.members))
    × (unsigned_abs l.greatest ≤ reach)
