use Rattle.std.proofs.Common.{◌≤◌, length}
use Rattle.std.specs.List.{All}
use Rattle.gx_boxes.specs.Boxes.{IsProper}
use Rattle.gx_refine.proofs.tests.extents_on_x.Given as goal

abbrev pub invariant-loop-low : goal.invariant-loop-low
invariant-loop-low l = All IsProper l.extents.items × (length l.extents.items ≤ l.low-index)
