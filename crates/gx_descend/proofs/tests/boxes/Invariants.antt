use Rattle.std.proofs.Common.{◌≡◌, length}
use Rattle.std.specs.List.{All}
use Rattle.gx_boxes.specs.Boxes.{IsProper}
use Rattle.gx_descend.proofs.tests.boxes.Given as goal

abbrev pub invariant-loop-i : goal.invariant-loop-i
invariant-loop-i l = All IsProper l.extents.items × (length l.extents.items ≡ l.i)
