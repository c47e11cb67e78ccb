use Rattle.std.proofs.Common.{◌<◌, length}
use Rattle.gx_boxes.proofs.tree.widest_gap.Given as goal

abbrev pub invariant-loop-i : goal.invariant-loop-i
invariant-loop-i l = (0 < l.found) × (l.found < length l.boxes)
