use Rattle.std.proofs.Common.{length}
use Rattle.gx_boxes.specs.Tree.{HasPassed}
use Rattle.gx_boxes.proofs.tree.offer_parts.Given as goal

abbrev pub invariant-loop-part : goal.invariant-loop-part
invariant-loop-part l = HasPassed l.ray l.fn.parts l.rest l.fn.offers l.offers

abbrev pub decreases-loop-part : goal.decreases-loop-part
decreases-loop-part l = length l.rest
