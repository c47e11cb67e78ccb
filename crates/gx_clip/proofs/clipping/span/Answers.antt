use Rattle.std.proofs.Common.{arith}
use Rattle.std.proofs.lemmas.Grind.{common_steps}
use Rattle.gx_clip.proofs.Parameters.{form-below_form}
use Rattle.gx_clip.proofs.clipping.span.Goals as goal

pub invariant_of-result : goal.invariant_of-result
invariant_of-result c =
    let from = c.lowest.ensures in
    let to = c.lowest-then-is_below.ensures in
    record { start = from.sign; end = to.sign; ordered = form-below_form _ _ _ _ from to (grind (arith, common_steps)) }
