use Rattle.std.proofs.Common.{◌≡◌, length}
use Rattle.gx_common.specs.Sides.{crossings_in}
use Rattle.gx_common.specs.Slots.{after}
use Rattle.gx_common.proofs.offers.offer_crossings.Given as goal

-- offering all is offering the rest
abbrev pub invariant-vertices : goal.invariant-vertices
invariant-vertices l = after (crossings_in l.rest) l.slots ≡ after (crossings_in l.fn.vertices) l.fn.slots

abbrev pub decreases-vertices : goal.decreases-vertices
decreases-vertices l = length l.rest
