use Rattle.std.proofs.Common.{◌≡◌, drop}
use Rattle.gx_common.specs.Sides.{crossings_with}
use Rattle.gx_common.specs.Slots.{after}
use Rattle.gx_common.proofs.offers.offer_with.Given as goal

-- offering all is offering the rest
abbrev pub invariant-loop-second : goal.invariant-loop-second
invariant-loop-second l = after (crossings_with l.first (drop l.second-index l.others)) l.slots ≡ after (crossings_with l.fn.first l.fn.others) l.fn.slots
