use Rattle.std.proofs.Common.{◌≡◌, drop, filter, map}
use Rattle.gx_num.specs.Space.{is_in}
use Rattle.gx_common.specs.Common.{point_of}
use Rattle.gx_common.specs.Slots.{after}
use Rattle.gx_common.proofs.offers.offer_vertices.Given as goal

-- offering all is offering the rest
abbrev pub invariant-loop-point : goal.invariant-loop-point
invariant-loop-point l = after (filter (is_in l.faces) (map point_of (drop l.point-index l.points))) l.slots ≡ after (filter (is_in l.fn.faces) (map point_of l.fn.points)) l.fn.slots
