use Rattle.std.proofs.Common.{◌≡◌, length}
use Rattle.gx_polygon.specs.Polygon as spec
use Rattle.gx_polygon.proofs.polygon.are_distinct.Given as goal

-- the corners are distinct where those that are left are
abbrev pub invariant-loop-first : goal.invariant-loop-first
invariant-loop-first l = spec.are_distinct l.rest ≡ spec.are_distinct l.fn.corners

abbrev pub decreases-loop-first : goal.decreases-loop-first
decreases-loop-first l = length l.rest
