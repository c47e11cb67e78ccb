use Rattle.std.proofs.Common.{◌≡◌, ◌≤◌, ◌++◌, length, drop, reverse}
use Rattle.gx_convex.specs.Points.{distinct_by, distinct}
use Rattle.gx_num.specs.Vector.{is_same}
use Rattle.gx_hull.proofs.points.distinct.Given as goal

-- the points kept and those of the points to come are all distinct points
abbrev pub invariant-loop-p : goal.invariant-loop-p
invariant-loop-p l = record {
  all : l.kept.items ++ distinct_by is_same (reverse l.kept.items) (drop l.p-index l.points) ≡ distinct l.fn.points;
  few : length l.kept.items ≤ 32;
}
