use Rattle.std.proofs.Common.{◌≡◌, ◌++◌, [], drop, reverse, map, Some, true}
use Rattle.std.specs.List.{list_any}
use Rattle.gx_num.specs.Vector4.{Vec4, lowest4}
use Rattle.gx_convex.specs.Points.{distinct_by}
use Rattle.gx_common.specs.Common.{is_same_point}
use Rattle.gx_common.proofs.distinct.distinct.Given as goal

-- the points so far and those of the candidates to come are all; the last candidate's point is among those so far
abbrev pub invariant-loop-candidate : goal.invariant-loop-candidate
invariant-loop-candidate l = record {
  all : l.points.items ++ distinct_by is_same_point (reverse l.points.items) (map lowest4 (drop l.candidate-index l.candidates)) ≡ distinct_by is_same_point [] (map lowest4 l.fn.candidates);
  last : (x : Vec4) → l.last ≡ Some x → list_any (is_same_point (lowest4 x)) l.points.items ≡ true;
}
