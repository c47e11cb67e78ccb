use Rattle.std.proofs.Common.{◌≡◌, ◌++◌, find, flat_map, All}
use Rattle.gx_num.specs.Vector.{IsWithin}
use Rattle.gx_plane.specs.Plane.{reach, plane_through}
use Rattle.gx_plane.specs.Between.{is_between, both_ways, candidates}
use Rattle.gx_plane.proofs.between.first_triple_between.Given as goal

-- the first of all is the first of those that are left
abbrev pub invariant-loop-p : goal.invariant-loop-p
invariant-loop-p l = record {
  first : find (is_between l.a l.b) (flat_map (λ t. both_ways (plane_through t.0 t.1 t.2)) l.p-iterator) ≡ find (is_between l.fn.a l.fn.b) (candidates (l.fn.a ++ l.fn.b));
  within : All (λ t. IsWithin reach t.0 × IsWithin reach t.1 × IsWithin reach t.2) l.p-iterator;
}
