use Rattle.std.proofs.Common.{◌≡◌, All}
use Rattle.std.specs.List.{list_all}
use Rattle.gx_num.specs.Vector.{IsWithin}
use Rattle.gx_plane.specs.Plane.{reach}
use Rattle.gx_convex.specs.Points.{is_coplanar, are_coplanar}
use Rattle.gx_hull.proofs.flat.are_coplanar.Given as goal

-- the points are coplanar where they are so with the triples that are left
abbrev pub invariant-loop-a : goal.invariant-loop-a
invariant-loop-a l = record {
  rest : list_all (λ t. list_all (is_coplanar t.0 t.1 t.2) l.points) l.a-iterator ≡ are_coplanar l.fn.points;
  within : All (λ t. IsWithin reach t.0 × IsWithin reach t.1 × IsWithin reach t.2) l.a-iterator;
}
