-- The faces of triples of points, in their order.
use Rattle.std.specs.Prelude.{◌⊎◌, List, ◌++◌, map, flat_map, filter, reverse, Contains}
use Rattle.gx_num.specs.declared.vector.V3.{V3}
use Rattle.gx_num.specs.Space.{HalfSpace}
use Rattle.gx_plane.specs.Plane.{supports, plane_through}
use Rattle.gx_plane.specs.Between.{pairs_of, both_ways}
use Rattle.gx_convex.specs.Points.{distinct_by}
use Rattle.gx_convex.specs.Faces.{is_same_plane}

-- the triples that begin with these two points
abbrev pub triples_along : V3 → V3 → List V3 → List (V3 × V3 × V3)
triples_along a b thirds = map (λ c. (a, b, c)) thirds

-- the triples that begin with this point
abbrev pub triples_from : V3 → List V3 → List (V3 × V3 × V3)
triples_from a seconds = map (λ t. (a, t.0, t.1)) (pairs_of seconds)

-- the planes of the triples, each both ways, that have no point beyond them
abbrev pub faces_through : List V3 → List (V3 × V3 × V3) → List HalfSpace
faces_through points triples = filter (λ h. supports h points) (flat_map (λ t. both_ways (plane_through t.0 t.1 t.2)) triples)

-- the faces, and behind them those of the triples that aren't among them, each once
abbrev pub after : List V3 → List (V3 × V3 × V3) → List HalfSpace → List HalfSpace
after points triples faces = faces ++ distinct_by is_same_plane (reverse faces) (faces_through points triples)

-- the plane is among the planes or the faces
abbrev pub IsListed : List HalfSpace → List HalfSpace → HalfSpace → Type 0
IsListed planes faces h = Contains planes h ⊎ Contains faces h
