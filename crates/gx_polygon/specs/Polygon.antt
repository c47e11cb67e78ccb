-- Polygons: points at height 0, whose edges go from each to the next and from the last to the first (any text on convex geometry).
use Rattle.std.specs.Prelude.{ℤ, pos, int_le, Bool, ◌&&◌, not, if◌then◌else◌, List, map}
use Rattle.std.specs.List.{list_all}
use Rattle.std.specs.Ordering.{int_eq}
use Rattle.gx_num.specs.declared.vector.V3.{V3}
use Rattle.gx_num.specs.Vector.{is_same}
use Rattle.gx_plane.specs.Plane.{normal_of}
use Rattle.gx_plane.specs.Between.{pairs_of, triples_of}
use Rattle.gx_polygon.specs.Around.{around}

-- how far c is to the left of the line from a to b, times the length from a to b
abbrev pub turn : V3 → V3 → V3 → ℤ
turn a b c = (normal_of a b c).z

-- all points are on one line
abbrev pub is_straight : List V3 → Bool
is_straight points = list_all (λ t. int_eq (turn t.0 t.1 t.2) (pos 0)) (triples_of points)

-- no two of the points are equal
abbrev pub are_distinct : List V3 → Bool
are_distinct points = list_all (λ t. not (is_same t.0 t.1)) (pairs_of points)

-- every point is on the left of, or on, every edge line
abbrev pub are_left : List (V3 × V3) → List V3 → Bool
are_left edges points = list_all (λ e. list_all (λ p. int_le (pos 0) (turn e.0 e.1 p)) points) edges

-- the edges, the other way round where that has the points on the left
abbrev pub edges_of : List V3 → List (V3 × V3)
edges_of points = if are_left (around points) points then around points else map (λ e. (e.1, e.0)) (around points)

-- no two points are equal, and one of both orientations has every point on the left of, or on, every edge line
abbrev pub is_convex : List V3 → Bool
is_convex points = are_distinct points && are_left (edges_of points) points
