-- Planes between two lists of points, among those through three of the points.
use Rattle.std.specs.Prelude.{List, [], ◌∷◌, ◌++◌, map, flat_map, Bool, ◌&&◌, Option, Some, None}
use Rattle.gx_num.specs.declared.vector.V3.{V3}
use Rattle.gx_num.specs.Space.{HalfSpace}
use Rattle.gx_plane.specs.Plane.{plane_through, supports, flipped}

-- all of a at n . p <= e, and all of b at n . p >= e
abbrev pub is_between : List V3 → List V3 → HalfSpace → Bool
is_between a b h = supports h a && supports (flipped h) b

-- the pairs at places i < j of a list, in lexicographic order
abbrev pub pairs_of : List V3 → List (V3 × V3)
pairs_of [] = []
pairs_of (p ∷ ps) = map (λ q. (p, q)) ps ++ pairs_of ps

-- the triples at places i < j < k of a list, in lexicographic order
abbrev pub triples_of : List V3 → List (V3 × V3 × V3)
triples_of [] = []
triples_of (p ∷ ps) = map (λ t. (p, t.0, t.1)) (pairs_of ps) ++ triples_of ps

-- first those that begin with p and q, then those with p and two of the seconds, then those of the firsts alone
abbrev pub triples_left : V3 → V3 → List V3 → List V3 → List V3 → List (V3 × V3 × V3)
triples_left p q thirds seconds firsts =
    map (λ r. (p, q, r)) thirds ++ (map (λ t. (p, t.0, t.1)) (pairs_of seconds) ++ triples_of firsts)

-- the plane and then the same plane flipped; no plane where the points are collinear
abbrev pub both_ways : Option HalfSpace → List HalfSpace
both_ways None = []
both_ways (Some h) = h ∷ flipped h ∷ []

-- the planes through three points of a list, each both ways, in the order of the triples
abbrev pub candidates : List V3 → List HalfSpace
candidates points = flat_map (λ t. both_ways (plane_through t.0 t.1 t.2)) (triples_of points)
