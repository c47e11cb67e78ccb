-- The points that two lists of vertices have in common, among their vertices and the crossings of their segments with their faces.
use Rattle.std.specs.Prelude.{ℕ, pos, ◌+ℤ◌, ◌*ℤ◌, int_lt, unsigned_abs, Bool, ◌&&◌, if◌then◌else◌, List, [], ◌∷◌, ◌++◌, map, find, filter, filter_map, flat_map, Option, Some, None}
use Rattle.std.specs.Option.{option_map, option_and_then}
use Rattle.std.specs.Ordering.{int_eq}
use Rattle.gx_num.specs.declared.vector.V3.{V3}
use Rattle.gx_num.specs.Space.{HalfSpace, normal_dot, is_in}
use Rattle.gx_num.specs.Vector4.{Vec4, lowest4}
use Rattle.gx_plane.specs.Plane.{side_of}
use Rattle.gx_plane.specs.Between.{pairs_of}
use Rattle.gx_convex.specs.Points.{distinct_by}
use Rattle.gx_convex.specs.Faces.{faces_of}

-- p as a point with w = 1
abbrev pub point_of : V3 → Vec4
point_of p = record { x = p.x; y = p.y; z = p.z; w = pos 1 }

-- the point (k p + l q) / (k + l)
abbrev pub mixed : ℕ → V3 → ℕ → V3 → Vec4
mixed k p l q = record {
  x = pos k *ℤ p.x +ℤ pos l *ℤ q.x;
  y = pos k *ℤ p.y +ℤ pos l *ℤ q.y;
  z = pos k *ℤ p.z +ℤ pos l *ℤ q.z;
  w = pos k +ℤ pos l;
}

-- where the segment of two points meets a plane; None where they aren't strictly on different sides
abbrev pub crossing : HalfSpace → V3 → V3 → Option Vec4
crossing h p q =
    if int_lt (side_of h p *ℤ side_of h q) (pos 0) then Some (mixed (unsigned_abs (side_of h q)) p (unsigned_abs (side_of h p)) q) else None

-- for each pair of the points the crossings with each plane
abbrev pub crossings : List V3 → List HalfSpace → List Vec4
crossings points planes = flat_map (λ t. filter_map (λ h. crossing h t.0 t.1) planes) (pairs_of points)

-- the vertices of each that are in the other, then the crossings of each with the other's faces that are in the other
abbrev pub candidate_points : List V3 → List V3 → List Vec4
candidate_points a b =
    filter (is_in (faces_of b)) (map point_of a) ++
    (filter (is_in (faces_of a)) (map point_of b) ++
    (filter (is_in (faces_of b)) (crossings a (faces_of b)) ++ filter (is_in (faces_of a)) (crossings b (faces_of a))))

-- the point is at n . p < e
abbrev pub is_strict : HalfSpace → Vec4 → Bool
is_strict h p = int_lt (normal_dot h p) (h.e *ℤ p.w)

-- for each face the first of the points that is strictly inside it; None where a face has none
abbrev pub taken : List Vec4 → List HalfSpace → Option (List Vec4)
taken points [] = Some []
taken points (h ∷ hs) = option_and_then (λ p. option_map (λ ps. p ∷ ps) (taken points hs)) (find (is_strict h) points)

-- the candidate points taken for the faces of both
abbrev pub taken_of : List V3 → List V3 → Option (List Vec4)
taken_of a b = taken (candidate_points a b) (faces_of a ++ faces_of b)

-- the same four numbers
abbrev pub is_same_point : Vec4 → Vec4 → Bool
is_same_point a b = int_eq a.x b.x && int_eq a.y b.y && int_eq a.z b.z && int_eq a.w b.w

-- the points taken for the faces of both, in lowest terms, each once at its first place; None where a face has none
abbrev pub common_of : List V3 → List V3 → Option (List Vec4)
common_of a b = option_map (λ points. distinct_by is_same_point [] (map lowest4 points)) (taken_of a b)
