-- The faces of points: the Geant4 Book for Application Developers, geometry, solids (convex ones); their order is this project's own.
use Rattle.std.specs.Prelude.{List, [], Bool, ◌&&◌, filter}
use Rattle.std.specs.Ordering.{int_eq}
use Rattle.gx_num.specs.Vector.{is_same}
use Rattle.gx_num.specs.declared.vector.V3.{V3}
use Rattle.gx_num.specs.Space.{HalfSpace}
use Rattle.gx_plane.specs.Plane.{supports}
use Rattle.gx_plane.specs.Between.{candidates}
use Rattle.gx_convex.specs.Points.{distinct_by}

abbrev pub is_same_plane : HalfSpace → HalfSpace → Bool
is_same_plane a b = is_same a.n b.n && int_eq a.e b.e

-- the planes of three points, each both ways, that have no point beyond them, in the order of the triples; each once
abbrev pub faces_of : List V3 → List HalfSpace
faces_of points = distinct_by is_same_plane [] (filter (λ h. supports h points) (candidates points))
