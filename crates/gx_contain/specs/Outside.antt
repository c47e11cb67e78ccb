-- The vertices of a solid that are outside another.
use Rattle.std.specs.Prelude.{pos, int_le, Bool, not, find, List, Option}
use Rattle.std.specs.List.{list_all}
use Rattle.gx_num.specs.declared.vector.V3.{V3}
use Rattle.gx_num.specs.Space.{HalfSpace}
use Rattle.gx_plane.specs.Plane.{side_of}
use Rattle.gx_convex.specs.Faces.{faces_of}

-- the point is beyond none of the planes
abbrev pub is_within : List HalfSpace → V3 → Bool
is_within planes p = list_all (λ h. int_le (side_of h p) (pos 0)) planes

-- the first of the daughter's vertices that is beyond a face of the mother's
abbrev pub first_outside : List V3 → List V3 → Option V3
first_outside mother daughter = find (λ p. not (is_within (faces_of mother) p)) daughter
